-- Which files are data files, and what their texts say.
use Rattle.std.specs.Prelude.{◌≡◌, ℕ, nat_eq, Bool, ◌||◌, List, Option, Some, None, Result, Ok, Err, codes, if◌then◌else◌}
use Rattle.std.specs.List.{ends_with}
use Rattle.site_base.specs.View.{plain}
use Rattle.site_base.specs.declared.value.Value.{Value}
use Rattle.front_yaml.specs.Yaml.{yaml}
use Rattle.data_files.specs.Json.{json}
use Rattle.data_files.specs.Tables.{table_of}
use Rattle.data_files.specs.declared.refusal.Refusal.{Refusal}
use Rattle.data_files.specs.declared.refusal.Refusal.TheVariants as refusal
use Rattle.data_files.specs.declared.format.Format.{Format}
use Rattle.data_files.specs.declared.format.Format.TheVariants as form
use Rattle.data_files.specs.declared.data_error.DataError.{DataError}
use Rattle.data_files.specs.declared.data_error.DataError.TheVariants as data_error

abbrev pub has_end : List ℕ → List ℕ → Bool
has_end path end = ends_with nat_eq path end

-- the format that the end of a path names
abbrev pub format : List ℕ → Option Format
format path =
    if has_end path (codes ".yml") || has_end path (codes ".yaml") then Some form.Yaml
    else if has_end path (codes ".json") then Some form.Json
    else if has_end path (codes ".csv") then Some form.Csv
    else if has_end path (codes ".tsv") then Some form.Tsv
    else None

-- the text has this value in the format
abbrev pub Says : Format → List ℕ → Value → Type 0
Says form.Yaml s v = yaml s ≡ Ok (plain v)
Says form.Json s v = json s ≡ Some (plain v)
Says form.Csv s v = table_of 44 s ≡ Some (plain v)
Says form.Tsv s v = table_of 9 s ≡ Some (plain v)

-- the text has no value in the format; memory may be wanting with any text
abbrev pub Refuses : Format → List ℕ → DataError → Type 0
Refuses form.Yaml s (data_error.Yaml fault) = yaml s ≡ Err (fault.line, fault.kind)
Refuses form.Json s data_error.Refused = json s ≡ None
Refuses form.Csv s data_error.Refused = table_of 44 s ≡ None
Refuses form.Tsv s data_error.Refused = table_of 9 s ≡ None
Refuses f s data_error.Memory = Unit {0}
Refuses f s e = ⊥

abbrev pub Reads : Format → List ℕ → Result Value DataError → Type 0
Reads f s (Ok v) = Says f s v
Reads f s (Err e) = Refuses f s e

-- a file of a format has a value or is refused, and another file is no data file
abbrev pub ReadsFile : Option Format → List ℕ → Result (Option Value) DataError → Type 0
ReadsFile None s (Ok None) = Unit {0}
ReadsFile (Some f) s (Ok (Some v)) = Says f s v
ReadsFile (Some f) s (Err e) = Refuses f s e
ReadsFile o s r = ⊥

-- the answer of a format other than YAML
abbrev pub as_data : Result Value Refusal → Result Value DataError
as_data (Ok v) = Ok v
as_data (Err refusal.Refused) = Err data_error.Refused
as_data (Err refusal.Memory) = Err data_error.Memory
