-- The data tree: the values of data files under their folders and names. After Jekyll 4's manual, "Data Files".
use Rattle.std.specs.Prelude.{ℕ, List, [], ◌∷◌, codes, Option, Some, None, is_some, Ok, Err, if◌then◌else◌}
use Rattle.std.specs.Str.{is_utf8}
use Rattle.site_base.specs.Chains.{◌>>=◌}
use Rattle.site_base.specs.Path.{segments}
use Rattle.site_base.specs.Plain.{Plain, hash, Pairs, no_pairs, get, set}
use Rattle.site_base.specs.declared.faults.FaultKind.TheVariants as fault
use Rattle.front_yaml.specs.Reading.{Reading}
use Rattle.front_yaml.specs.Yaml.{yaml}
use Rattle.data_files.specs.Formats.{format}
use Rattle.data_files.specs.Json.{json}
use Rattle.data_files.specs.Tables.{table_of}
use Rattle.data_files.specs.declared.format.Format.{Format}
use Rattle.data_files.specs.declared.format.Format.TheVariants as form
use Rattle.site_files.specs.declared.place.Place.TheVariants as place
use Rattle.site_items.specs.Addresses.{behind, without_extension}
use Rattle.site_items.specs.Outcomes.{Outcome}
use Rattle.site_reader.specs.Found.{Found, each, in_file}
use Rattle.site_reader.specs.Placing.{File, Placed}

abbrev pub of_yaml : Reading Plain → Outcome Plain
of_yaml (Ok v) = Ok v
of_yaml (Err f) = Err (f.0, fault.Yaml f.1)

abbrev pub of_data : Option Plain → Outcome Plain
of_data (Some v) = Ok v
of_data None = Err (0, fault.Data)

-- the value of a text in a format
abbrev pub text_value : Format → List ℕ → Outcome Plain
text_value form.Yaml s = of_yaml (yaml s)
text_value form.Json s = of_data (json s)
text_value form.Csv s = of_data (table_of 44 s)
text_value form.Tsv s = of_data (table_of 9 s)

-- the value of a text whose path names its format
abbrev pub found_text : Option Format → List ℕ → Outcome (Option Plain)
found_text None s = Ok None
found_text (Some f) s = text_value f s >>= λ v. Ok (Some v)

abbrev pub text_answer : List ℕ → List ℕ → Outcome (Option Plain)
text_answer path s = found_text (format path) s

abbrev pub bytes_answer : List ℕ → List ℕ → Outcome (Option Plain)
bytes_answer path bytes = if is_utf8 bytes then text_answer path bytes else Err (0, fault.NotUtf8)

-- the value of a data file; other files have none
abbrev pub data_value : List ℕ → List ℕ → Outcome (Option Plain)
data_value path bytes = if is_some (format path) then bytes_answer path bytes else Ok None

-- the hash at a key, and an empty one where another value or none is
abbrev pub pairs_or_none : Option Plain → Pairs
pairs_or_none (Some (hash ps)) = ps
pairs_or_none other = no_pairs

-- a value below folders: each folder's key has a hash, to which its files add
abbrev pub with_value : List (List ℕ) → Plain → Pairs → Pairs
with_value [] v tree = tree
with_value (name ∷ []) v tree = set name v tree
with_value (folder ∷ name ∷ names) v tree = set folder (hash (with_value (name ∷ names) v (pairs_or_none (get folder tree)))) tree

-- the folders of a data file below `_data`, and its name without extension
abbrev pub data_names : List ℕ → List (List ℕ)
data_names path = segments (without_extension (behind (codes "_data/") path))

abbrev pub with_found : List (List ℕ) → Option Plain → Pairs → Pairs
with_found names None tree = tree
with_found names (Some v) tree = with_value names v tree

abbrev pub add_file : File → Pairs → Found Pairs
add_file file tree = in_file file.0 (data_value file.0 file.1) >>= λ found. Ok (with_found (data_names file.0) found tree)

-- what a file adds to the tree, where it is a data file
abbrev pub add_data : Placed → Pairs → Found Pairs
add_data (place.Data, file) tree = add_file file tree
add_data (other, file) tree = Ok tree

abbrev pub data_tree : List Placed → Found Pairs
data_tree files = each add_data files no_pairs
