-- The value of a text of records, RFC 4180: the first record has the names, and each later one is a hash of texts by them.
use Rattle.std.specs.Prelude.{◌≡◌, ℕ, ◌==◌, List, [], ◌∷◌, length, if◌then◌else◌, Option, Some, None, option_map}
use Rattle.site_base.specs.Plain.{Plain, text, list, hash, Items, no_items, item, Pairs, no_pairs, set}
use Rattle.csv.specs.declared.parser.Config.{Config}
use Rattle.csv.specs.declared.parser.State.TheVariants as st
use Rattle.data_files.specs.declared.refusal.Refusal.{Refusal}
use Rattle.data_files.specs.declared.refusal.Refusal.TheVariants as refusal
use Rattle.csv.specs.Reading.{AreRecords, default_config, records, strip_bom}

-- each field by its name; the later of two equal names counts
abbrev pub fill : List (List ℕ) → List (List ℕ) → Pairs → Pairs
fill (name ∷ names) (field ∷ fields) ps = fill names fields (set name (text field) ps)
fill names fields ps = ps

-- the records as hashes, where each has as many fields as there are names
abbrev pub hashes : List (List ℕ) → List (List (List ℕ)) → Option Items
hashes names [] = Some no_items
hashes names (r ∷ rs) = if length r == length names then option_map (item (hash (fill names r no_pairs))) (hashes names rs) else None

abbrev pub table : List (List (List ℕ)) → Option Plain
table [] = Some (list no_items)
table (names ∷ rows) = option_map list (hashes names rows)

-- fields with this byte between them, records that end at LF, CR or CR LF, and quotes that are doubled inside quotes
abbrev pub separated : ℕ → Config
separated b = record default_config { delimiter = b }

-- the value of a text of records, behind a byte-order mark
abbrev pub table_of : ℕ → List ℕ → Option Plain
table_of separator s = table (records (separated separator) (strip_bom s))

-- the same of an answer; memory may be wanting with any text
abbrev pub IsNoTable : Refusal → ℕ → List ℕ → Type 0
IsNoTable refusal.Refused separator s = table_of separator s ≡ None
IsNoTable refusal.Memory separator s = Unit {0}

-- ---- records as a reader finds them, which private clauses cite

abbrev pub AreRows : ℕ → List ℕ → List (List (List ℕ)) → Type 0
AreRows separator s rows = AreRecords (separated separator) st.StartRecord (strip_bom s) rows

-- what the records of a text make
abbrev pub IsTable : ℕ → List ℕ → Option Plain → Type 0
IsTable separator s made = (rows : List (List (List ℕ))) × AreRows separator s rows × (table rows ≡ made)

-- a reader that found a record of another number of fields
abbrev pub FoundNone : Refusal → ℕ → List ℕ → Type 0
FoundNone refusal.Refused separator s = IsTable separator s None
FoundNone refusal.Memory separator s = Unit {0}
