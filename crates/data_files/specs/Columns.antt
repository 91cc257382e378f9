-- The columns of a table, found once: each name, in the order of the first record, with the place of the last field that it has.
use Rattle.std.specs.Prelude.{◌≡◌, ℕ, suc, ◌==◌, List, [], ◌∷◌, ◌++◌, length, map, if◌then◌else◌, Option, Some, None, String, string_bytes}
use Rattle.std.specs.Str.{bytes_eq}
use Rattle.std.specs.declared.alloc.Global.{Global}
use Rattle.csv.specs.Records.{field_at}
use Rattle.indexmap.specs.IndexMap.{insert_entry}
use Rattle.site_base.specs.Plain.{Plain, nil, text, hash, Pairs, no_pairs, pair, onto_pairs}
use Rattle.data_files.specs.Tables.{hashes}
use Rattle.data_files.specs.declared.tables.Columns.{Columns}
use Rattle.data_files.specs.declared.tables.Table.{Table}
use Rattle.data_files.specs.declared.tables.Table.TheVariants as the

-- names, each with a place
abbrev pub Places : Type 0
Places = List (List ℕ × ℕ)

-- the same of texts
abbrev pub named : String Global × ℕ → List ℕ × ℕ
named column = (string_bytes column.0, column.1)

abbrev pub seen : List (String Global × ℕ) → Places
seen = map named

-- a name's place, where there is a name
abbrev pub place_set : Option (List ℕ) → ℕ → Places → Places
place_set None place columns = columns
place_set (Some name) place columns = insert_entry bytes_eq columns name place

-- the names with their places, from a place on
abbrev pub placed : List (List ℕ) → ℕ → Places → Places
placed [] place columns = columns
placed (name ∷ names) place columns = placed names (suc place) (insert_entry bytes_eq columns name place)

abbrev pub text_or_nil : Option (List ℕ) → Plain
text_or_nil None = nil
text_or_nil (Some field) = text field

-- the fields of a row, each by its name
abbrev pub picked : List (List ℕ) → Places → Pairs
picked fields [] = no_pairs
picked fields (column ∷ columns) = pair column.0 (text_or_nil (field_at fields column.1)) (picked fields columns)

-- pairs and one more, where there is a column
abbrev pub with_field : List (List ℕ) → Option (List ℕ × ℕ) → Pairs → Pairs
with_field fields None ps = ps
with_field fields (Some column) ps = onto_pairs ps (pair column.0 (text_or_nil (field_at fields column.1)) no_pairs)

abbrev pub row_of : ℕ → Places → List (List ℕ) → Option Plain
row_of count columns row = if length row == count then Some (hash (picked row columns)) else None

abbrev pub AreColumns : Columns → List (List ℕ) → Type 0
AreColumns columns names = (columns.count ≡ length names) × (seen columns.places.entries ≡ placed names 0 [])

-- these records make the table
abbrev pub IsOf : Table → List (List (List ℕ)) → Type 0
IsOf the.Empty rows = rows ≡ []
IsOf (the.Rows columns made) rows = (names : List (List ℕ)) × (more : List (List (List ℕ))) × (rows ≡ names ∷ more) × AreColumns columns names × (made ≡ hashes names more)

-- the table with one more record
abbrev pub GoesOn : Table → List (List ℕ) → Table → Type 0
GoesOn table row made = (rows : List (List (List ℕ))) → IsOf table rows → IsOf made (rows ++ row ∷ [])
