-- A JSON text read in one pass: what a value of the grammar says, and what is known before a closing bracket.
use Rattle.std.specs.Prelude.{ℕ, List, [], ◌∷◌, map, Option, Some, option_and_then, option_map}
use Rattle.std.specs.Borrow.{Bor}
use Rattle.std.specs.Ordering.{nat_cmp}
use Rattle.std.specs.Cmp.Lexicographic.{slice_cmp}
use Rattle.std.specs.BTreeMap.{insert_entry}
use Rattle.json.specs.Json as json
use Rattle.serde_json.specs.Read.{of_json, of_items as items_of_json}
use Rattle.site_base.specs.Plain.{Plain, Items, no_items, item, onto, hash, Pairs, no_pairs, set}
use Rattle.site_base.specs.View.{plain}
use Rattle.site_base.specs.declared.value.Value.{Value}
use Rattle.data_files.specs.Json.{of_data, of_items}

-- what a value says: nothing where a number is too large for a float, and no value where one is not whole or has not 64 bits
abbrev pub reading : json.Json → Option (Option Plain)
reading j = option_map of_data (of_json j)

abbrev pub items_reading : json.Items → Option (Option Items)
items_reading js = option_map of_items (items_of_json js)

-- members by key, in the byte order of the keys
abbrev pub Found : Type 0
Found = List (List ℕ × Option Plain)

-- the members, put one after another among those that were found before
abbrev pub members_reading : Found → json.Members → Option Found
members_reading found json.no_members = Some found
members_reading found (json.member k j ms) = option_and_then (λ read. members_reading (insert_entry (slice_cmp nat_cmp) found k read) ms) (reading j)

abbrev pub seen_entry : Bor (List ℕ) × Option Value → List ℕ × Option Plain
seen_entry e = (e.0.now, option_map plain e.1)

abbrev pub seen : List (Bor (List ℕ) × Option Value) → Found
seen es = map seen_entry es

-- the members as pairs, where each has a value
abbrev pub set_all : Found → Pairs → Option Pairs
set_all [] ps = Some ps
set_all (e ∷ es) ps = option_and_then (λ v. set_all es (set e.0 v ps)) e.1

abbrev pub object_of : Found → Option Plain
object_of es = option_map hash (set_all es no_pairs)

-- items and one more, where all have values
abbrev pub with_last : Option Items → Option Plain → Option Items
with_last is v = option_and_then (λ before. option_map (λ last. onto before (item last no_items)) v) is
