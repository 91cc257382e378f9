-- The value of a JSON text, RFC 8259: what the text says, where each of its numbers is whole and has 64 bits.
use Rattle.std.specs.Prelude.{◌≡◌, ℕ, List, Option, Some, None, option_and_then, option_map}
use Rattle.site_base.specs.Plain.{Plain, nil, bool, int, text, list, hash, no_pairs, set}
use Rattle.site_base.specs.Plain as plain
use Rattle.serde_json.specs.Data.{Data, null, boolean, number, string, array, object, Items, no_items, item, Members, no_members, member}
use Rattle.serde_json.specs.Find.{as_i64}
use Rattle.serde_json.specs.Read.{read}
use Rattle.data_files.specs.declared.refusal.Refusal.{Refusal}
use Rattle.data_files.specs.declared.refusal.Refusal.TheVariants as refusal

-- the members come in the byte order of their keys, each key once
abbrev mutual
  pub of_data : Data → Option Plain
  of_data null = Some nil
  of_data (boolean b) = Some (bool b)
  of_data (number n) = option_map int (as_i64 n)
  of_data (string s) = Some (text s)
  of_data (array ds) = option_map list (of_items ds)
  of_data (object ms) = option_map hash (set_members ms no_pairs)

  pub of_items : Items → Option plain.Items
  of_items no_items = Some plain.no_items
  of_items (item d ds) = option_and_then (λ v. option_map (plain.item v) (of_items ds)) (of_data d)

  pub set_members : Members → plain.Pairs → Option plain.Pairs
  set_members no_members ps = Some ps
  set_members (member k d ms) ps = option_and_then (λ v. set_members ms (set k v ps)) (of_data d)

abbrev pub json : List ℕ → Option Plain
json s = option_and_then of_data (read s)

-- an answer says whether there is a value, and which; memory may be wanting in any case
abbrev pub IsRefused : {A : Type 0} → Refusal → Option A → Type 0
IsRefused refusal.Refused o = o ≡ None
IsRefused refusal.Memory o = Unit {0}
