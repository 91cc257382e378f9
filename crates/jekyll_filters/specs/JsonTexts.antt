-- Values as texts in JSON (RFC 8259). After Jekyll 4's manual, "Liquid Filters": `jsonify`.
use Rattle.std.specs.Prelude.{ℕ, List, [], ◌∷◌, ◌++◌, codes}
use Rattle.site_base.specs.Plain.{Plain, nil, bool, int, text, list, hash, site_item, range, Items, no_items, item, Pairs, no_pairs, pair}
use Rattle.site_base.specs.Values.{value_text, range_text}
use Rattle.site_base.specs.declared.faults.FaultKind.{FaultKind}
use Rattle.serde_json.specs.Data.{Data, null, boolean, number, string, array, object, Members, no_members, put}
use Rattle.serde_json.specs.Find.{of_integer}
use Rattle.serde_json.specs.View.{items_of}
use Rattle.serde_json.specs.Written.{compact_text}
use Rattle.read_record.specs.declared.key.Key.{Key}
use Rattle.read_record.specs.declared.key.Key.TheVariants.{Var}
use Rattle.read_record.specs.Queries.{Query, Give, Ask, bind}
use Rattle.filter_base.specs.Answers.{made}
use Rattle.filter_base.specs.Arguments.{no_more}

-- the address of an item
abbrev pub url_key : List ℕ → ℕ → Key
url_key path part = Var (record { path = path; part = part }) (codes "url")

-- a value as data. An item is its address, and a range its text; an object has its names in the order of their bytes
abbrev mutual
  pub data_of : Plain → Query FaultKind Data
  data_of nil = Give null
  data_of (bool b) = Give (boolean b)
  data_of (int n) = Give (number (of_integer n))
  data_of (text t) = Give (string t)
  data_of (list is) = bind (items_data is []) (λ ds. Give (array (items_of ds)))
  data_of (hash ps) = bind (pairs_data ps no_members) (λ ms. Give (object ms))
  data_of (site_item path part) = Ask (url_key path part) (λ url. Give (string (value_text url)))
  data_of (range a b) = Give (string (range_text a b))

  -- the data of items, behind other data
  pub items_data : Items → List Data → Query FaultKind (List Data)
  items_data no_items ds = Give ds
  items_data (item v is) ds = bind (data_of v) (λ d. items_data is (ds ++ d ∷ []))

  -- the data of pairs among other members
  pub pairs_data : Pairs → Members → Query FaultKind Members
  pairs_data no_pairs ms = Give ms
  pairs_data (pair k v ps) ms = bind (data_of v) (λ d. pairs_data ps (put k d ms))

-- its text, without white space
abbrev pub json_text : Plain → Query FaultKind Plain
json_text v = bind (data_of v) (λ d. Give (text (compact_text d)))

abbrev pub jsonify : Plain → List Plain → Query FaultKind Plain
jsonify v ws = bind (made (no_more ws)) (λ _. json_text v)
