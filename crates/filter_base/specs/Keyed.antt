-- The elements of a filter's input, each with a key: what it is chosen or ordered by. After the reference of Liquid 4 (Shopify), "Filters" (`where`, `sort`, `uniq`).
use Rattle.std.specs.Prelude.{ℕ, List, [], ◌∷◌, Option, Some, None}
use Rattle.site_base.specs.Plain.{Plain, nil, Items, no_items, item}
use Rattle.site_base.specs.Values.{value_text}
use Rattle.site_base.specs.declared.faults.FaultKind.{FaultKind}
use Rattle.read_record.specs.Queries.{Query, Give, bind}
use Rattle.filter_base.specs.Answers.{made}
use Rattle.filter_base.specs.Elements.{elements}
use Rattle.filter_base.specs.Properties.{properties}

-- the name of a property, where an argument gives one
abbrev pub name_given : Option Plain → Option (List ℕ)
name_given None = None
name_given (Some nil) = None
name_given (Some w) = Some (value_text w)

pub record Source : Type 0 where
  pub elements : Items
  pub keys : Items

abbrev pub source : Items → Items → Source
source is ks = record { elements = is; keys = ks }

-- each key is the element's property of that name, or where there is no name the element itself
abbrev pub keys : Option (List ℕ) → Items → Query FaultKind Items
keys None is = Give is
keys (Some name) is = properties name is

abbrev pub keyed : Option (List ℕ) → Plain → Query FaultKind Source
keyed name v = bind (made (elements v)) (λ is. bind (keys name is) (λ ks. Give (source is ks)))

-- one element with its key
pub record Entry : Type 0 where
  pub key : Plain
  pub value : Plain

abbrev pub paired : Items → Items → List Entry
paired no_items ks = []
paired (item v is) no_items = []
paired (item v is) (item k ks) = record { key = k; value = v } ∷ paired is ks

abbrev pub entries : Source → List Entry
entries s = paired s.elements s.keys

-- the elements alone
abbrev pub values : List Entry → Items
values [] = no_items
values (e ∷ es) = item e.value (values es)
