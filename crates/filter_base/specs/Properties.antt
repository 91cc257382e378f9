-- Properties: what a filter asks of each element where it is given a name. After the reference of Liquid 4 (Shopify), "Filters" (`map`, `where`, `sort`).
use Rattle.std.specs.Prelude.{ℕ, List, codes, if◌then◌else◌, Option, Some, None}
use Rattle.std.specs.Str.{bytes_eq}
use Rattle.site_base.specs.Plain.{Plain, nil, bool, int, text, list, hash, site_item, range, Items, no_items, item, get}
use Rattle.site_base.specs.declared.faults.FaultKind.{FaultKind}
use Rattle.site_base.specs.declared.item_name.ItemName.{ItemName}
use Rattle.read_record.specs.declared.key.Key.{Key}
use Rattle.read_record.specs.declared.key.Key.TheVariants.{Content, Output, Var}
use Rattle.read_record.specs.Queries.{Query, Give, Ask, bind}

abbrev pub or_nil : Option Plain → Plain
or_nil None = nil
or_nil (Some v) = v

-- what of an item is looked up: its variable, but for two names that stand for its texts
abbrev pub property_key : ItemName → List ℕ → Key
property_key named name =
    if bytes_eq name (codes "content") then Content named
    else if bytes_eq name (codes "output") then Output named
    else Var named name

-- of a hash the key's value, of an item what is looked up, of any other value nil
abbrev pub property : List ℕ → Plain → Query FaultKind Plain
property name nil = Give nil
property name (bool b) = Give nil
property name (int n) = Give nil
property name (text t) = Give nil
property name (list is) = Give nil
property name (hash ps) = Give (or_nil (get name ps))
property name (site_item path part) = Ask (property_key (record { path = path; part = part }) name) Give
property name (range a b) = Give nil

-- what a query gives for each item, in their order
abbrev pub each : (Plain → Query FaultKind Plain) → Items → Query FaultKind Items
each ask no_items = Give no_items
each ask (item v is) = bind (ask v) (λ p. bind (each ask is) (λ ps. Give (item p ps)))

abbrev pub properties : List ℕ → Items → Query FaultKind Items
properties name is = each (property name) is
