-- Items with their neighbours: the document before and the one behind in the same collection, as `next` and `previous` of Jekyll 4's manual, "Variables".
use Rattle.std.specs.Prelude.{ℕ, ◌==◌, nat_lt, Bool, List, [], ◌∷◌, codes, Option, Some, None, if◌then◌else◌}
use Rattle.site_base.specs.Plain.{Plain, nil, site_item, Pairs, set}
use Rattle.site_base.specs.declared.value.Value.TheVariants as value
use Rattle.site_items.specs.declared.item.Item.{Item}
use Rattle.site_reader.specs.Ranks.{Ranked}
use Rattle.site_reader.specs.declared.rank.Rank.{Rank}
use Rattle.site_reader.specs.declared.site_item.SiteItem.{SiteItem}

-- an item of the same group, by its name
abbrev pub neighbour : Rank → Option Rank → Plain
neighbour rank None = nil
neighbour rank (Some other) = if other.group == rank.group then site_item other.path 0 else nil

-- what a document has besides: the one before it and the one behind
abbrev pub between : Bool → Plain → Plain → Pairs → Pairs
between document previous next vars = if document then set (codes "previous") previous (set (codes "next") next vars) else vars

-- documents know their neighbours; groups from this number on are of pages
abbrev pub with_neighbours : ℕ → Rank → Option Rank → Option Rank → Pairs → Pairs
with_neighbours documents rank before behind vars =
    between (nat_lt rank.group documents) (neighbour rank before) (neighbour rank behind) vars

abbrev pub site_item_of : ℕ → Rank → Option Rank → Option Rank → Item → SiteItem
site_item_of documents rank before behind item = record {
  name = record { path = rank.path; part = 0 };
  group = rank.group;
  body = item.body;
  vars = value.Hash (with_neighbours documents rank before behind item.vars);
  url = item.url;
  dest = item.dest;
  paginator = value.Nil;
}

abbrev pub first_rank : Ranked → Option Rank
first_rank [] = None
first_rank (e ∷ es) = Some e.0

-- the items of a site in their order, where this one stands before the first
unfoldable pub site_items : ℕ → Option Rank → Ranked → List SiteItem
site_items documents before [] = []
site_items documents before (e ∷ es) = site_item_of documents e.0 before (first_rank es) e.1 ∷ site_items documents (Some e.0) es
