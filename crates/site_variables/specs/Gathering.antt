-- The posts by their names, as they are gathered: the oldest first, until each list is turned round.
use Rattle.std.specs.Prelude.{ℕ, List, fold, Some}
use Rattle.site_base.specs.Plain.{Plain, list, Items, no_items, item, Pairs, no_pairs, pair, get, onto, set}
use Rattle.site_reader.specs.declared.site_item.SiteItem.{SiteItem}
use Rattle.site_variables.specs.Labels.{labels, values_in}
use Rattle.site_variables.specs.Lists.{named}

-- a post behind all others of one name
abbrev pub behind_others : Plain → Pairs → List ℕ → Pairs
behind_others post groups name = set name (list (onto (values_in (get name groups)) (item post no_items))) groups

abbrev pub with_newer : List ℕ → Pairs → SiteItem → Pairs
with_newer key groups post = fold (behind_others (named post)) groups (labels key post)

abbrev pub oldest_first : List ℕ → List SiteItem → Pairs
oldest_first key posts = fold (with_newer key) no_pairs posts

-- values in reverse
abbrev pub backwards : Items → Items
backwards no_items = no_items
backwards (item v is) = onto (backwards is) (item v no_items)

abbrev pub newest_first : Pairs → Pairs
newest_first no_pairs = no_pairs
newest_first (pair name posts others) = pair name (list (backwards (values_in (Some posts)))) (newest_first others)
