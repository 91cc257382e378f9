-- What a filter may give: how long a text may be, and how deep a value may nest.
use Rattle.std.specs.Prelude.{ℕ, suc, max, nat_lt, nat_le, Bool, length, if◌then◌else◌, Option, Some, None, Result, Ok, Err}
use Rattle.site_base.specs.Plain.{Plain, nil, bool, int, text, list, hash, site_item, range, Items, no_items, item, Pairs, no_pairs, pair}
use Rattle.site_base.specs.declared.faults.FaultKind.{FaultKind}
use Rattle.site_base.specs.declared.faults.FaultKind.TheVariants.{Nesting, OutputTooLong}

-- the most bytes of a text that is made
abbrev pub most_text : ℕ
most_text = 16777216

-- how deep a value may nest that is made
abbrev pub most_nesting : ℕ
most_nesting = 1000

-- the most numbers of a range that are laid out
abbrev pub most_counted : ℕ
most_counted = 1000000

-- a list or a hash nests one deeper than its deepest member
abbrev mutual
  pub nests : Plain → ℕ
  nests nil = 0
  nests (bool b) = 0
  nests (int n) = 0
  nests (text t) = 0
  nests (list is) = suc (items_nest is)
  nests (hash ps) = suc (pairs_nest ps)
  nests (site_item path part) = 0
  nests (range a b) = 0

  pub items_nest : Items → ℕ
  items_nest no_items = 0
  items_nest (item v is) = max (nests v) (items_nest is)

  pub pairs_nest : Pairs → ℕ
  pairs_nest no_pairs = 0
  pairs_nest (pair k v ps) = max (nests v) (pairs_nest ps)

-- the fault of a text of this length, and of a value that nests so deep
abbrev pub text_excess : ℕ → Option FaultKind
text_excess len = if nat_lt most_text len then Some OutputTooLong else None

abbrev pub nesting_excess : Bool → Option FaultKind
nesting_excess within = if within then None else Some Nesting

abbrev pub excess : Plain → Option FaultKind
excess nil = None
excess (bool b) = None
excess (int n) = None
excess (text t) = text_excess (length t)
excess (list is) = nesting_excess (nat_le (nests (list is)) most_nesting)
excess (hash ps) = nesting_excess (nat_le (nests (hash ps)) most_nesting)
excess (site_item path part) = None
excess (range a b) = None

abbrev pub unless : Plain → Option FaultKind → Result Plain FaultKind
unless v None = Ok v
unless v (Some kind) = Err kind

-- the value, where it is neither too long nor nests too deep
abbrev pub fits : Plain → Result Plain FaultKind
fits v = unless v (excess v)
