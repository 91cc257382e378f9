use Rattle.std.proofs.Common.{◌≡◌, [], List, drop, map}
use Rattle.std.specs.Global.{Vec}
use Rattle.std.specs.HashSet as bag
use Rattle.std.specs.Str.{bytes_eq}
use Rattle.std.specs.Prelude.{ℕ}
use Rattle.site_base.specs.Plain.{Plain, onto}
use Rattle.filter_base.specs.Taken.{entry_of}
use Rattle.list_filters.specs.Choosing.{first_of_each}
use Rattle.list_filters.proofs.SelectionLaws.{has_code}
use Rattle.list_filters.proofs.choosing.first_of_each_in.Given as goal

abbrev pub invariant-loop-entry : goal.invariant-loop-entry
invariant-loop-entry l = record {
  met : List Plain;
  rest : onto l.list (first_of_each met (map entry_of (drop l.entry-index l.entries))) ≡ first_of_each [] (map entry_of l.entries);
  has : (q : Vec ℕ) → bag.contains (λ x y. bytes_eq x.items y.items) l.met q ≡ has_code met q.items;
}
