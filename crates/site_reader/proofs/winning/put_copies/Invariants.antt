use Rattle.std.proofs.Common.{◌≡◌, drop}
use Rattle.site_reader.specs.Winners.{with_copies}
use Rattle.site_reader.proofs.winning.put_copies.Given as goal

abbrev pub invariant-loop-copy : goal.invariant-loop-copy
invariant-loop-copy l =
    (l.place ≡ l.copy-index)
    × (with_copies l.won.entries l.place (drop l.copy-index l.copies) ≡ with_copies l.fn.won.entries 0 l.copies)
