use Rattle.std.proofs.Common.{◌≡◌, w64, to_z, of_z, arith}
use Rattle.std.proofs.lemmas.Int.{ints, to_z-of_z}
use Rattle.filter_base.proofs.ItemLaws.{counted_more}
use Rattle.filter_base.proofs.elements.counted.Goals as goal

pub loop-place-preserved : goal.loop-place-preserved
loop-place-preserved c =
    let first = to_z w64 (of_z w64 c.args.first) in
    let a = counted_more c.loop-place.list first c.args.count c.loop-place.place c.loop-place-test.true in
    let x : to_z w64 (of_z w64 c.number_at.result) ≡ c.number_at.result = grind (arith, ints, to_z-of_z) in
    cc (a, c.in_ok-push.ensures.ok, c.number_at.ensures, x)
