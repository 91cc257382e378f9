use Rattle.std.proofs.Common.{◌≡◌, ◌+◌, ◌-◌, arith}
use Rattle.site_reader.specs.FirstPlaces.{place_in}
use Rattle.site_reader.proofs.FirstPlaceLaws.{one_before}
use Rattle.site_reader.proofs.first_places.FirstPlaces.of.Goals as goal

pub loop-place-preserved : goal.loop-place-preserved
loop-place-preserved c = λ x.
    let p = c.loop-place.place - 1 in let next : p + 1 ≡ c.loop-place.place = omega arith in
    one_before c.args.texts.now x c.at.result.now p c.loop-place.place (place_in c.loop-place.places x) (place_in c.put.new.places x) next c.at.ensures (c.in_ok-put.ensures x) (c.loop-place.invariant x)
