use Rattle.std.proofs.Common.{arith, drop, length, subst, take, List, ℕ, ◌+◌, ◌-◌, ◌<◌, ◌≤◌}
use Rattle.std.proofs.lemmas.List.{drop_all, drop_more}
use Rattle.cm_inlines.specs.Machine.{pair_from}
use Rattle.cm_inlines.specs.Pairing.{Paired}
use Rattle.cm_inlines.proofs.PairLaws.{ends_paired, starts_paired}
use Rattle.cm_inlines.proofs.pairing.pair_runs.Goals as goal

pub loop-place-init : goal.loop-place-init
loop-place-init c = rw c.new-openers.ensures.places (λ start s. starts_paired start c.args.nodes.now.items c.args.places.now c.new-openers.result.misses c.new-openers.ensures.floors s)

pub loop-place-preserved : goal.loop-place-preserved
loop-place-preserved c = λ start s.
    let old = c.args.nodes.now.items in
    let whole = pair_from start start (length old - start) old in
    let lt : c.loop-place.place-index < length c.args.places.now = omega (arith, c.loop-place-test.true) in
    c.in_ok-pair_run.ensures (take start old) (drop (c.loop-place.place-index + 1) c.args.places.now) whole
    (subst (λ (qs : List ℕ). Paired (take start old) c.loop-place.openers.places.items qs c.loop-place.openers.misses c.loop-place.nodes.items whole) (drop_more c.args.places.now c.loop-place.place-index 0 lt) (c.loop-place.invariant start s))

pub returns : goal.returns
returns c = λ start s.
    let old = c.args.nodes.now.items in
    let whole = pair_from start start (length old - start) old in
    let past : length c.args.places.now ≤ c.loop-place.place-index = omega (arith, c.loop-place-test.false) in
    ends_paired start old c.loop-place.nodes.items c.loop-place.openers.places.items c.loop-place.openers.misses s.order
    (subst (λ (qs : List ℕ). Paired (take start old) c.loop-place.openers.places.items qs c.loop-place.openers.misses c.loop-place.nodes.items whole) (drop_all c.loop-place.place-index c.args.places.now past) (c.loop-place.invariant start s))
