use Rattle.std.proofs.Common.{◌≡◌, ◌+◌, arith, refl, rules}
use Rattle.std.specs.Prelude.{IsTrue}
use Rattle.std.specs.FinMap.{len}
use Rattle.source_tree.proofs.Same.{same_all, same_next}
use Rattle.source_tree.proofs.held.Held.has_files_of.Goals as goal

pub loop-place-preserved : goal.loop-place-preserved
loop-place-preserved c =
    let mine = c.args.self.now in let its = c.args.other.now in
    let same : len mine ≡ len its = omega (arith, c.len.ensures.number, c.len-2.ensures.number, c.if-len.false) in
    let there : IsTrue c.has_file_of.result = search rules in
    same_next mine its c.loop-place.place (c.loop-place.place + 1) refl (omega (arith, c.loop-place-test.true, c.loop-place.auto.place-end, c.len-place-end.ensures.number)) same (c.has_file_of.ensures.0 there) c.loop-place.invariant

pub returns : goal.returns
returns c =
    let mine = c.args.self.now in let its = c.args.other.now in
    let same : len mine ≡ len its = omega (arith, c.len.ensures.number, c.len-2.ensures.number, c.if-len.false) in
    (λ _. same_all mine its c.loop-place.place same (omega (arith, c.loop-place-test.false, c.len-place-end.ensures.number)) c.loop-place.invariant, λ _. refl)
