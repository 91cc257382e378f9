use Rattle.std.proofs.Common.{ap, ◌∙◌, ◌++◌, ◌+◌, drop, arith}
use Rattle.site_words.proofs.Gathering.{all_gathered, gathered, texts}
use Rattle.site_words.proofs.reading.words_after_first.Goals as goal

pub loop-place-init : goal.loop-place-init
loop-place-init c = ap (λ xs. texts xs ++ drop 1 c.args.words.now) c.new-rest.ensures.items

pub loop-place-preserved : goal.loop-place-preserved
loop-place-preserved c =
    let words = c.args.words.now in
    ap (λ xs. texts xs ++ drop (c.loop-place.place + 1) words) c.in_ok-push.ensures.items ∙ gathered c.loop-place.rest.items c.at.result words c.loop-place.place c.at.ensures c.loop-place.invariant

pub returns : goal.returns
returns c = all_gathered c.loop-place.rest.items c.args.words.now c.loop-place.place (omega (arith, c.len-place-end.ensures, c.loop-place-test.false)) c.loop-place.invariant
