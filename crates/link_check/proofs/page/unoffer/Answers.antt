use Rattle.std.proofs.Common.{◌≡◌, ◌∙◌, ◌+◌, ◌<◌, List, ℕ, ap, arith, get_or, length, slice_set, suc}
use Rattle.link_check.proofs.TableLaws.{unoffered_all, unoffered_more, unoffered_up_to}
use Rattle.link_check.specs.Numbers.{unoffered}
use Rattle.link_check.specs.declared.page.Page.{Page}
use Rattle.link_check.proofs.page.unoffer.Goals as goal

pub loop-place-preserved : goal.loop-place-preserved
loop-place-preserved c =
    let pages = c.loop-place.pages.items in
    let all = c.args.pages.now.items in
    let i = c.loop-place.place in
    let item = c.index_mut.result.now in
    let within : i < length all = omega (arith, c.loop-place-test.true, c.len-place-end.ensures) in
    let next : suc i ≡ i + 1 = omega arith in
    ap (λ (x : List ℕ × Page). slice_set pages i (unoffered x)) c.index_mut.ensures.value
    ∙ ap (λ (ps : List (List ℕ × Page)). slice_set ps i (unoffered (get_or ps i item))) c.loop-place.invariant
    ∙ unoffered_more i all item within
    ∙ ap (λ (k : ℕ). unoffered_up_to k all) next

pub returns : goal.returns
returns c =
    let all = c.args.pages.now.items in
    let i = c.loop-place.place in
    c.loop-place.invariant ∙ unoffered_all i all (omega (arith, c.loop-place-test.false, c.len-place-end.ensures))
