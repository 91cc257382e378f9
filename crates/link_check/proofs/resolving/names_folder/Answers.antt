use Rattle.std.proofs.Common.{◌≡◌, ◌+◌, ◌∙◌, [], Bool, ap, arith, drop, drop_of_length-le, length, lit<, sym, ℕ}
use Rattle.std.proofs.lemmas.Iterator.Consumers.{YieldsList-at, YieldsList-end, YieldsList-turn}
use Rattle.std.proofs.lemmas.Iterator.Splits.{YieldsList-from_str_split}
use Rattle.std.proofs.lemmas.List.{length_push}
use Rattle.site_base.specs.Path.{segments}
use Rattle.link_check.proofs.SegmentLaws.{folder_from, folder_whole, next_segment}
use Rattle.link_check.proofs.resolving.names_folder.Goals as goal

pub loop-segment-init : goal.loop-segment-init
loop-segment-init c = folder_whole (segments c.args.path.now)

pub loop-segment-preserved : goal.loop-segment-preserved
loop-segment-preserved c =
    let all = segments c.args.path.now in
    let n = length c.loop-segment.yielded in
    let yields = YieldsList-at c.into_iter-segment-iterator.ensures.into_iter_gives (YieldsList-from_str_split 47 c.args.path.now (lit< tt) c.split-segment-items.ensures.text c.split-segment-items.ensures.has_more c.split-segment-items.ensures.pattern) in
    let turn = YieldsList-turn yields c.loop-segment.yielded _ c.loop-segment.yielded_by _ _ c.in-Some.segment c.in-Some.is c.next.ensures.steps in
    let next = next_segment all n c.in-Some.segment.now turn.0 turn.1 in
    ap (λ (k : ℕ). folder_from c.is_folder-answer.result (drop k all)) (length_push c.loop-segment.yielded c.in-Some.segment)
    ∙ ap (λ (b : Bool). folder_from b (drop (n + 1) all)) c.is_folder-answer.ensures
    ∙ sym (ap (folder_from c.loop-segment.answer) next)
    ∙ c.loop-segment.invariant

pub returns : goal.returns
returns c =
    let all = segments c.args.path.now in
    let yields = YieldsList-at c.into_iter-segment-iterator.ensures.into_iter_gives (YieldsList-from_str_split 47 c.args.path.now (lit< tt) c.split-segment-items.ensures.text c.split-segment-items.ensures.has_more c.split-segment-items.ensures.pattern) in
    let end = YieldsList-end yields c.loop-segment.yielded _ c.loop-segment.yielded_by _ _ c.in-None.is c.next.ensures.steps in
    let none : drop (length c.loop-segment.yielded) all ≡ [] = drop_of_length-le all (omega (arith, end.1)) in
    sym (ap (folder_from c.loop-segment.answer) none) ∙ c.loop-segment.invariant
