use Rattle.std.proofs.Common.{◌≡◌, ◌+◌, ◌∙◌, [], Bool, ap, arith, drop, drop_of_length-le, length, lit<, sym, ℕ}
use Rattle.std.proofs.lemmas.Iterator.Consumers.{YieldsList-at, YieldsList-end, YieldsList-turn}
use Rattle.std.proofs.lemmas.Iterator.Splits.{YieldsList-from_str_split}
use Rattle.std.proofs.lemmas.List.{length_push}
use Rattle.site_base.specs.Path.{segments}
use Rattle.link_check.specs.Segments.{kept, reversed}
use Rattle.link_check.specs.Targets as targets
use Rattle.link_check.proofs.SegmentLaws.{next_segment}
use Rattle.link_check.proofs.resolving.resolved.Goals as goal

pub returns-then-not-branch : goal.returns-then-not-branch
returns-then-not-branch c =
    let all = segments c.args.path.now in
    let n = length c.loop-segment.yielded in
    let yields = YieldsList-at c.into_iter-segment-iterator.ensures.into_iter_gives (YieldsList-from_str_split 47 c.args.path.now (lit< tt) c.split-segment-items.ensures.text c.split-segment-items.ensures.has_more c.split-segment-items.ensures.pattern) in
    let turn = YieldsList-turn yields c.loop-segment.yielded _ c.loop-segment.yielded_by _ _ c.in-Some.segment c.in-Some.is c.next.ensures.steps in
    let next = next_segment all n c.in-Some.segment.now turn.0 turn.1 in
    let rest = drop (n + 1) all in
    let after = targets.resolved (reversed c.keep.new.left.items) rest in
    sym (ap (targets.resolved (reversed c.loop-segment.left.items)) next ∙ c.in_ok-keep.ensures.step rest ∙ ap (λ (b : Bool). kept b after) c.if-not-branch.true) ∙ c.loop-segment.invariant

pub loop-segment-preserved : goal.loop-segment-preserved
loop-segment-preserved c =
    let all = segments c.args.path.now in
    let n = length c.loop-segment.yielded in
    let yields = YieldsList-at c.into_iter-segment-iterator.ensures.into_iter_gives (YieldsList-from_str_split 47 c.args.path.now (lit< tt) c.split-segment-items.ensures.text c.split-segment-items.ensures.has_more c.split-segment-items.ensures.pattern) in
    let turn = YieldsList-turn yields c.loop-segment.yielded _ c.loop-segment.yielded_by _ _ c.in-Some.segment c.in-Some.is c.next.ensures.steps in
    let next = next_segment all n c.in-Some.segment.now turn.0 turn.1 in
    let rest = drop (n + 1) all in
    let after = targets.resolved (reversed c.keep.new.left.items) in
    ap (λ (k : ℕ). after (drop k all)) (length_push c.loop-segment.yielded c.in-Some.segment)
    ∙ sym (ap (targets.resolved (reversed c.loop-segment.left.items)) next ∙ c.in_ok-keep.ensures.step rest ∙ ap (λ (b : Bool). kept b (after rest)) c.if-not-branch.false)
    ∙ c.loop-segment.invariant

pub returns : goal.returns
returns c =
    let all = segments c.args.path.now in
    let yields = YieldsList-at c.into_iter-segment-iterator.ensures.into_iter_gives (YieldsList-from_str_split 47 c.args.path.now (lit< tt) c.split-segment-items.ensures.text c.split-segment-items.ensures.has_more c.split-segment-items.ensures.pattern) in
    let end = YieldsList-end yields c.loop-segment.yielded _ c.loop-segment.yielded_by _ _ c.in-None.is c.next.ensures.steps in
    let none : drop (length c.loop-segment.yielded) all ≡ [] = drop_of_length-le all (omega (arith, end.1)) in
    sym (ap (targets.resolved (reversed c.loop-segment.left.items)) none) ∙ c.loop-segment.invariant
