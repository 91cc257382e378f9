use Rattle.std.proofs.Common.{◌≡◌, ◌+◌, ◌++◌, ◌∙◌, ap, sym, [], length, drop, lit<, drop_of_length-le, arith}
use Rattle.std.specs.List.{slice_split}
use Rattle.std.specs.String.{string_bytes}
use Rattle.std.proofs.lemmas.Iterator.Consumers.{YieldsList-at, YieldsList-turn, YieldsList-end}
use Rattle.std.proofs.lemmas.Iterator.Splits.{YieldsList-from_str_split}
use Rattle.std.proofs.lemmas.Str.{encode_ascii}
use Rattle.std.proofs.lemmas.List.{append-nil, length_push}
use Rattle.permalinks.specs.Url.{is_slash}
use Rattle.permalinks.proofs.Templates.{next_part}
use Rattle.permalinks.proofs.template.with_slashes.Goals as goal

pub loop-segment-preserved : goal.loop-segment-preserved
loop-segment-preserved c =
    let segments = slice_split is_slash c.args.text.now in
    let n = length c.loop-segment.yielded in
    let all = YieldsList-at c.into_iter-segment-iterator.ensures.into_iter_gives (YieldsList-from_str_split 47 c.args.text.now (lit< tt) c.split-segment-items.ensures.text c.split-segment-items.ensures.has_more c.split-segment-items.ensures.pattern) in
    let turn = YieldsList-turn all c.loop-segment.yielded _ c.loop-segment.yielded_by _ _ c.in-Some.segment c.in-Some.is c.next.ensures.steps in
    let next = next_part segments n c.in-Some.segment.now turn.0 turn.1 in
    let step = c.in_ok-ends.ensures.step c.loop-segment.ends (drop (n + 1) segments) in
    rw (length_push c.loop-segment.yielded c.in-Some.segment) (sym step ∙ (rw next at c.loop-segment.invariant))

pub returns-then-ends : goal.returns-then-ends
returns-then-ends c =
    let segments = slice_split is_slash c.args.text.now in
    let all = YieldsList-at c.into_iter-segment-iterator.ensures.into_iter_gives (YieldsList-from_str_split 47 c.args.text.now (lit< tt) c.split-segment-items.ensures.text c.split-segment-items.ensures.has_more c.split-segment-items.ensures.pattern) in
    let end = YieldsList-end all c.loop-segment.yielded _ c.loop-segment.yielded_by _ _ c.in-None.is c.next.ensures.steps in
    let none : drop (length c.loop-segment.yielded) segments ≡ [] = drop_of_length-le segments (omega (arith, end.1)) in
    c.in_ok-push.ensures.bytes ∙ ap (λ slash. string_bytes c.loop-segment.url ++ slash) (encode_ascii 47 (lit< tt)) ∙ (rw (none, c.if-ends.true) at c.loop-segment.invariant)

pub returns : goal.returns
returns c =
    let segments = slice_split is_slash c.args.text.now in
    let all = YieldsList-at c.into_iter-segment-iterator.ensures.into_iter_gives (YieldsList-from_str_split 47 c.args.text.now (lit< tt) c.split-segment-items.ensures.text c.split-segment-items.ensures.has_more c.split-segment-items.ensures.pattern) in
    let end = YieldsList-end all c.loop-segment.yielded _ c.loop-segment.yielded_by _ _ c.in-None.is c.next.ensures.steps in
    let none : drop (length c.loop-segment.yielded) segments ≡ [] = drop_of_length-le segments (omega (arith, end.1)) in
    sym (append-nil (string_bytes c.loop-segment.url)) ∙ (rw (none, c.if-ends.false) at c.loop-segment.invariant)
