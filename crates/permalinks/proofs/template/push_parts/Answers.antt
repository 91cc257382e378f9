use Rattle.std.proofs.Common.{◌≡◌, ◌+◌, ◌∙◌, ap, sym, [], length, drop, lit<, drop_of_length-le, arith}
use Rattle.std.specs.Prelude.{Some}
use Rattle.std.specs.List.{slice_split}
use Rattle.std.specs.String.{string_bytes}
use Rattle.std.proofs.lemmas.Iterator.Consumers.{YieldsList-at, YieldsList-turn, YieldsList-end}
use Rattle.std.proofs.lemmas.Iterator.Splits.{YieldsList-from_str_split}
use Rattle.std.proofs.lemmas.List.{append-nil, length_push}
use Rattle.permalinks.specs.Url.{is_colon, parts_text}
use Rattle.permalinks.proofs.Templates.{next_part, refused_all, part_step, part_refused}
use Rattle.permalinks.proofs.template.push_parts.Goals as goal

pub returns-in-Err : goal.returns-in-Err
returns-in-Err g c =
    let parts = slice_split is_colon c.args.rest.now in
    let n = length c.loop-part.yielded in
    let all = YieldsList-at c.into_iter-part-iterator.ensures.into_iter_gives (YieldsList-from_str_split 58 c.args.rest.now (lit< tt) c.split-part-items.ensures.text c.split-part-items.ensures.has_more c.split-part-items.ensures.pattern) in
    let turn = YieldsList-turn all c.loop-part.yielded _ c.loop-part.yielded_by _ _ c.in-Some.part c.in-Some.is c.next.ensures.steps in
    let next = next_part parts n c.in-Some.part.now turn.0 turn.1 in
    refused_all (string_bytes c.loop-part.text) (string_bytes c.args.text.now) _ (parts_text (g.V.Values.stands_for c.args.values.now) parts) c.in-Err.error (rw next at c.loop-part.invariant) (part_refused (g.V.Values.stands_for c.args.values.now) c.in-Some.part.now (drop (n + 1) parts) c.in-Err.error c.in-Err.ensures)

pub loop-part-preserved : goal.loop-part-preserved
loop-part-preserved g c =
    let parts = slice_split is_colon c.args.rest.now in
    let n = length c.loop-part.yielded in
    let all = YieldsList-at c.into_iter-part-iterator.ensures.into_iter_gives (YieldsList-from_str_split 58 c.args.rest.now (lit< tt) c.split-part-items.ensures.text c.split-part-items.ensures.has_more c.split-part-items.ensures.pattern) in
    let turn = YieldsList-turn all c.loop-part.yielded _ c.loop-part.yielded_by _ _ c.in-Some.part c.in-Some.is c.next.ensures.steps in
    let next = next_part parts n c.in-Some.part.now turn.0 turn.1 in
    let step = part_step (g.V.Values.stands_for c.args.values.now) (string_bytes c.loop-part.text) (string_bytes c.push_part.new.text) c.in-Some.part.now (drop (n + 1) parts) c.in-Ok.ensures in
    rw (length_push c.loop-part.yielded c.in-Some.part) (sym step ∙ (rw next at c.loop-part.invariant))

pub returns : goal.returns
returns g c =
    let parts = slice_split is_colon c.args.rest.now in
    let all = YieldsList-at c.into_iter-part-iterator.ensures.into_iter_gives (YieldsList-from_str_split 58 c.args.rest.now (lit< tt) c.split-part-items.ensures.text c.split-part-items.ensures.has_more c.split-part-items.ensures.pattern) in
    let end = YieldsList-end all c.loop-part.yielded _ c.loop-part.yielded_by _ _ c.in-None.is c.next.ensures.steps in
    let none : drop (length c.loop-part.yielded) parts ≡ [] = drop_of_length-le parts (omega (arith, end.1)) in
    sym (rw none at c.loop-part.invariant) ∙ ap Some (append-nil (string_bytes c.loop-part.text))
