use Rattle.std.proofs.Common.{◌≡◌, ◌+◌, ◌∙◌, ap, sym, refl, inr, [], false, length, drop, lit<, drop_of_length-le, arith}
use Rattle.std.specs.Prelude.{Some, None}
use Rattle.std.specs.List.{slice_split}
use Rattle.std.specs.String.{string_bytes}
use Rattle.std.proofs.lemmas.Iterator.Consumers.{YieldsList-at, YieldsList-turn, YieldsList-end}
use Rattle.std.proofs.lemmas.Iterator.Splits.{YieldsList-from_str_split}
use Rattle.std.proofs.lemmas.List.{append-nil, length_push}
use Rattle.site_dates.specs.declared.format.FormatError.TheVariants.{BadFormat}
use Rattle.site_dates.specs.Format.{is_percent, parts_text}
use Rattle.site_dates.proofs.Patterns.{next_part, refused_all}
use Rattle.site_dates.proofs.format.push_parts.Goals as goal

pub returns-in-Err : goal.returns-in-Err
returns-in-Err c =
    let parts = slice_split is_percent c.args.rest.now in
    let n = length c.loop-part.yielded in
    let all = YieldsList-at c.into_iter-part-iterator.ensures.into_iter_gives (YieldsList-from_str_split 37 c.args.rest.now (lit< tt) c.split-part-items.ensures.text c.split-part-items.ensures.has_more c.split-part-items.ensures.pattern) in
    let turn = YieldsList-turn all c.loop-part.yielded _ c.loop-part.yielded_by _ _ c.in-Some.part c.in-Some.is c.next.ensures.steps in
    let next = next_part parts n c.in-Some.part.now turn.0 turn.1 in
    refused_all (string_bytes c.loop-part.text) (string_bytes c.args.text.now) _ (parts_text c.args.time.now false parts) c.in-Err.error (rw next at c.loop-part.invariant) (c.in-Err.ensures.step (drop (n + 1) parts))

pub loop-part-preserved : goal.loop-part-preserved
loop-part-preserved c =
    let parts = slice_split is_percent c.args.rest.now in
    let n = length c.loop-part.yielded in
    let all = YieldsList-at c.into_iter-part-iterator.ensures.into_iter_gives (YieldsList-from_str_split 37 c.args.rest.now (lit< tt) c.split-part-items.ensures.text c.split-part-items.ensures.has_more c.split-part-items.ensures.pattern) in
    let turn = YieldsList-turn all c.loop-part.yielded _ c.loop-part.yielded_by _ _ c.in-Some.part c.in-Some.is c.next.ensures.steps in
    let next = next_part parts n c.in-Some.part.now turn.0 turn.1 in
    let step = c.in-Ok.ensures.step (drop (n + 1) parts) in
    rw (length_push c.loop-part.yielded c.in-Some.part) (sym step ∙ (rw next at c.loop-part.invariant))

pub returns-then-escaped : goal.returns-then-escaped
returns-then-escaped c =
    let parts = slice_split is_percent c.args.rest.now in
    let all = YieldsList-at c.into_iter-part-iterator.ensures.into_iter_gives (YieldsList-from_str_split 37 c.args.rest.now (lit< tt) c.split-part-items.ensures.text c.split-part-items.ensures.has_more c.split-part-items.ensures.pattern) in
    let end = YieldsList-end all c.loop-part.yielded _ c.loop-part.yielded_by _ _ c.in-None.is c.next.ensures.steps in
    let none : drop (length c.loop-part.yielded) parts ≡ [] = drop_of_length-le parts (omega (arith, end.1)) in
    refused_all (string_bytes c.loop-part.text) (string_bytes c.args.text.now) None (parts_text c.args.time.now false parts) BadFormat (rw (none, c.if-escaped.true) at c.loop-part.invariant) (inr (refl, refl))

pub returns-else-escaped : goal.returns-else-escaped
returns-else-escaped c =
    let parts = slice_split is_percent c.args.rest.now in
    let all = YieldsList-at c.into_iter-part-iterator.ensures.into_iter_gives (YieldsList-from_str_split 37 c.args.rest.now (lit< tt) c.split-part-items.ensures.text c.split-part-items.ensures.has_more c.split-part-items.ensures.pattern) in
    let end = YieldsList-end all c.loop-part.yielded _ c.loop-part.yielded_by _ _ c.in-None.is c.next.ensures.steps in
    let none : drop (length c.loop-part.yielded) parts ≡ [] = drop_of_length-le parts (omega (arith, end.1)) in
    sym (rw (none, c.if-escaped.false) at c.loop-part.invariant) ∙ ap Some (append-nil (string_bytes c.loop-part.text))
