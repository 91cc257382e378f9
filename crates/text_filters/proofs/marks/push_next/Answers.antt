use Rattle.std.proofs.Common.{◌∙◌, ap, sym}
use Rattle.std.specs.String.{string_bytes}
use Rattle.text_filters.specs.Marks.{mark_at}
use Rattle.text_filters.proofs.MarkLaws.{Fits, mark_fits, cut_after, pushed_mark}
use Rattle.text_filters.proofs.marks.push_next.Goals as goal

pub range_from-requires : goal.range_from-requires
range_from-requires c =
    let text = c.args.text.now in
    let e = sym (c.in-Some.ensures ∙ ap (mark_at c.args.mark) c.as_bytes.ensures.value) in
    λ _. cut_after text c.in-Some.more c.utf8.text (mark_fits c.args.mark text c.in-Some.more c.in-Some.instead.now e)

pub returns-in_ok-push_str-in-Some-clause-made : goal.returns-in_ok-push_str-in-Some-clause-made
returns-in_ok-push_str-in-Some-clause-made c =
    let text = c.args.text.now in
    let e = sym (c.in-Some.ensures ∙ ap (mark_at c.args.mark) c.as_bytes.ensures.value) in
    let fits : Fits text c.in-Some.more = mark_fits c.args.mark text c.in-Some.more c.in-Some.instead.now e in
    pushed_mark c.args.mark text (string_bytes c.args.made.now) (string_bytes c.push_str.new.self) c.in-Some.instead.now c.range_from.result.now c.in-Some.more
    c.in_ok-push_str-in-Some.ensures.bytes c.range_from.ensures.value e fits.within
