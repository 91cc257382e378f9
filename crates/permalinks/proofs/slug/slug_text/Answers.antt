use Rattle.std.proofs.Common.{◌≡◌, ◌+◌, ◌++◌, ◌∙◌, ap, sym, true, [], length, drop, drop_of_length-le, arith}
use Rattle.std.specs.String.{string_bytes}
use Rattle.std.specs.Str.{chars}
use Rattle.std.proofs.lemmas.Iterator.{YieldsList-from_chars}
use Rattle.std.proofs.lemmas.Iterator.Consumers.{YieldsList-turn, YieldsList-end}
use Rattle.std.proofs.lemmas.List.{append-nil, length_push}
use Rattle.permalinks.specs.Slug.{is_kept, lower_bytes}
use Rattle.permalinks.proofs.SlugWalk.{tie, kept_step, gap_step, next_char}
use Rattle.permalinks.proofs.slug.slug_text.Goals as goal

pub loop-c-init : goal.loop-c-init
loop-c-init c = rw c.new-slug.ensures.bytes (ap lower_bytes ((tie (chars c.args.text.now)).before))

pub loop-c-preserved-then-is_kept : goal.loop-c-preserved-then-is_kept
loop-c-preserved-then-is_kept c =
    let cs = chars c.args.text.now in
    let n = length c.loop-c.yielded in
    let turn = YieldsList-turn (YieldsList-from_chars c.args.text.now c.utf8.text cc) c.loop-c.yielded _ c.loop-c.yielded_by _ _ c.in-Some.c c.in-Some.is c.next.ensures.steps in
    let next = next_char cs n c.in-Some.c turn.0 turn.1 in
    let kept : is_kept c.in-Some.c ≡ true = sym c.is_kept.ensures ∙ c.if-is_kept.true in
    let made = kept_step c.loop-c.begun c.loop-c.gap (string_bytes c.loop-c.slug) (string_bytes c.push_kept.new.slug) c.in-Some.c (drop (n + 1) cs) kept c.in_ok-push_kept.ensures in
    rw (length_push c.loop-c.yielded c.in-Some.c) (sym made ∙ (rw next at c.loop-c.invariant))

pub loop-c-preserved : goal.loop-c-preserved
loop-c-preserved c =
    let cs = chars c.args.text.now in
    let n = length c.loop-c.yielded in
    let turn = YieldsList-turn (YieldsList-from_chars c.args.text.now c.utf8.text cc) c.loop-c.yielded _ c.loop-c.yielded_by _ _ c.in-Some.c c.in-Some.is c.next.ensures.steps in
    let next = next_char cs n c.in-Some.c turn.0 turn.1 in
    let passed = gap_step c.loop-c.begun c.loop-c.gap c.in-Some.c (drop (n + 1) cs) (sym c.is_kept.ensures ∙ c.if-is_kept.false) in
    rw (length_push c.loop-c.yielded c.in-Some.c) (ap (λ more. string_bytes c.loop-c.slug ++ lower_bytes more) (sym passed) ∙ (rw next at c.loop-c.invariant))

pub returns : goal.returns
returns c =
    let cs = chars c.args.text.now in
    let end = YieldsList-end (YieldsList-from_chars c.args.text.now c.utf8.text cc) c.loop-c.yielded _ c.loop-c.yielded_by _ _ c.in-None.is c.next.ensures.steps in
    let none : drop (length c.loop-c.yielded) cs ≡ [] = drop_of_length-le cs (omega (arith, end.1)) in
    sym (append-nil (string_bytes c.loop-c.slug)) ∙ (rw none at c.loop-c.invariant)
