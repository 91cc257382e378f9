use Rattle.std.proofs.Common.{◌≡◌, ◌∙◌, ◌<◌, List, ℕ, None, true, length, drop, ap, sym, subst, rules}
use Rattle.std.specs.List.{list_any}
use denote.Enum.Bare.{sameb, same_true}
use Rattle.text_filters.specs.Stretches.{name_of, end_of, behind}
use Rattle.text_filters.specs.MissingEnds.{LackEnds}
use Rattle.text_filters.specs.contracts.stretches.Stretch.{the_type}
use Rattle.text_filters.specs.declared.stretches.Stretch.{Stretch}
use Rattle.text_filters.proofs.StretchLaws.{behind_none, behind_some, kind_begun, kind_known, lack_known, lack_push, some_end}
use Rattle.text_filters.proofs.stretches.behind_stretch.Goals as goal

pub returns-then-contains-clause-behind : goal.returns-then-contains-clause-behind
returns-then-contains-clause-behind c =
    let noted : list_any (λ (k : Stretch). sameb the_type k c.in-Some.kind) c.args.missing.now.items ≡ true =
    ap (list_any (λ (k : Stretch). sameb the_type k c.in-Some.kind)) (sym c.deref.ensures.value) ∙ sym c.if-contains.ensures.value in
    sym (kind_begun c.args.kinds.now c.args.text.now c.in-Some.kind c.in-Some.inside.now c.in-Some.ensures
    ∙ kind_known c.args.kinds.now c.args.text.now c.in-Some.kind c.in-Some.inside.now c.in-Some.ensures
    ∙ lack_known (sameb the_type) (λ (a b : Stretch) (e : sameb the_type a b ≡ true). same_true the_type (search rules) a b e) c.args.missing.now.items c.in-Some.kind c.args.text.now noted c.requires)

pub returns-in-Some-split_once-clause-behind : goal.returns-in-Some-split_once-clause-behind
returns-in-Some-split_once-clause-behind c =
    let end = c.end.result.now in
    let some : 0 < length end = subst (λ (t : List ℕ). 0 < length t) (sym c.end.ensures) (some_end c.in-Some.kind) in
    sym (kind_begun c.args.kinds.now c.args.text.now c.in-Some.kind c.in-Some.inside.now c.in-Some.ensures
    ∙ ap (λ (t : List ℕ). behind t c.in-Some.inside.now) (sym c.end.ensures)
    ∙ behind_some end c.in-Some.inside.now c.in-Some-split_once.field-0-0.now c.in-Some-split_once.rest.now some c.in-Some-split_once.ensures.cases)

pub returns-in_ok-push-in-None-clause-behind : goal.returns-in_ok-push-in-None-clause-behind
returns-in_ok-push-in-None-clause-behind c =
    sym (kind_begun c.args.kinds.now c.args.text.now c.in-Some.kind c.in-Some.inside.now c.in-Some.ensures
    ∙ ap (λ (t : List ℕ). behind t c.in-Some.inside.now) (sym c.end.ensures)
    ∙ behind_none c.end.result.now c.in-Some.inside.now c.in-None.ensures.cases)

pub returns-in_ok-push-in-None-clause-missing : goal.returns-in_ok-push-in-None-clause-missing
returns-in_ok-push-in-None-clause-missing c =
    let none : behind (end_of c.in-Some.kind) (drop (length (name_of c.in-Some.kind)) c.args.text.now) ≡ None =
    sym (kind_known c.args.kinds.now c.args.text.now c.in-Some.kind c.in-Some.inside.now c.in-Some.ensures)
    ∙ ap (λ (t : List ℕ). behind t c.in-Some.inside.now) (sym c.end.ensures)
    ∙ behind_none c.end.result.now c.in-Some.inside.now c.in-None.ensures.cases in
    subst (λ (ks : List Stretch). LackEnds ks c.args.text.now) (sym c.in_ok-push-in-None.ensures.items) (lack_push c.args.missing.now.items c.in-Some.kind c.args.text.now none c.requires)
