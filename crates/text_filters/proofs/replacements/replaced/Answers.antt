use Rattle.std.proofs.Common.{List, [], ℕ, Ok, ◌++◌, ◌∙◌, ap, sym, rules, append_assoc, append-nil}
use Rattle.std.proofs.lemmas.Result.{err_from_is_err_and}
use Rattle.site_base.specs.Plain.{text}
use Rattle.filter_base.proofs.WritingLaws.{refused}
use Rattle.text_filters.specs.Replacements.{replaced}
use Rattle.text_filters.proofs.PartLaws.{replaced_more, replaced_none}
use Rattle.text_filters.proofs.replacements.replaced.Goals as goal

pub returns-in_err-push_both : goal.returns-in_err-push_both
returns-in_err-push_both c =
    let e = err_from_is_err_and c.from_residual.result c.from_residual.ensures.1 in
    let mark = c.args.mark.now in let instead = c.args.instead.now in let before = c.in-Some.before.now in let behind = c.in-Some.behind.now in let made = c.loop-before.writer in
    let more = replaced_more mark c.loop-before.rest.now before behind c.in-Some.ensures.cases instead c.requires in
    rw (e.1, e.2) (refused (replaced mark instead c.args.whole.now) made (before ++ instead) (replaced mark instead behind) _ (ap (λ (t : List ℕ). made ++ t) (sym more) ∙ c.loop-before.invariant.so_far) c.in_err-push_both.ensures)

pub loop-before-preserved : goal.loop-before-preserved
loop-before-preserved c =
    let mark = c.args.mark.now in let instead = c.args.instead.now in let before = c.in-Some.before.now in let behind = c.in-Some.behind.now in let made = c.loop-before.writer in
    let more = replaced_more mark c.loop-before.rest.now before behind c.in-Some.ensures.cases instead c.requires in
    record {
      utf8 = search rules;
      so_far = ap (λ (t : List ℕ). t ++ replaced mark instead behind) c.in_ok-push_both.ensures
          ∙ append_assoc made (before ++ instead) (replaced mark instead behind)
          ∙ ap (λ (t : List ℕ). made ++ t) (sym more)
          ∙ c.loop-before.invariant.so_far;
    }

pub returns-in_err-push : goal.returns-in_err-push
returns-in_err-push c =
    let e = err_from_is_err_and c.from_residual-in_err-push.result c.from_residual-in_err-push.ensures.1 in
    let mark = c.args.mark.now in let instead = c.args.instead.now in let rest = c.loop-before.rest.now in let made = c.loop-before.writer in
    let last = replaced_none mark instead rest c.in_default.ensures.cases in
    rw (e.1, e.2) (refused (replaced mark instead c.args.whole.now) made rest [] _ (ap (λ (t : List ℕ). made ++ t) (append-nil rest ∙ sym last) ∙ c.loop-before.invariant.so_far) c.in_err-push.ensures)

pub returns : goal.returns
returns c =
    let mark = c.args.mark.now in let instead = c.args.instead.now in let rest = c.loop-before.rest.now in let made = c.loop-before.writer in
    let last = replaced_none mark instead rest c.in_default.ensures.cases in
    sym (ap (λ (t : List ℕ). Ok (text t)) (c.in_ok-finish.ensures ∙ c.in_ok-push.ensures ∙ ap (λ (t : List ℕ). made ++ t) (sym last) ∙ c.loop-before.invariant.so_far))
