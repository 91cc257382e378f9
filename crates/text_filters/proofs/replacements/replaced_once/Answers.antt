use Rattle.std.proofs.Common.{List, ℕ, ◌++◌, ◌∙◌, ap, sym, append_assoc}
use Rattle.std.proofs.lemmas.Result.{IfOk-weaker}
use Rattle.text_filters.proofs.PartLaws.{once_more, once_none}
use Rattle.text_filters.proofs.replacements.replaced_once.Goals as goal

pub returns-in_ok-push_str-in-Some-2 : goal.returns-in_ok-push_str-in-Some-2
returns-in_ok-push_str-in-Some-2 c =
    let before = c.in-Some.before.now in let behind = c.in-Some.behind.now in let instead = c.args.instead.now in
    c.in_ok-push_str-in-Some-2.ensures.ok
    ∙ ap (λ (t : List ℕ). t ++ behind) (c.in_ok-push_str-in-Some.ensures.ok ∙ ap (λ (t : List ℕ). t ++ instead) c.in_ok-made-in-Some.ensures)
    ∙ append_assoc before instead behind
    ∙ sym (once_more c.args.mark.now instead c.args.whole.now before behind c.requires c.in-Some.ensures.cases)

pub returns-in-None : goal.returns-in-None
returns-in-None c = IfOk-weaker c.copy-in-None.result _ _ (λ t e. e ∙ sym (once_none c.args.mark.now c.args.instead.now c.args.whole.now c.in-None.ensures.cases)) c.copy-in-None.ensures
