use Rattle.std.proofs.Common.{List, ℕ, ◌∙◌, ap, sym}
use Rattle.text_filters.specs.UrlTexts.{url_bytes}
use Rattle.text_filters.proofs.UrlLaws.{behind, behind_more}
use Rattle.text_filters.proofs.url_texts.url_bytes.Goals as goal

pub loop-rest-preserved : goal.loop-rest-preserved
loop-rest-preserved c =
    let made = c.loop-rest.made.items in let left = url_bytes c.in-Some.behind.now in
    ap (λ (t : List ℕ). behind t left) c.in_ok-push-in-Some.ensures.items
    ∙ behind_more made c.in-Some.byte left
    ∙ ap (behind made) (sym c.in-Some.ensures.form)
    ∙ c.loop-rest.invariant
