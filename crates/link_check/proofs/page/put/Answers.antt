use Rattle.std.proofs.Common.{◌≡◌, ◌∙◌, List, insert, slice_set, subst, ℕ}
use Rattle.std.specs.FinMap.Entries.{put}
use Rattle.site_base.specs.Places.{path_cmp}
use Rattle.site_base.proofs.Entries.{absent_insert, there_set}
use Rattle.link_check.specs.declared.page.Page.{Page}
use Rattle.link_check.proofs.page.put.Goals as goal

pub returns-in-Ok-clause-ok : goal.returns-in-Ok-clause-ok
returns-in-Ok-clause-ok c =
    let path = c.args.path in
    let page = c.args.page in
    subst (λ (es : List (List ℕ × Page)). slice_set es c.in-Ok.place (path, page) ≡ put path_cmp path page es) c.deref.ensures.value
    (there_set path page c.deref.result.now c.in-Ok.place c.in-Ok.ensures)

pub returns-in_ok-insert-in-Err-clause-ok : goal.returns-in_ok-insert-in-Err-clause-ok
returns-in_ok-insert-in-Err-clause-ok c =
    let path = c.args.path in
    let page = c.args.page in
    c.in_ok-insert-in-Err.ensures.items
    ∙ subst (λ (es : List (List ℕ × Page)). insert es c.in-Err.place (path, page) ≡ put path_cmp path page es) c.deref.ensures.value
    (absent_insert path page c.deref.result.now c.in-Err.place c.in-Err.ensures)
