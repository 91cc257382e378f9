use Rattle.std.proofs.Common.{◌≡◌, ◌∙◌, ap, sym, subst, true, false, refl, rules, FitsSigned, w32}
use Rattle.std.specs.Prelude.{ℤ, Option}
use Rattle.std.specs.Result.{IfOk}
use Rattle.std.proofs.lemmas.Int.{to_z-of_z}
use Rattle.site_files.specs.Names.{file_name, stem}
use Rattle.site_items.specs.Items.{document_date, has_present, named_item, of_moment}
use Rattle.site_items.proofs.timeless.dated.Goals as goal

pub returns-then-has_present : goal.returns-then-has_present
returns-then-has_present c =
    let offset = c.args.config.now.timezone in
    let fits : FitsSigned w32 offset = search rules in
    let dated = simp to_z-of_z at c.document_date-moment.ensures.value in
    let name : c.stem-name.result.now ≡ stem (file_name c.args.path.now) = c.stem-name.ensures.stem ∙ ap stem (c.file_name.ensures ∙ ap file_name c.text.ensures.text) in
    let moment : c.document_date-moment.result ≡ document_date offset c.args.kind (stem (file_name c.args.path.now)) c.args.given = dated ∙ ap (λ n. document_date offset c.args.kind n c.args.given) name in
    let present : has_present c.args.kind (document_date offset c.args.kind (stem (file_name c.args.path.now)) c.args.given) ≡ true =
    ap (has_present c.args.kind) (sym moment) ∙ sym c.has_present.ensures ∙ c.if-has_present.true in
    rw present refl

pub returns : goal.returns
returns c =
    let config = c.args.config.now in
    let offset = config.timezone in
    let fits : FitsSigned w32 offset = search rules in
    let dated = simp to_z-of_z at c.document_date-moment.ensures.value in
    let name : c.stem-name.result.now ≡ stem (file_name c.args.path.now) = c.stem-name.ensures.stem ∙ ap stem (c.file_name.ensures ∙ ap file_name c.text.ensures.text) in
    let moment : c.document_date-moment.result ≡ document_date offset c.args.kind (stem (file_name c.args.path.now)) c.args.given = dated ∙ ap (λ n. document_date offset c.args.kind n c.args.given) name in
    let own : has_present c.args.kind (document_date offset c.args.kind (stem (file_name c.args.path.now)) c.args.given) ≡ false =
    ap (has_present c.args.kind) (sym moment) ∙ sym c.has_present.ensures ∙ c.if-has_present.false in
    let made : Option ℤ → Type 0 = λ m. IfOk c.of_moment.result (λ made. made ≡ of_moment m (named_item config c.args.kind c.args.path.now m c.args.vars c.args.body)) in
    rw own (subst made moment c.of_moment.ensures)
