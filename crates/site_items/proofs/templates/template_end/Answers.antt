use Rattle.std.proofs.Common.{◌≡◌, true, false, sym, ◌∙◌, refl, eqb}
use Rattle.std.specs.Prelude.{codes}
use Rattle.std.specs.List.{ends_with}
use Rattle.std.proofs.lemmas.Str.Pattern.{ends_text}
use Rattle.site_items.proofs.templates.template_end.Goals as goal

pub returns-then-ends_with-2 : goal.returns-then-ends_with-2
returns-then-ends_with-2 c =
    let folder : ends_with eqb c.args.template.now (codes "/") ≡ false = sym (ends_text c.ends_with.result (codes "/") c.args.template.now c.ends_with.ensures.cases) ∙ c.if-ends_with.false in
    let file : ends_with eqb c.args.template.now (codes ":output_ext") ≡ true = sym (ends_text c.ends_with-2.result (codes ":output_ext") c.args.template.now c.ends_with-2.ensures.cases) ∙ c.if-ends_with-2.true in
    rw (folder, file) refl

pub returns : goal.returns
returns c =
    let folder : ends_with eqb c.args.template.now (codes "/") ≡ false = sym (ends_text c.ends_with.result (codes "/") c.args.template.now c.ends_with.ensures.cases) ∙ c.if-ends_with.false in
    let file : ends_with eqb c.args.template.now (codes ":output_ext") ≡ false = sym (ends_text c.ends_with-2.result (codes ":output_ext") c.args.template.now c.ends_with-2.ensures.cases) ∙ c.if-ends_with-2.false in
    rw (folder, file) refl
