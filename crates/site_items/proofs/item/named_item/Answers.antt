use Rattle.std.proofs.Common.{◌≡◌, ◌∙◌, ap, ap₂, subst, List, ℕ, Ok, rules, FitsSigned, w32}
use Rattle.std.specs.Result.{MatchResult}
use Rattle.std.proofs.lemmas.Int.{to_z-of_z}
use Rattle.site_base.specs.Plain.{Pairs}
use Rattle.site_files.specs.Names.{extension, file_name, stem}
use Rattle.site_items.specs.Extensions.{output_ext}
use Rattle.site_items.specs.Items.{built_with, kind_named}
use Rattle.site_items.specs.Outcomes.{IsFault}
use Rattle.site_items.proofs.item.named_item.Goals as goal

pub returns : goal.returns
returns c =
    let config = c.args.config.now in
    let path = c.args.path.now in
    let file = c.file_name-name.ensures ∙ ap file_name c.text.ensures.text in
    let made : List ℕ → Pairs → Type 0 = λ ext vars. let found = built_with config c.args.kind path c.args.moment c.args.body ext vars in MatchResult c.built_item.result (λ item. found ≡ Ok item) (IsFault found) in
    let fits : FitsSigned w32 config.timezone = search rules in
    let name : c.stem.result.now ≡ stem (file_name path) = c.stem.ensures.stem ∙ ap stem file in
    let named = simp to_z-of_z at c.in_ok-set_names.ensures in
    let vars : c.set_names.new.vars ≡ kind_named config.timezone c.args.kind (stem (file_name path)) c.args.vars = named ∙ ap (λ n. kind_named config.timezone c.args.kind n c.args.vars) name in
    let ext : c.output_ext.result.now ≡ output_ext config.markdown_ext (extension (file_name path)) = c.output_ext.ensures ∙ ap₂ output_ext c.as_str.ensures (c.extension.ensures ∙ ap extension file) in
    subst (λ vars. made (output_ext config.markdown_ext (extension (file_name path))) vars) vars (subst (λ ext. made ext c.set_names.new.vars) ext c.built_item.ensures)
