use Rattle.std.proofs.Common.{◌≡◌, false, sym, ◌∙◌, eqb}
use Rattle.std.specs.Prelude.{codes}
use Rattle.std.specs.List.{ends_with}
use Rattle.std.proofs.lemmas.Str.Pattern.{ends_text}
use Rattle.site_items.specs.Addresses.{is_page}
use Rattle.site_items.proofs.addresses.is_folder.Goals as goal

pub returns : goal.returns
returns c =
    let ends : c.ends_with.result ≡ ends_with eqb c.args.url.now (codes "/") = ends_text c.ends_with.result (codes "/") c.args.url.now c.ends_with.ensures.cases in
    let document : is_page c.args.kind ≡ false = sym c.is_page.ensures ∙ c.if-is_page.false in
    rw document ends
