use Rattle.std.proofs.Common.{◌∙◌, ◌++◌, codes, ap, sym, Some, None}
use Rattle.site_files.specs.Choosing.{without_slash}
use Rattle.site_files.specs.Names.{folder}
use Rattle.site_items.specs.Addresses.{behind}
use Rattle.site_reader.proofs.PageLaws.{template_is}
use Rattle.site_reader.proofs.index_page.template_place.Goals as goal

pub returns-in-Some : goal.returns-in-Some
returns-in-Some c =
    template_is c.args.config.now c.args.items.now _ _ (Some c.in-Some.place) c.document_groups-pages.ensures.count
    (c.behind.ensures ∙ ap (behind (codes "/")) (c.as_str-2.ensures.value ∙ c.in_ok-text.ensures ∙ ap (λ p. folder (without_slash p) ++ codes "/index.html") c.as_str.ensures)) (sym c.in-Some.is ∙ c.page_place.ensures)

pub returns : goal.returns
returns c =
    c.page_place-in-None.ensures
    ∙ template_is c.args.config.now c.args.items.now _ _ None c.document_groups-pages.ensures.count
    (c.behind.ensures ∙ ap (behind (codes "/")) (c.as_str-2.ensures.value ∙ c.in_ok-text.ensures ∙ ap (λ p. folder (without_slash p) ++ codes "/index.html") c.as_str.ensures)) (sym c.in-None.is ∙ c.page_place.ensures)
