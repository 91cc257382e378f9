use Rattle.std.proofs.Common.{◌≡◌, false, sym, ◌∙◌, ap}
use Rattle.std.specs.Option.{option_or}
use Rattle.std.proofs.lemmas.Int.{to_z-of_z}
use Rattle.site_items.specs.Addresses.{is_page}
use Rattle.site_items.proofs.dates.document_date.Goals as goal

pub returns-clause-value : goal.returns-clause-value
returns-clause-value c =
    let document : is_page c.args.kind ≡ false = sym c.is_page.ensures ∙ c.if-is_page.false in
    let named = simp (to_z-of_z, c.ranges.offset) at c.name_date.ensures.value in
    rw document (c.or.ensures ∙ ap (option_or c.args.given) named)
