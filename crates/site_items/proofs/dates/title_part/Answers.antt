use Rattle.std.proofs.Common.{◌≡◌, false, sym, ◌∙◌}
use Rattle.std.proofs.lemmas.Int.{to_z-of_z}
use Rattle.site_items.specs.Items.{is_draft}
use Rattle.site_items.proofs.dates.title_part.Goals as goal

pub returns : goal.returns
returns c =
    let other : is_draft c.args.kind ≡ false = sym c.is_draft.ensures ∙ c.if-is_draft.false in
    let made = simp (to_z-of_z, c.ranges.offset) at c.name_title.ensures in
    rw other made
