use Rattle.std.proofs.Common.{◌≡◌, false, sym, ◌∙◌, List, ℕ, subst}
use Rattle.std.specs.Result.{OnOk}
use Rattle.std.proofs.lemmas.Int.{to_z-of_z}
use Rattle.site_items.specs.Addresses.{is_page}
use Rattle.site_items.specs.Items.{named}
use Rattle.site_items.proofs.names.set_names.Goals as goal

pub returns : goal.returns
returns c =
    let document : is_page c.args.kind ≡ false = sym c.is_page.ensures ∙ c.if-is_page.false in
    let part = simp (to_z-of_z, c.ranges.offset) at c.title_part.ensures in
    rw document (subst (λ (p : List ℕ). OnOk c.set_document_names.result (c.set_document_names.new.vars ≡ named p c.args.vars.now)) part c.set_document_names.ensures)
