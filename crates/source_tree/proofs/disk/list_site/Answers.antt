use Rattle.std.proofs.Common.{◌∙◌, subst, sym}
use Rattle.site_base.specs.Clash.{ClashFree}
use Rattle.source_tree.proofs.Clashing.{clash_free-keys}
use Rattle.source_tree.proofs.Fitted.{none_of}
use Rattle.source_tree.proofs.disk.list_site.Goals as goal

pub returns-in-Ok-clause-clash_free : goal.returns-in-Ok-clause-clash_free
returns-in-Ok-clause-clash_free g c =
    let free = c.find_clash.ensures.clash_free (none_of c.find_clash.result (sym c.is_some.ensures ∙ c.if-is_some.false)) in
    subst ClashFree (sym c.in-Ok.ensures.paths) (clash_free-keys _ free)
