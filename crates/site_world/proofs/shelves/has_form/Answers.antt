use Rattle.site_world.proofs.FormLaws.{layout_formed}
use Rattle.site_world.proofs.shelves.has_form.Goals as goal

pub returns : goal.returns
returns c = layout_formed c.args.layout.now c.text.result.now c.text.ensures.text c.text.ensures.path c.requires
