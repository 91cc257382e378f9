use Rattle.site_generator.proofs.Fits.{edit-put}
use Rattle.site_generator.proofs.edit.edited_path.Goals as goal

pub returns-clause-taken : goal.returns-clause-taken
returns-clause-taken c = λ high. edit-put c.args.number c.args.count c.requires high
