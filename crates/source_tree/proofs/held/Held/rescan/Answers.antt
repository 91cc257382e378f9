use Rattle.std.proofs.Common.{◌∙◌}
use Rattle.source_tree.proofs.held.Held.rescan.Goals as goal

pub returns-clause-held : goal.returns-clause-held
returns-clause-held g c = λ files told.
    let found = c.in-Ok.ensures.told files told in
    (c.drop.view_is ∙ found.0, found.1)
