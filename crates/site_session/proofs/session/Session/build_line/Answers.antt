use Rattle.site_session.proofs.Rebuilding.{answer-quiet, output_left, output_spared}
use Rattle.site_session.proofs.session.Session.build_line.Goals as goal

pub returns-in-Ok-clause-answers : goal.returns-in-Ok-clause-answers
returns-in-Ok-clause-answers g c = λ given h. c.in-Ok.ensures.answers given c.args.number c.of_build.result h c.of_build.ensures

pub returns-in-Ok-clause-leaves : goal.returns-in-Ok-clause-leaves
returns-in-Ok-clause-leaves g c = (
  answer-quiet c.in-Ok.rebuilt c.of_build.result c.of_build.ensures,
  output_left g.O.OutTree.contents g.O.OutTree.calls g.O.OutTree.failures _ _ _ _ _ _ c.in-Ok.rebuilt c.of_build.result c.in-Ok.ensures c.of_build.ensures,
)

pub returns-in-Err-clause-spares : goal.returns-in-Err-clause-spares
returns-in-Err-clause-spares g c = (output_spared g.O.OutTree.contents g.O.OutTree.calls g.O.OutTree.failures _ _ _ _ _ _ c.in-Err.field-0 c.in-Err.ensures, c.in-Err.ensures.tallied)
