use Rattle.std.proofs.Common.{◌≡◌, IfOk, List, subst}
use Rattle.out_tree.specs.Belief.{believed}
use Rattle.link_check.specs.declared.answering.Broken.{Broken}
use Rattle.site_session.proofs.Looking.{broken_of_all}
use Rattle.site_session.proofs.links.broken.Goals as goal

pub returns : goal.returns
returns c =
    subst (λ (found : List Broken). IfOk c.broken.result (λ list. list ≡ found)) (broken_of_all c.args.table.now (believed c.args.keeper.now) c.args.base.now c.requires) c.broken.ensures
