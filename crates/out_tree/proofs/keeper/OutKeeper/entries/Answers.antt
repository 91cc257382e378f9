use Rattle.std.proofs.Common.{◌∙◌, sym, ap}
use Rattle.std.specs.FinMap.{len, len-empty}
use Rattle.site_base.specs.Places.{path_cmp}
use Rattle.out_tree.specs.declared.state.State.{State}
use Rattle.out_tree.proofs.Unlisted.{none_believed}
use Rattle.out_tree.proofs.keeper.OutKeeper.entries.Goals as goal

pub returns-in-None : goal.returns-in-None
returns-in-None c = sym (ap len (none_believed c.self.inside.belief c.args.self.now c.self.view_is c.in-None.is) ∙ len-empty path_cmp State)
