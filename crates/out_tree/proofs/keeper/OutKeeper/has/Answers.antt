use Rattle.std.proofs.Common.{◌∙◌, sym, ap}
use Rattle.std.specs.FinMap.{contains_key, get-empty}
use Rattle.std.specs.Option.{is_some}
use Rattle.site_base.specs.Places.{path_cmp}
use Rattle.out_tree.proofs.Unlisted.{none_believed}
use Rattle.out_tree.proofs.keeper.OutKeeper.has.Goals as goal

pub returns-in-None : goal.returns-in-None
returns-in-None c = sym (ap (λ belief. contains_key belief c.args.path.now) (none_believed c.self.inside.belief c.args.self.now c.self.view_is c.in-None.is) ∙ ap is_some (get-empty path_cmp c.args.path.now))
