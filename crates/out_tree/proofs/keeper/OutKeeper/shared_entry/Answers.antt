use Rattle.std.proofs.Common.{◌≡◌, ◌∙◌, ap, arith}
use Rattle.std.specs.FinMap.{len, len-empty}
use Rattle.site_base.specs.Places.{path_cmp}
use Rattle.out_tree.specs.Belief.{believed}
use Rattle.out_tree.specs.declared.state.State.{State}
use Rattle.out_tree.proofs.Unlisted.{none_believed}
use Rattle.out_tree.proofs.keeper.OutKeeper.shared_entry.Goals as goal

pub unreachable-requires : goal.unreachable-requires
unreachable-requires c =
    let none : len (believed c.args.self.now) ≡ 0 = ap len (none_believed c.self.inside.belief c.args.self.now c.self.view_is c.in-None.is) ∙ len-empty path_cmp State in
    omega (arith, c.requires, none)
