use Rattle.std.proofs.Common.{◌∙◌, ap, cond, Some, None}
use Rattle.site_base.specs.PathMap.{as_map}
use Rattle.out_tree.specs.declared.state.State.TheVariants.{Marked}
use Rattle.out_tree.proofs.Marking.{marked_is, marked_true}
use Rattle.out_tree.proofs.keeper.OutKeeper.list_once.Goals as goal

pub returns-clause-marked : goal.returns-clause-marked
returns-clause-marked g c = λ _ files told.
    ap Some (marked_is files (as_map c.in-Ok-all_marked.belief) (λ q. c.in-Ok-all_marked.ensures q ∙ ap (λ b. cond b (Some Marked) None) (c.in-Ok.ensures.lists.exact files told q)))

pub returns-clause-holds : goal.returns-clause-holds
returns-clause-holds g c = λ files told _.
    marked_true files (as_map c.in-Ok-all_marked.belief) (λ q. c.in-Ok-all_marked.ensures q ∙ ap (λ b. cond b (Some Marked) None) (c.in-Ok.ensures.lists.exact files told q))
