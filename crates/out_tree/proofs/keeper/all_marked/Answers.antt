use Rattle.std.proofs.Common.{◌≡◌, ◌∙◌, sym, ap, subst, arith}
use Rattle.site_base.specs.Places.{AllDiffer, paths_of}
use Rattle.out_tree.proofs.Marking.{mark_each, paths_of-mark_each, marks_listed, all_taken}
use Rattle.out_tree.proofs.keeper.all_marked.Goals as goal

pub unreachable-requires : goal.unreachable-requires
unreachable-requires c =
    let i = c.loop-path.invariant in
    let taken : c.loop-path.yielded ≡ c.args.paths.items = all_taken _ c.loop-path.yielded _ i.whole (omega (arith, c.in-None.ensures.steps.0)) in
    c.in-None-from_entries.ensures (subst AllDiffer (sym (ap paths_of (i.marked ∙ ap mark_each taken) ∙ paths_of-mark_each c.args.paths.items)) c.requires)

pub returns : goal.returns
returns c = λ q.
    let i = c.loop-path.invariant in
    let taken : c.loop-path.yielded ≡ c.args.paths.items = all_taken _ c.loop-path.yielded _ i.whole (omega (arith, c.in-None.ensures.steps.0)) in
    marks_listed _ _ c.args.paths.items q c.in-Some-from_entries.ensures.1 (i.marked ∙ ap mark_each taken)
