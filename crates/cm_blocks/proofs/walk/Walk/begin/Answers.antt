use Rattle.std.proofs.Common.{Option, ap, ◌∙◌}
use Rattle.cm_containers.specs.Spots.{rest_at}
use Rattle.cm_blocks.specs.Walks.{put_in, shown}
use Rattle.cm_blocks.specs.declared.kinds.Leaf.{Leaf}
use Rattle.cm_blocks.proofs.BeginLaws.{box_on, on_ok, other_on}
use Rattle.cm_blocks.proofs.walk.Walk.begin.Goals as goal

pub loop-held-preserved : goal.loop-held-preserved
loop-held-preserved c = record {
  spot = c.in-Box.ensures.1;
  known = c.in-Box.ensures.3;
  so_far =
      box_on (shown c.loop-held.self) (shown c.open_box.new.self) _ (rest_at c.args.line.now c.loop-held.spot) (rest_at c.args.line.now c.in-Box.inside) c.in-Box.held c.in-Box.ensures.0 c.in_ok-open_box-in-Box.ensures
      c.loop-held.invariant.so_far;
}

pub returns-in-Other : goal.returns-in-Other
returns-in-Other c =
    on_ok c.put.result _ _ c.put.ensures (λ e. other_on (shown c.loop-held.self) (shown c.put.new.self) _ (rest_at c.args.line.now c.loop-held.spot) c.in-Other.ensures.2 (e ∙ ap (λ (o : Option Leaf). put_in o (shown c.loop-held.self)) c.in_ok-leaf_of-in-Other.ensures) c.loop-held.invariant.so_far)
