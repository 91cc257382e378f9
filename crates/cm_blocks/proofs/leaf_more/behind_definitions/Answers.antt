use Rattle.cm_blocks.proofs.LeafTaking.{found_end, same_after, shorter, text_left}
use Rattle.cm_blocks.proofs.leaf_more.behind_definitions.Goals as goal

pub range_from-rest-requires : goal.range_from-rest-requires
range_from-rest-requires c = λ _. (found_end c.in_ok-end.field-0 c.in-Some.end c.loop-end.rest.now c.in-Some.is c.in_ok-end.ensures.cut).cut

pub loop-end-smaller : goal.loop-end-smaller
loop-end-smaller c = shorter c.in-Some.end c.loop-end.rest.now c.range_from-rest.result.now (found_end c.in_ok-end.field-0 c.in-Some.end c.loop-end.rest.now c.in-Some.is c.in_ok-end.ensures.cut) c.range_from-rest.ensures.value

pub loop-end-preserved : goal.loop-end-preserved
loop-end-preserved c = (
  c.range_from-rest.utf8,
  same_after c.in-Some.end c.loop-end.rest.now c.range_from-rest.result.now c.in_ok-end.field-0 _ c.in-Some.is c.in_ok-end.ensures.value (found_end c.in_ok-end.field-0 c.in-Some.end c.loop-end.rest.now c.in-Some.is c.in_ok-end.ensures.cut) c.range_from-rest.ensures.value c.loop-end.invariant.1,
)

pub returns-in-None : goal.returns-in-None
returns-in-None c = text_left c.loop-end.rest.now c.in_ok-end.field-0 _ c.in-None.is c.in_ok-end.ensures.value c.loop-end.invariant.1
