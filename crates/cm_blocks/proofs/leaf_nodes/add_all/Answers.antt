use Rattle.cm_blocks.proofs.LinkLaws.{front_found, links_done, links_more}
use Rattle.cm_blocks.proofs.leaf_nodes.add_all.Goals as goal

pub loop-found-preserved : goal.loop-found-preserved
loop-found-preserved c = (
  c.range_from-rest.utf8,
  links_more c.loop-found.rest.now c.range_from-rest.result.now c.in_ok-found.field-0 c.in-Some.found c.loop-found.links c.add.new.self _ c.in-Some.is c.in_ok-found.ensures.value
      (front_found c.loop-found.rest.now c.in_ok-found.field-0 c.in-Some.found c.in-Some.is c.in_ok-found.ensures.cut) c.in_ok-add-in-Some.ensures.ok c.range_from-rest.ensures.value c.loop-found.invariant.1,
)

pub returns-in-None : goal.returns-in-None
returns-in-None c = links_done c.loop-found.rest.now c.in_ok-found.field-0 c.loop-found.links _ c.in-None.is c.in_ok-found.ensures.value c.loop-found.invariant.1
