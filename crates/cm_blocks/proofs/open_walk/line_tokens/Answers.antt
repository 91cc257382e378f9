use Rattle.cm_blocks.proofs.LineLaws.{front_range}
use Rattle.cm_blocks.specs.Walks.{shown}
use Rattle.cm_blocks.proofs.WalkedText.{if_ok, line_more, none_left, some_left, walk_done}
use Rattle.std.proofs.Common.{◌∙◌}
use Rattle.cm_blocks.proofs.open_walk.line_tokens.Goals as goal

pub loop-rest-preserved : goal.loop-rest-preserved
loop-rest-preserved c = (
  c.range_from-rest.utf8,
  line_more (shown c.loop-rest.walk) (shown c.take_line.new.self) c.loop-rest.rest.now c.range.result.now c.range_from-rest.result.now c.first_line-cut.result _ c.first_line-cut.ensures
      (some_left c.loop-rest.rest.now c.is_empty.result c.is_empty.ensures c.loop-rest-test.true) (c.range.ensures.value ∙ front_range c.first_line-cut.result.inside c.loop-rest.rest.now) c.range_from-rest.ensures.value c.in_ok-take_line.ensures c.loop-rest.invariant.1,
)

pub returns : goal.returns
returns c =
    if_ok c.finish.result _ _ c.finish.ensures (λ found e. e ∙ walk_done (shown c.loop-rest.walk) c.loop-rest.rest.now c.args.text.now (none_left c.loop-rest.rest.now c.is_empty.result c.is_empty.ensures c.loop-rest-test.false) c.loop-rest.invariant.1)
