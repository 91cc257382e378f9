use Rattle.std.proofs.Common.{sym, ◌∙◌}
use Rattle.cm_links.proofs.ResolvingLaws.{resolve_step, resolve_end}
use Rattle.cm_links.proofs.resolving.resolve.Goals as goal

pub loop-rest-preserved : goal.loop-rest-preserved
loop-rest-preserved c = (
  c.range_from-rest-in-loop-rest.utf8,
  rw (sym c.range_from-rest-in-loop-rest.ensures.value) at (resolve_step _ _ _ c.loop-rest.rest.now c.range_from-rest.result.now c.plain_len-plain.result c.in_ok-taken.taken _ c.plain_len-plain.ensures.value (rw c.range.ensures.value at c.in_ok-push_str.ensures.bytes) c.range_from-rest.ensures.value c.in_ok-taken.ensures c.loop-rest.invariant.1),
)

pub returns : goal.returns
returns c = resolve_end _ _ _ (sym c.is_empty.ensures ∙ c.loop-rest-test.false) c.loop-rest.invariant.1
