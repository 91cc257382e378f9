use Rattle.std.proofs.Common.{arith}
use Rattle.std.proofs.lemmas.Str.{IsUtf8-nil}
use Rattle.cm_tables.proofs.EscapeLaws.{escape_taken, rest_taken}
use Rattle.cm_tables.proofs.escapes.unescaped.Goals as goal

pub loop-rest-preserved-then-len-rest : goal.loop-rest-preserved-then-len-rest
loop-rest-preserved-then-len-rest c = (
  c.range_from-rest.utf8,
  rw (c.in_ok-push_str.ensures.ok, c.range.ensures.value, c.range_from-rest.ensures.value, c.plain_len-len.ensures.value) (escape_taken c.loop-rest.text c.loop-rest.rest.now _ c.loop-rest.invariant.1),
)

pub loop-rest-preserved : goal.loop-rest-preserved
loop-rest-preserved c = (
  IsUtf8-nil,
  rw (c.in_ok-push_str.ensures.ok, c.range.ensures.value, c.plain_len-len.ensures.value) (rest_taken c.loop-rest.text c.loop-rest.rest.now _ (omega (arith, c.if-len-rest.false, c.plain_len-len.ensures.value)) c.loop-rest.invariant.1),
)
