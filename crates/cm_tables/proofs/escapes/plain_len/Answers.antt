use Rattle.std.proofs.Common.{◌∙◌, arith, sym}
use Rattle.std.proofs.lemmas.List.{take_rest}
use Rattle.cm_tables.proofs.EscapeLaws.{plain_passed}
use Rattle.cm_tables.proofs.escapes.plain_len.Goals as goal

pub loop-len-preserved : goal.loop-len-preserved
loop-len-preserved c = record {
  within = omega (arith, c.loop-len-test.true);
  so_far = sym (plain_passed c.as_bytes-bytes.result.now c.loop-len.len c.loop-len-test.true (rw (take_rest c.as_bytes-bytes.result.now c.loop-len.len) at (sym c.starts_with.ensures.value ∙ c.if-not-starts_with.true))) ∙ c.loop-len.invariant.so_far;
}
