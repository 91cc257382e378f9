use Rattle.std.proofs.Common.{rules, sym}
use Rattle.round_tests.proofs.RowLaws.{numbered-push}
use Rattle.round_tests.proofs.row.numbered.Goals as goal

pub loop-part-preserved : goal.loop-part-preserved
loop-part-preserved c = record {
  numbered = numbered-push _ c.loop-part.names.items _ c.loop-part.invariant.numbered (sym c.loop-part.invariant.count) c.in_ok-push.ensures.items;
  count = search rules;
}
