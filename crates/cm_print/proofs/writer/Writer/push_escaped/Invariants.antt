use Rattle.std.proofs.Common.{length, ◌≡◌, ◌++◌}
use denote.Shadow.{shadow}
use denote.Text.{Utf8}
use Rattle.cm_print.specs.Escapes.{escaped_as}
use Rattle.cm_print.specs.Writing.{written}
use Rattle.cm_print.proofs.writer.Writer.push_escaped.Given as goal

abbrev pub invariant-loop-rest : goal.invariant-loop-rest
invariant-loop-rest l = record {
  utf8 : shadow (Utf8 l.rest);
  so_far : written l.self ++ escaped_as l.escape l.rest ≡ written l.initial.self ++ escaped_as l.escape l.fn.text;
  most : l.self.most ≡ l.initial.self.most;
}

abbrev pub decreases-loop-rest : goal.decreases-loop-rest
decreases-loop-rest l = length l.rest
