use Rattle.std.proofs.Common.{◌≡◌, ◌++◌, ◌-◌, replicate}
use Rattle.markdown_grammar.specs.Escaping.{escaped}
use Rattle.cm_print.specs.Writing.{written}
use Rattle.cm_spans.specs.Pieces.{mark_byte}
use Rattle.cm_print.proofs.writer.Writer.push_marks.Given as goal

abbrev pub invariant-loop-place : goal.invariant-loop-place
invariant-loop-place l = record {
  so_far : written l.self ++ escaped (replicate (l.len - l.place) (mark_byte l.mark)) ≡ written l.initial.self ++ escaped (replicate l.len (mark_byte l.mark));
  most : l.self.most ≡ l.initial.self.most;
}
