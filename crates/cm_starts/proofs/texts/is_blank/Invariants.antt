use Rattle.std.proofs.Common.{◌≡◌, drop}
use Rattle.markdown_grammar.specs.Lines.{is_blank}
use Rattle.cm_starts.proofs.texts.is_blank.Given as goal

abbrev pub invariant-loop-c : goal.invariant-loop-c
invariant-loop-c l = is_blank (drop l.c-index l.text) ≡ is_blank l.text
