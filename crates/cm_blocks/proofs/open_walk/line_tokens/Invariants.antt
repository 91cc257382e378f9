use Rattle.std.proofs.Common.{◌≡◌, length}
use denote.Shadow.{shadow}
use denote.Text.{Utf8}
use Rattle.markdown_grammar.specs.Columns.{whole_lines}
use Rattle.markdown_grammar.specs.Lines.{text_lines}
use Rattle.cm_blocks.specs.Flat.{flat_start, steps}
use Rattle.cm_blocks.specs.Walks.{shown}
use Rattle.cm_blocks.proofs.open_walk.line_tokens.Given as goal

abbrev pub invariant-loop-rest : goal.invariant-loop-rest
invariant-loop-rest l = shadow (Utf8 l.rest) × (steps (shown l.walk) (whole_lines (text_lines l.rest)) ≡ steps flat_start (whole_lines (text_lines l.text)))

abbrev pub decreases-loop-rest : goal.decreases-loop-rest
decreases-loop-rest l = length l.rest
