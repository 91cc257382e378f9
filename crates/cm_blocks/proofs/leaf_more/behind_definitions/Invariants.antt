use Rattle.std.proofs.Common.{◌≡◌, length}
use denote.Shadow.{shadow}
use denote.Text.{Utf8}
use Rattle.markdown_grammar.specs.Definitions.{after_definitions}
use Rattle.cm_blocks.proofs.leaf_more.behind_definitions.Given as goal

abbrev pub invariant-loop-end : goal.invariant-loop-end
invariant-loop-end l = shadow (Utf8 l.rest) × (after_definitions l.rest ≡ after_definitions l.text)

abbrev pub decreases-loop-end : goal.decreases-loop-end
decreases-loop-end l = length l.rest
