-- Whether a leaf has taken one more line.
use Rattle.std.specs.Prelude.{Bool, None, Option, Some, false, true, ◌≡◌}
use Rattle.markdown_grammar.specs.Starts as starts
use Rattle.cm_blocks.specs.declared.kinds.Leaf.{Leaf}
use Rattle.cm_blocks.specs.declared.leaf_more.Next.{Next}
use Rattle.cm_blocks.specs.declared.leaf_more.Next.TheVariants.{Other, Text, Underline}
use Rattle.cm_blocks.specs.declared.leaf_more.Taken.{Taken}
use Rattle.cm_blocks.specs.declared.leaf_more.Taken.TheVariants.{Left, More}

-- the leaf with the line, or without it
abbrev pub IsTaken : Option Leaf → Leaf → Taken → Type 0
IsTaken grown s (More t) = grown ≡ Some t
IsTaken grown s (Left t) = (grown ≡ None) × (t ≡ s)

-- what a paragraph asks of a line
abbrev pub next_of : starts.Start → Next
next_of starts.text_start = Text
next_of (starts.underline_start level) = Underline level
next_of _ = Other

abbrev pub is_underline : Next → Bool
is_underline (Underline level) = true
is_underline _ = false
