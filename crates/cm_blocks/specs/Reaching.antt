-- How far a line goes into the open containers, as the walk finds it.
use Rattle.std.specs.Prelude.{Bool, List, false, if◌then◌else◌, true, ℕ}
use Rattle.markdown_grammar.specs.Columns.{Line, lazy_line}
use Rattle.markdown_grammar.specs.Matching.{Matched}
use Rattle.markdown_grammar.specs.Starts.{Start, text_start}
use Rattle.cm_containers.specs.Spots.{rest_at, text_at}
use Rattle.cm_blocks.specs.declared.reaching.Reach.{Reach}

-- a line starts nothing
abbrev pub is_text : Start → Bool
is_text text_start = true
is_text _ = false

abbrev pub rest_of : List ℕ → Reach → Line
rest_of line r = if r.is_lazy then lazy_line (text_at line r.spot) else rest_at line r.spot

abbrev pub reach_of : List ℕ → Reach → Matched
reach_of line r = record { kept = r.kept; rest = rest_of line r }
