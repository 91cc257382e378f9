-- How far a line goes into open containers, each by its own rule: CommonMark 0.31.2, sections 5.1 and 5.2. A blank line goes on with an item only where this has a block.
use Rattle.std.specs.Prelude.{Bool, List, None, Option, Some, [], false, not, true, ℕ, ◌||◌, ◌∷◌}
use Rattle.markdown_grammar.specs.Columns.{Line}
use Rattle.markdown_grammar.specs.Containers as grammar
use Rattle.markdown_grammar.specs.Extents.{Entry, goes_in, goes_in_if_filled, goes_in_if_open, stays_out}
use Rattle.markdown_grammar.specs.Fronts.{is_empty}
use Rattle.markdown_grammar.specs.Matching.{Matched, one_more_kept}
use Rattle.cm_containers.specs.Answers.{as_container}
use Rattle.cm_containers.specs.Spots.{rest_at}
use Rattle.cm_containers.specs.declared.kinds.Container.{Container}
use Rattle.cm_containers.specs.declared.matching.Entered.{Entered}

abbrev pub line_when : Bool → Line → Option Line
line_when true l = Some l
line_when false l = None

-- the line inside a container, by whether the container has a block
abbrev pub kept_by : Bool → Entry Line → Option Line
kept_by filled (goes_in l) = Some l
kept_by filled (goes_in_if_filled l) = line_when filled l
kept_by filled (goes_in_if_open l) = None
kept_by filled stays_out = None

-- how many containers a line goes on with, and its rest; all but the innermost have a block
abbrev pub matched_by : Bool → List Container → Line → Matched
matched_by filled [] l = record { kept = 0; rest = l }
matched_by filled (k ∷ ks) l = elim (kept_by (filled || not (is_empty ks)) (grammar.entry (as_container k) l)) [
  | Some m ↦ one_more_kept (matched_by filled ks m)
  | None ↦ record { kept = 0; rest = l }
]

-- the same, by the place where the rest begins
abbrev pub entered_at : List ℕ → Entered → Matched
entered_at line e = record { kept = e.kept; rest = rest_at line e.spot }
