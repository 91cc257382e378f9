-- Where brackets go, as the grammar has it: CommonMark 0.31.2, section 6.3.
use Rattle.std.specs.Prelude.{List, None, Option, Some, [], drop, ℕ, ◌+◌}
use Rattle.markdown_grammar.specs.Definitions as definitions
use Rattle.markdown_grammar.specs.Destinations.{destination}
use Rattle.markdown_grammar.specs.Links as links
use Rattle.markdown_grammar.specs.Readers.{taken, white_gap}
use Rattle.cm_inlines.specs.declared.node.Target.{Target}
use Rattle.cm_inlines.specs.declared.targets.Reached.{Reached}

abbrev pub target_pair : Target → definitions.Target
target_pair t = (t.url, t.title)

abbrev pub reached_pair : Reached → links.Reached
reached_pair r = (target_pair r.target, r.len)

-- behind `(`: a destination, a title and `)`, or `)` alone
abbrev pub behind_paren : List ℕ → Option links.Reached
behind_paren t =
    let g = taken (white_gap (drop 1 t)) in
    elim (destination (drop (1 + g) t)) [ Some d ↦ links.with_title d.0 (1 + g + d.1) (drop (1 + g + d.1) t) | None ↦ links.closing_paren ([], None) 1 (drop 1 t) ]
