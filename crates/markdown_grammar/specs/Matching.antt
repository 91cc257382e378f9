-- How many open containers a line continues by their own rules, and its rest: CommonMark 0.31.2, section 5.1.
use Rattle.std.specs.Prelude.{List, [], suc, ℕ, ◌∷◌}
use Rattle.markdown_grammar.specs.Columns.{Line}
use Rattle.markdown_grammar.specs.Containers.{Container, entry}
use Rattle.markdown_grammar.specs.Extents.{goes_in, goes_in_if_filled, goes_in_if_open, stays_out}

pub record Matched : Type 0 where
  pub kept : ℕ
  pub rest : Line

-- one container more
abbrev pub one_more_kept : Matched → Matched
one_more_kept m = record { kept = suc m.kept; rest = m.rest }

-- containers from the outermost, while the line goes in
abbrev pub matched : List Container → Line → Matched
matched [] l = record { kept = 0; rest = l }
matched (k ∷ ks) l = elim (entry k l) [
  | goes_in m ↦ one_more_kept (matched ks m)
  | goes_in_if_filled m ↦ one_more_kept (matched ks m)
  | goes_in_if_open m ↦ record { kept = 0; rest = l }
  | stays_out ↦ record { kept = 0; rest = l }
]
