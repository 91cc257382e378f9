-- The first line of a text, and how its end is cut off: CommonMark 0.31.2, section 2.1.
use Rattle.std.specs.Prelude.{Bool, List, [], drop, if◌then◌else◌, not, ℕ, ◌&&◌, ◌+◌, ◌++◌, ◌<◌, ◌==◌, ◌∷◌, ◌≡◌}
use Rattle.std.specs.Str.{IsCharBoundary}
use Rattle.site_base.specs.Lines.{begins_lf}
use Rattle.site_text.specs.Fronts.{run_len}
use Rattle.markdown_grammar.specs.Lines.{is_line_end, nul_replaced}
use Rattle.cm_blocks.specs.declared.lines.Cut.{Cut}

abbrev pub is_inside : ℕ → Bool
is_inside c = not (is_line_end c)

abbrev pub is_nul : ℕ → Bool
is_nul c = c == 0

abbrev pub is_plain : ℕ → Bool
is_plain c = not (c == 0)

-- how many bytes a line end takes
abbrev pub end_size : List ℕ → ℕ
end_size [] = 0
end_size (c ∷ cs) = if (c == 13) && begins_lf cs then 2 else 1

pub record IsCut (text : List ℕ) (cut : Cut) : Type 0 where
  pub inside : cut.inside ≡ run_len is_inside text
  pub whole : cut.whole ≡ run_len is_inside text + end_size (drop (run_len is_inside text) text)
  pub inside_cut : IsCharBoundary text cut.inside
  pub whole_cut : IsCharBoundary text cut.whole

-- the first bytes of a text, so many and not none, have come to the end of what is made
pub record Replaces (before after text : List ℕ) (size : ℕ) : Type 0 where
  pub some : 0 < size
  pub cut : IsCharBoundary text size
  pub same : after ++ nul_replaced (drop size text) ≡ before ++ nul_replaced text
