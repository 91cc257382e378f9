-- Words and the spaces between them: CommonMark 0.31.2, sections 6.7 to 6.9.
use Rattle.std.specs.Prelude.{Bool, List, [], ◌∷◌, drop, if◌then◌else◌, not, suc, ℕ, ◌&&◌, ◌==◌, ◌||◌}
use Rattle.site_text.specs.Bytes.{is_special, line_feed, space}
use Rattle.site_text.specs.Fronts.{first_byte, run_len}

-- a space, or a byte that is text by itself
abbrev pub is_plain : ℕ → Bool
is_plain c = (c == space) || not (is_special c)

-- behind any spaces the line ends
abbrev pub is_line_end : List ℕ → Bool
is_line_end t = first_byte (drop (run_len (λ c. c == space) t) t) == line_feed

-- the text begins with a byte that is text by itself, or with a space that is not at the end of a line
abbrev pub is_word_at : List ℕ → Bool
is_word_at t = not (is_special (first_byte t)) || ((first_byte t == space) && not (is_line_end t))

-- how many such bytes stand at the front
abbrev pub words_len : List ℕ → ℕ
words_len [] = 0
words_len (c ∷ cs) = if is_word_at (c ∷ cs) then suc (words_len cs) else 0
