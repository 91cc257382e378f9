-- Plain text as the pieces of which it is made: words and runs of spaces. CommonMark 0.31.2, sections 6.7 to 6.9.
use Rattle.std.specs.Prelude.{List, [], drop, if◌then◌else◌, length, map, not, suc, take, zero, ℕ, ◌==◌, ◌∷◌}
use Rattle.site_text.specs.Bytes.{is_special, space}
use Rattle.site_text.specs.Fronts.{first_byte, run_len}
use Rattle.cm_inlines.specs.Tokens.{Token, text_token}

-- how many bytes its first piece has
abbrev pub front_len : List ℕ → ℕ
front_len t = if first_byte t == space then run_len (λ c. c == space) t else suc (run_len (λ c. not (is_special c)) (drop 1 t))

-- so many pieces
abbrev pub words_by : ℕ → List ℕ → List (List ℕ)
words_by zero t = []
words_by (suc n) [] = []
words_by (suc n) (c ∷ cs) = let k = front_len (c ∷ cs) in take k (c ∷ cs) ∷ words_by n (drop k (c ∷ cs))

-- all pieces
abbrev pub words : List ℕ → List (List ℕ)
words t = words_by (length t) t

abbrev pub word_tokens : List ℕ → List Token
word_tokens t = map text_token (words t)
