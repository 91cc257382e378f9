-- The words of a text, and the filter that keeps some of them. After the reference of Liquid 4 (Shopify), "Filters".
use Rattle.std.specs.Prelude.{ℕ, ◌==◌, Bool, not, max, nat_le, ℤ, pos, int_lt, unsigned_abs, List, [], ◌∷◌, ◌++◌, filter, length, take, codes, if◌then◌else◌, Option, Result, Ok}
use Rattle.std.specs.List.{slice_split}
use Rattle.site_base.specs.Chains.{◌>>=◌}
use Rattle.site_base.specs.Plain.{Plain, text}
use Rattle.site_base.specs.Values.{value_text}
use Rattle.site_base.specs.declared.faults.FaultKind.{FaultKind}
use Rattle.filter_base.specs.Arguments.{up_to_two}
use Rattle.filter_base.specs.White.{is_white}
use Rattle.text_filters.specs.Spans.{number_or, text_or}

abbrev pub is_word : List ℕ → Bool
is_word w = not (length w == 0)

-- what stands between white space
abbrev pub words : List ℕ → List (List ℕ)
words t = filter is_word (slice_split is_white t)

-- the words, the first behind one text and each other behind a space
abbrev pub words_behind : List ℕ → List (List ℕ) → List ℕ
words_behind before [] = []
words_behind before (w ∷ ws) = before ++ (w ++ words_behind (32 ∷ []) ws)

abbrev pub spaced : List (List ℕ) → List ℕ
spaced ws = words_behind [] ws

-- at least one
abbrev pub word_limit : ℤ → ℕ
word_limit z = if int_lt z (pos 0) then 1 else max (unsigned_abs z) 1

abbrev pub truncated_words : ℕ → List ℕ → List ℕ → List ℕ
truncated_words n ending t = if nat_le n (length (words t)) then spaced (take n (words t)) ++ ending else t

abbrev pub truncate_words : Plain → Option Plain × Option Plain → Result Plain FaultKind
truncate_words v ws = number_or (pos 15) ws.0 >>= λ z. Ok (text (truncated_words (word_limit z) (text_or (codes "...") ws.1) (value_text v)))

abbrev pub words_filter : Plain → List Plain → Result Plain FaultKind
words_filter v ws = up_to_two ws >>= truncate_words v
