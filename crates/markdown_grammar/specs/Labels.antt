-- Link labels, and which of them match: CommonMark 0.31.2, section 6.3.
use Rattle.std.specs.Prelude.{Bool, List, None, Some, [], chars, drop, false, if◌then◌else◌, length, nat_le, not, take, true, ℕ, ◌&&◌, ◌++◌, ◌+◌, ◌==◌, ◌∷◌}
use Rattle.caseless.specs.Caseless.{default_case_fold}
use Rattle.site_text.specs.Bytes.{backslash, is_white, left_bracket, right_bracket, space}
use Rattle.site_text.specs.Fronts.{begins_with, has_one}
use Rattle.markdown_grammar.specs.Readers.{Reader, plus}

-- the length of a label's text: up to a `]` that no backslash stands before, and no `[` without one is in it
abbrev pub label_len : (is_escaped : Bool) → Reader
label_len is_escaped [] = None
label_len true (c ∷ cs) = plus 1 (label_len false cs)
label_len false (c ∷ cs) = elim (c == right_bracket) [ true ↦ Some 0 | false ↦ elim (c == left_bracket) [ true ↦ None | false ↦ plus 1 (label_len (c == backslash) cs) ] ]

-- a label has at most 999 characters, and one that is not white space
abbrev pub is_label : List ℕ → Bool
is_label t = nat_le (length (chars t)) 999 && has_one (λ c. not (is_white c)) (chars t)

-- behind `[`: a label's text and `]`
abbrev pub label_behind : Reader
label_behind t = elim (label_len false t) [ Some n ↦ (if is_label (take n t) then Some (n + 2) else None) | None ↦ None ]

-- `[`, a label's text, `]`
abbrev pub link_label : Reader
link_label t = elim (begins_with (left_bracket ∷ []) t) [ true ↦ label_behind (drop 1 t) | false ↦ None ]

-- characters with one space for each run of white space between others, and none at an end; one that is not white has come before or not, and white space stands right before or not
abbrev pub squeezed : (has_begun has_gap : Bool) → List ℕ → List ℕ
squeezed has_begun has_gap [] = []
squeezed has_begun has_gap (c ∷ cs) = elim (is_white c) [
  | true ↦ squeezed has_begun true cs
  | false ↦ (if has_begun && has_gap then space ∷ c ∷ [] else c ∷ []) ++ squeezed true false cs
]

-- the characters of a label with white space squeezed and case folded: labels match where these are the same
abbrev pub label_key : List ℕ → List ℕ
label_key t = default_case_fold (squeezed false false (chars t))
