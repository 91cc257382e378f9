-- Link destinations: CommonMark 0.31.2, section 6.3.
use Rattle.std.specs.Prelude.{Bool, List, None, Option, Some, [], drop, false, if◌then◌else◌, nat_lt, suc, take, true, ℕ, ◌&&◌, ◌+◌, ◌-◌, ◌==◌, ◌||◌, ◌∷◌}
use Rattle.site_text.specs.Bytes.{backslash, greater_than, is_control, is_punct, left_paren, less_than, line_feed, right_paren, space}
use Rattle.site_text.specs.Fronts.{begins_with}
use Rattle.markdown_grammar.specs.Readers.{Reader, plus}
use Rattle.markdown_grammar.specs.References.{resolved}

-- the length of a destination between `<` and `>`: no line end, and no `<` or `>` without a backslash
abbrev pub pointed_len : (is_escaped : Bool) → Reader
pointed_len is_escaped [] = None
pointed_len is_escaped (c ∷ cs) = elim (is_escaped && is_punct c) [
  | true ↦ plus 1 (pointed_len false cs)
  | false ↦ elim (c == greater_than) [ true ↦ Some 0 | false ↦ elim ((c == less_than) || (c == line_feed)) [ true ↦ None | false ↦ plus 1 (pointed_len (c == backslash) cs) ] ]
]

-- the length of a destination without `<`: up to a space or control, or to a `)` that it does not open; parentheses without a backslash are balanced, to depth 32
abbrev pub bare_len : (is_escaped : Bool) → (depth : ℕ) → Reader
bare_len is_escaped depth [] = if depth == 0 then Some 0 else None
bare_len is_escaped depth (c ∷ cs) = elim (is_escaped && is_punct c) [
  | true ↦ plus 1 (bare_len false depth cs)
  | false ↦ elim ((c == space) || is_control c) [
    | true ↦ (if depth == 0 then Some 0 else None)
    | false ↦ elim (c == left_paren) [
      | true ↦ elim (nat_lt depth 32) [ true ↦ plus 1 (bare_len false (suc depth) cs) | false ↦ None ]
      | false ↦ elim (c == right_paren) [
        | true ↦ elim (depth == 0) [ true ↦ Some 0 | false ↦ plus 1 (bare_len false (depth - 1) cs) ]
        | false ↦ plus 1 (bare_len (c == backslash) depth cs)
      ]
    ]
  ]
]

-- a part of a link: what it stands for, and how many bytes it takes
abbrev pub Part : Type 0
Part = List ℕ × ℕ

-- the destination behind `<`
abbrev pub pointed_destination : List ℕ → Option Part
pointed_destination cs = elim (pointed_len false cs) [ Some n ↦ Some (resolved (take n cs), n + 2) | None ↦ None ]

-- a destination without `<`, which is not empty
abbrev pub bare_destination : List ℕ → Option Part
bare_destination t = elim (bare_len false 0 t) [ Some n ↦ (if n == 0 then None else Some (resolved (take n t), n)) | None ↦ None ]

-- the destination at the front of a text
abbrev pub destination : List ℕ → Option Part
destination t = elim (begins_with (less_than ∷ []) t) [ true ↦ pointed_destination (drop 1 t) | false ↦ bare_destination t ]
