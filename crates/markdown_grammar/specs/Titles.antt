-- Link titles: CommonMark 0.31.2, section 6.3.
use Rattle.std.specs.Prelude.{Bool, List, None, Option, Some, [], drop, false, if◌then◌else◌, take, true, ℕ, ◌&&◌, ◌+◌, ◌==◌, ◌||◌, ◌∷◌}
use Rattle.site_text.specs.Bytes.{backslash, double_quote, is_punct, left_paren, right_paren, single_quote}
use Rattle.markdown_grammar.specs.Destinations.{Part}
use Rattle.markdown_grammar.specs.Readers.{Reader, plus}
use Rattle.markdown_grammar.specs.References.{resolved}

-- the length of a title's text up to its closing mark; a backslash takes marks their meaning, and one in `(..)` has no other `(`
abbrev pub title_len : (mark : ℕ) → (is_escaped : Bool) → Reader
title_len mark is_escaped [] = None
title_len mark is_escaped (c ∷ cs) = elim (is_escaped && is_punct c) [
  | true ↦ plus 1 (title_len mark false cs)
  | false ↦ elim (c == mark) [ true ↦ Some 0 | false ↦ elim ((c == left_paren) && (mark == right_paren)) [ true ↦ None | false ↦ plus 1 (title_len mark (c == backslash) cs) ] ]
]

-- the title behind its opening mark
abbrev pub title_to : (mark : ℕ) → List ℕ → Option Part
title_to mark t = elim (title_len mark false t) [ Some n ↦ Some (resolved (take n t), n + 2) | None ↦ None ]

-- the mark that closes a title, by the one that opens it: `".."`, `'..'` or `(..)`
abbrev pub closing_mark : List ℕ → Option ℕ
closing_mark [] = None
closing_mark (c ∷ cs) = if (c == double_quote) || (c == single_quote) then Some c else if c == left_paren then Some right_paren else None

-- the title at the front of a text
abbrev pub link_title : List ℕ → Option Part
link_title t = elim (closing_mark t) [ Some mark ↦ title_to mark (drop 1 t) | None ↦ None ]
