-- What a line may start: CommonMark 0.31.2, sections 4 and 5.
use Rattle.std.specs.Prelude.{List, ℕ}
use Rattle.markdown_grammar.specs.declared.html_kind.HtmlKind.{HtmlKind}

-- what a line starts, or text that starts nothing
pub data Start : Type 0 where
  blank_start : Start
  quote_start : Start
  atx_start : (level : ℕ) → (text : List ℕ) → Start
  fence_start : (indent mark len : ℕ) → (info : List ℕ) → Start
  html_start : (kind : HtmlKind) → Start
  underline_start : (level : ℕ) → Start
  break_start : Start
  item_start : (kind number digits : ℕ) → Start
  indented_start : Start
  text_start : Start

-- the first of two that starts a block
infixr 4 ◌elsewise◌
abbrev pub ◌elsewise◌ : Start → Start → Start
text_start elsewise s = s
s elsewise t = s
