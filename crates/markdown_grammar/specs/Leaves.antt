-- Leaf blocks: CommonMark 0.31.2, section 4. Each holds what decides whether it takes the next line.
use Rattle.std.specs.Prelude.{Bool, List, None, Option, Some, [], false, if◌then◌else◌, nat_lt, not, true, ℕ, ◌&&◌, ◌++◌, ◌∷◌}
use Rattle.markdown_grammar.specs.Columns.{Line, indent, lazy_line, line_text, own_line, shifted}
use Rattle.markdown_grammar.specs.Definitions.{after_definitions}
use Rattle.markdown_grammar.specs.Fences.{closes_fence}
use Rattle.markdown_grammar.specs.HtmlStarts.{ends_at_blank, ends_html}
use Rattle.markdown_grammar.specs.LineStarts.{start_of}
use Rattle.markdown_grammar.specs.Lines.{is_blank, joined_lines, trim_front}
use Rattle.markdown_grammar.specs.Places.{in_paragraph}
use Rattle.markdown_grammar.specs.Starts.{Start, text_start, underline_start}
use Rattle.markdown_grammar.specs.declared.html_kind.HtmlKind.{HtmlKind}

-- texts are lines; an open one of indented code has blank lines pending, which are code only where more follows
pub data Leaf : Type 0 where
  paragraph : (texts : List (List ℕ)) → Leaf
  setext_heading : (level : ℕ) → (texts : List (List ℕ)) → Leaf
  atx_heading : (level : ℕ) → (line : List ℕ) → Leaf
  thematic_break : Leaf
  indented_code : (texts pending : List (List ℕ)) → Leaf
  fenced_code : (indent mark len : ℕ) → (info : List ℕ) → (texts : List (List ℕ)) → (is_closed : Bool) → Leaf
  html_block : (kind : HtmlKind) → (texts : List (List ℕ)) → (is_closed : Bool) → Leaf

-- a line may go on this leaf lazily: it is a paragraph
abbrev pub is_open : Leaf → Bool
is_open (paragraph texts) = true
is_open _ = false

-- a paragraph has text beside its definitions
abbrev pub has_text : List (List ℕ) → Bool
has_text texts = not (is_blank (after_definitions (joined_lines texts)))

-- paragraphs and setext headings (4.8, 4.3)
abbrev pub prose_more : List (List ℕ) → List ℕ → Start → Option Leaf
prose_more texts t text_start = Some (paragraph (texts ++ trim_front t ∷ []))
prose_more texts t (underline_start level) = Some (setext_heading level texts)
prose_more texts t _ = None

-- indented code (4.4): blank lines are code only where more of it follows
abbrev pub code_more : List (List ℕ) → List (List ℕ) → ℕ → List ℕ → Option Leaf
code_more texts pending col t =
    let u = line_text (shifted 4 col t) in
    if is_blank t then Some (indented_code texts (pending ++ u ∷ [])) else if nat_lt (indent col t) 4 then None else Some (indented_code (texts ++ (pending ++ u ∷ [])) [])

-- fenced code (4.5): up to the closing fence or the end; the fence's indent is taken off each line
abbrev pub fence_more : ℕ → ℕ → ℕ → List ℕ → List (List ℕ) → Bool → ℕ → List ℕ → Option Leaf
fence_more i mark len info texts true col t = None
fence_more i mark len info texts false col t =
    if closes_fence mark len col t then Some (fenced_code i mark len info texts true) else Some (fenced_code i mark len info (texts ++ line_text (shifted i col t) ∷ []) false)

-- HTML (4.6): up to a line that ends it, or before a blank line
abbrev pub html_more : HtmlKind → List (List ℕ) → Bool → List ℕ → Option Leaf
html_more kind texts true t = None
html_more kind texts false t = if ends_at_blank kind && is_blank t then None else Some (html_block kind (texts ++ t ∷ []) (ends_html kind t))

-- a leaf with one more line, where it takes it
abbrev pub more : Leaf → Line → Option Leaf
more (paragraph texts) (own_line col t) = prose_more texts t (start_of (in_paragraph (has_text texts)) col t)
more (paragraph texts) (lazy_line t) = Some (paragraph (texts ++ trim_front t ∷ []))
more (indented_code texts pending) (own_line col t) = code_more texts pending col t
more (fenced_code i mark len info texts is_closed) (own_line col t) = fence_more i mark len info texts is_closed col t
more (html_block kind texts is_closed) (own_line col t) = html_more kind texts is_closed t
more _ l = None
