-- Leaf blocks by their texts, and whether they take one more line: CommonMark 0.31.2, section 4.
use Rattle.std.specs.Prelude.{Bool, List, None, Option, Some, [], false, if◌then◌else◌, nat_lt, not, true, ℕ, ◌&&◌, ◌++◌}
use Rattle.markdown_grammar.specs.Columns.{Line, indent, lazy_line, line_text, own_line, shifted}
use Rattle.markdown_grammar.specs.Definitions.{after_definitions}
use Rattle.markdown_grammar.specs.Fences.{closes_fence}
use Rattle.markdown_grammar.specs.declared.html_kind.HtmlKind.{HtmlKind}
use Rattle.markdown_grammar.specs.HtmlStarts.{ends_at_blank, ends_html}
use Rattle.markdown_grammar.specs.LineStarts.{start_of}
use Rattle.markdown_grammar.specs.Lines.{ended_lines, is_blank, trim_front}
use Rattle.markdown_grammar.specs.Leaves as grammar
use Rattle.markdown_grammar.specs.Places.{in_paragraph}
use Rattle.markdown_grammar.specs.Starts.{Start, text_start, underline_start}
use Rattle.cm_blocks.specs.LineTexts.{ended, unended}
use Rattle.cm_blocks.specs.declared.kinds.Leaf.{Leaf}
use Rattle.cm_blocks.specs.declared.kinds.Leaf.TheVariants.{Break, Fenced, Heading, Html, Indented, Paragraph, Underlined}

-- a leaf of the grammar, its lines as one text
abbrev pub leaf_of : grammar.Leaf → Leaf
leaf_of (grammar.paragraph texts) = Paragraph (ended_lines texts)
leaf_of (grammar.setext_heading level texts) = Underlined level (ended_lines texts)
leaf_of (grammar.atx_heading level line) = Heading level line
leaf_of grammar.thematic_break = Break
leaf_of (grammar.indented_code texts pending) = Indented (ended_lines texts) (ended_lines pending)
leaf_of (grammar.fenced_code i mark len info texts is_closed) = Fenced i mark len info (ended_lines texts) is_closed
leaf_of (grammar.html_block kind texts is_closed) = Html kind (ended_lines texts) is_closed

-- a paragraph has text beside its definitions
abbrev pub holds_text : List ℕ → Bool
holds_text text = not (is_blank (after_definitions (unended text)))

-- a line may go on this leaf lazily: it is a paragraph
abbrev pub is_prose : Option Leaf → Bool
is_prose None = false
is_prose (Some (Paragraph text)) = true
is_prose (Some _) = false

-- a paragraph, by what the line starts
abbrev pub prose_on : List ℕ → List ℕ → Start → Option Leaf
prose_on text t text_start = Some (Paragraph (text ++ ended (trim_front t)))
prose_on text t (underline_start level) = Some (Underlined level text)
prose_on text t _ = None

-- indented code
abbrev pub code_on : List ℕ → List ℕ → ℕ → List ℕ → Option Leaf
code_on text pending col t =
    let more = pending ++ ended (line_text (shifted 4 col t)) in
    if is_blank t then Some (Indented text more) else if nat_lt (indent col t) 4 then None else Some (Indented (text ++ more) [])

-- fenced code
abbrev pub fence_on : ℕ → ℕ → ℕ → List ℕ → List ℕ → Bool → ℕ → List ℕ → Option Leaf
fence_on i mark len info text true col t = None
fence_on i mark len info text false col t =
    if closes_fence mark len col t then Some (Fenced i mark len info text true) else Some (Fenced i mark len info (text ++ ended (line_text (shifted i col t))) false)

-- HTML
abbrev pub html_on : HtmlKind → List ℕ → Bool → List ℕ → Option Leaf
html_on kind text true t = None
html_on kind text false t = if ends_at_blank kind && is_blank t then None else Some (Html kind (text ++ ended t) (ends_html kind t))

-- a leaf with one more line, where it takes it
abbrev pub more_of : Leaf → Line → Option Leaf
more_of (Paragraph text) (own_line col t) = prose_on text t (start_of (in_paragraph (holds_text text)) col t)
more_of (Paragraph text) (lazy_line t) = Some (Paragraph (text ++ ended (trim_front t)))
more_of (Indented text pending) (own_line col t) = code_on text pending col t
more_of (Fenced i mark len info text is_closed) (own_line col t) = fence_on i mark len info text is_closed col t
more_of (Html kind text is_closed) (own_line col t) = html_on kind text is_closed t
more_of _ l = None
