-- Flat nodes as HTML (CommonMark 0.31.2, sections 4 and 5), one after another: a level is closed before the first node behind it.
use Rattle.std.specs.Prelude.{Bool, true, false, List, [], ◌∷◌, ◌++◌, ◌+◌, ◌==◌, codes, not, ℕ}
use Rattle.markdown_grammar.specs.Definitions.{Definition}
use Rattle.markdown_grammar.specs.LeafHtml.{paragraph_onto}
use Rattle.markdown_grammar.specs.ListTags.{fresh_line, in_list, list_closed}
use Rattle.cm_blocks.specs.declared.node.Node.{Node}
use Rattle.cm_blocks.specs.declared.node.Node.TheVariants as node
use Rattle.cm_print.specs.DocumentHtml.{code_after, heading_after, list_after, prose}
use Rattle.cm_print.specs.declared.level.Closing.{Closing}
use Rattle.cm_print.specs.declared.level.Closing.TheVariants as closing
use Rattle.cm_print.specs.declared.level.Level.{Level}

-- the innermost level, those around it from the inside, and the text so far
pub record State : Type 0 where
  pub top : Level
  pub outer : List Level
  pub out : List ℕ

abbrev pub state : Level → List Level → List ℕ → State
state top outer out = record { top = top; outer = outer; out = out }

-- the text so far, and what closes a level
abbrev pub text_after : Closing → List ℕ → List ℕ
text_after closing.Text out = out
text_after closing.Quote out = out ++ codes "</blockquote>\n"
text_after (closing.List mark) out = list_closed (in_list mark false) out
text_after closing.Item out = out ++ codes "</li>\n"

abbrev pub if_ended : Bool → State → State → State
if_ended true a b = a
if_ended false a b = b

-- the levels that end at a place are closed
abbrev pub closed : ℕ → Level → List Level → List ℕ → State
closed i top [] out = state top [] out
closed i top (next ∷ outer) out = if_ended (top.end == i) (closed i next outer (text_after top.closing out)) (state top (next ∷ outer) out)

-- another text
abbrev pub put : State → List ℕ → State
put s out = state s.top s.outer out

-- a level inside, with so many nodes, and the text
abbrev pub inside : ℕ → State → ℕ → Bool → Closing → List ℕ → State
inside i s len tight c out = state (record { end = i + 1 + len; is_tight = tight; closing = c }) (s.top ∷ s.outer) out

-- a node at a place where no level ends
abbrev pub entered : List Definition → ℕ → State → Node → State
entered defs i s (node.Paragraph text) = put s (paragraph_onto defs s.top.is_tight text s.out)
entered defs i s (node.Heading n text) = put s (heading_after n (prose defs text) s.out)
entered defs i s node.Break = put s (fresh_line s.out ++ codes "<hr />\n")
entered defs i s (node.Code info text) = put s (code_after info text s.out)
entered defs i s (node.Html text) = put s (fresh_line s.out ++ text)
entered defs i s (node.Quote len) = inside i s len false closing.Quote (fresh_line s.out ++ codes "<blockquote>\n")
entered defs i s (node.List mark number loose len) = inside i s len (not loose) (closing.List mark) (list_after mark number s.out)
entered defs i s (node.Item len) = inside i s len s.top.is_tight closing.Item (s.out ++ codes "<li>")

-- a node behind the levels that end before it
abbrev pub stepped : List Definition → ℕ → State → Node → State
stepped defs i s n = entered defs i (closed i s.top s.outer s.out) n

abbrev pub walk : List Definition → ℕ → State → List Node → List ℕ
walk defs i s [] = (closed i s.top s.outer s.out).out
walk defs i s (n ∷ ns) = walk defs (i + 1) (stepped defs i s n) ns

-- the level of a whole text
abbrev pub whole : ℕ → Level
whole len = record { end = len; is_tight = false; closing = closing.Text }
