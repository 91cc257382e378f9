-- What is printed only grows.
use Rattle.std.proofs.Common.{ℕ, ◌+◌, ◌≤◌, Bool, true, false, List, [], ◌∷◌, ◌++◌, ◌==◌, length, arith, length-append}
use Rattle.std.specs.Prelude.{None, Option, Some, codes, ◌||◌, if◌then◌else◌, reverse}
use Rattle.site_text.specs.Bytes.{line_feed}
use Rattle.site_text.specs.Fronts.{first_byte}
use Rattle.markdown_grammar.specs.Definitions.{Definition}
use Rattle.markdown_grammar.specs.Fronts.{is_empty}
use Rattle.markdown_grammar.specs.LeafHtml.{heading_name, paragraph_onto, prose_onto, table_or_prose_onto, tagged}
use Rattle.markdown_grammar.specs.TableHtml.{table_html}
use Rattle.markdown_grammar.specs.Tables.{Table, table_of}
use Rattle.markdown_grammar.specs.ListTags.{fresh_line, is_bullet, list_tag}
use Rattle.cm_blocks.specs.DocumentHtml.{code_html}
use Rattle.cm_blocks.specs.declared.node.Node.{Node}
use Rattle.cm_blocks.specs.declared.node.Node.TheVariants as node
use Rattle.cm_print.specs.DocumentHtml.{prose}
use Rattle.cm_print.specs.NodeWalk.{State, closed, entered, if_ended, state, text_after, walk}
use Rattle.cm_print.specs.declared.level.Closing.{Closing}
use Rattle.cm_print.specs.declared.level.Closing.TheVariants as closing
use Rattle.cm_print.specs.declared.level.Level.{Level}

pub more : (a b : List ℕ) → length a ≤ length (a ++ b)
more a b = omega (arith, length-append a b)

more_yet : (a b c : List ℕ) → length a ≤ length b → length a ≤ length (b ++ c)
more_yet a b c h = omega (arith, h, length-append b c)

pub fresh_grows : (out : List ℕ) → length out ≤ length (fresh_line out)
fresh_grows out = go (is_empty out || (first_byte (reverse out) == line_feed))
  where
    go : (b : Bool) → length out ≤ length (if b then out else out ++ line_feed ∷ [])
    go true = omega arith
    go false = more out (line_feed ∷ [])

pub prose_grows : (tight : Bool) (body out : List ℕ) → length out ≤ length (prose_onto tight body out)
prose_grows true body out = more out body
prose_grows false body out = more_yet out (fresh_line out) (tagged (codes "p") body) (fresh_grows out)

pub paragraph_grows : (defs : List Definition) (tight : Bool) (text out : List ℕ) → length out ≤ length (paragraph_onto defs tight text out)
paragraph_grows defs tight text out = go (is_empty text) (table_of text)
  where
    go : (b : Bool) (found : Option Table) → length out ≤ length (if b then out else table_or_prose_onto defs tight text found out)
    go true found = omega arith
    go false (Some table) = more_yet out (fresh_line out) (table_html defs table) (fresh_grows out)
    go false None = prose_grows tight (prose defs text) out

pub text_grows : (c : Closing) (out : List ℕ) → length out ≤ length (text_after c out)
text_grows closing.Text out = omega arith
text_grows closing.Quote out = more out (codes "</blockquote>\n")
text_grows (closing.List mark) out = more out (if is_bullet mark then codes "</ul>\n" else codes "</ol>\n")
text_grows closing.Item out = more out (codes "</li>\n")

pub closed_grows : (i : ℕ) (top : Level) (outer : List Level) (out : List ℕ) → length out ≤ length ((closed i top outer out).out)
closed_grows i top [] out = omega arith
closed_grows i top (next ∷ outer) out = go (top.end == i) (closed_grows i next outer (text_after top.closing out))
  where
    go : (b : Bool) → length (text_after top.closing out) ≤ length ((closed i next outer (text_after top.closing out)).out)
        → length out ≤ length ((if_ended b (closed i next outer (text_after top.closing out)) (state top (next ∷ outer) out)).out)
    go true h = omega (arith, h, text_grows top.closing out)
    go false h = omega arith

pub entered_grows : (defs : List Definition) (i : ℕ) (s : State) (n : Node) → length s.out ≤ length ((entered defs i s n).out)
entered_grows defs i s (node.Paragraph text) = paragraph_grows defs s.top.is_tight text s.out
entered_grows defs i s (node.Heading n text) = more_yet s.out (fresh_line s.out) (tagged (heading_name n) (prose defs text)) (fresh_grows s.out)
entered_grows defs i s node.Break = more_yet s.out (fresh_line s.out) (codes "<hr />\n") (fresh_grows s.out)
entered_grows defs i s (node.Code info text) = more_yet s.out (fresh_line s.out) (code_html info text) (fresh_grows s.out)
entered_grows defs i s (node.Html text) = more_yet s.out (fresh_line s.out) text (fresh_grows s.out)
entered_grows defs i s (node.Quote len) = more_yet s.out (fresh_line s.out) (codes "<blockquote>\n") (fresh_grows s.out)
entered_grows defs i s (node.List mark number loose len) = more_yet s.out (fresh_line s.out) (list_tag mark number) (fresh_grows s.out)
entered_grows defs i s (node.Item len) = more s.out (codes "<li>")

pub walk_grows : (defs : List Definition) (i : ℕ) (s : State) (ns : List Node) → length s.out ≤ length (walk defs i s ns)
walk_grows defs i s [] = closed_grows i s.top s.outer s.out
walk_grows defs i s (n ∷ ns) =
    let c = closed i s.top s.outer s.out in
    omega (arith, closed_grows i s.top s.outer s.out, entered_grows defs i c n, walk_grows defs (i + 1) (entered defs i c n) ns)
