-- Levels that are closed one after another.
use Rattle.std.proofs.Common.{◌≡◌, ◌∙◌, ap, sym, ℕ, ◌+◌, ◌<◌, ◌≤◌, List, [], ◌∷◌, ◌++◌, add-one, arith, drop, drop-cons, drop_of_length-le, get_or, length, refl, reverse, suc}
use Rattle.std.specs.Prelude.{Result, Ok, Err}
use Rattle.std.proofs.lemmas.List.{reverse-append}
use Rattle.markdown_grammar.specs.Definitions.{Definition}
use Rattle.markdown_grammar.specs.Blocks.{blocks_of}
use Rattle.markdown_grammar.specs.Html.{html, html_of}
use Rattle.markdown_grammar.specs.LinksOf.{links_of}
use Rattle.cm_blocks.specs.DocumentHtml.{document_html}
use Rattle.cm_blocks.specs.Documents.{document_of}
use Rattle.cm_blocks.specs.Layouts.{laid_out}
use Rattle.cm_blocks.specs.declared.node.Node.{Node}
use Rattle.cm_print.specs.NodeWalk.{State, closed, entered, state, text_after, walk, whole}
use Rattle.cm_print.specs.Printing.{Finishes, Moves, closed_at}
use Rattle.markdown_grammar.specs.declared.html_error.HtmlError.{HtmlError}
use Rattle.cm_print.specs.declared.printer.Printer.{Printer}
use Rattle.cm_print.specs.declared.level.Level.{Level}
use Rattle.cm_print.proofs.Growth.{closed_grows, walk_grows}
use Rattle.cm_print.proofs.WalkLaws.{closes_now, walk_is}

levels_behind : (new old : List Level) (next : Level) → old ≡ new ++ next ∷ [] → reverse old ≡ next ∷ reverse new
levels_behind new old next e = ap (λ (ls : List Level). reverse ls) e ∙ reverse-append new (next ∷ [])

-- the innermost level is closed
pub pop_closes : (i : ℕ) (top next : Level) (old new : List Level) (out now : List ℕ) → top.end ≡ i → old ≡ new ++ next ∷ [] → now ≡ text_after top.closing out
    → closed i next (reverse new) now ≡ closed i top (reverse old) out
pop_closes i top next old new out now end split is =
    ap (λ u. closed i next (reverse new) u) is ∙ sym (ap (λ (ls : List Level). closed i top ls out) (levels_behind new old next split) ∙ closes_now i top next (reverse new) out end)

-- what closes it does not fit
pub pop_exceeds : (i : ℕ) (top next : Level) (old new : List Level) (out : List ℕ) (s : State) (most : ℕ) → top.end ≡ i → old ≡ new ++ next ∷ [] → closed i top (reverse old) out ≡ s
    → most < length (text_after top.closing out) → most < length s.out
pop_exceeds i top next old new out s most end split same over =
    let is = pop_closes i top next old new out (text_after top.closing out) end split refl ∙ same in
    omega (arith, over, closed_grows i next (reverse new) (text_after top.closing out), ap (λ (t : State). length t.out) is)

-- no level is around the last
pub none_closes : (i : ℕ) (top : Level) (old : List Level) (out : List ℕ) → old ≡ [] → closed i top (reverse old) out ≡ state top (reverse old) out
none_closes i top old out e = ap (λ (ls : List Level). closed i top (reverse ls) out) e ∙ sym (ap (λ (ls : List Level). state top (reverse ls) out) e)

-- a node, and those behind it
pub node_first : (defs : List Definition) (i : ℕ) (s : State) (ns : List Node) (n : Node) → i < length ns → n ≡ get_or ns i n
    → walk defs i s (drop i ns) ≡ walk defs (i + 1) (entered defs i (closed_at i s) n) (drop (i + 1) ns)
node_first defs i s ns n lt at = ap (λ (m : List Node). walk defs i s m) {x = drop i ns} {y = n ∷ drop (i + 1) ns} (rw add-one (drop-cons ns i n lt ∙ ap (λ m. m ∷ drop (suc i) ns) (sym at)))

-- a node that does not fit
pub node_exceeds : (defs : List Definition) (i : ℕ) (s : State) (ns : List Node) (n : Node) (whole : List ℕ) (most : ℕ) → i < length ns → n ≡ get_or ns i n → walk defs i s (drop i ns) ≡ whole
    → most < length ((entered defs i (closed_at i s) n).out) → most < length whole
node_exceeds defs i s ns n whole most lt at same over =
    let is = sym (node_first defs i s ns n lt at) ∙ same in
    omega (arith, over, walk_grows defs (i + 1) (entered defs i (closed_at i s) n) (drop (i + 1) ns), ap (λ (t : List ℕ). length t) is)

-- the levels behind the last node are closed
pub finishes : (old mid new : Printer) (s : State) (all : List ℕ) (r : Result (Unit {0}) HtmlError) → Moves mid new s r → s.out ≡ all → mid.writer.most ≡ old.writer.most → Finishes old new all r
finishes old mid new s all (Ok u) moves is most = record { text = ap (λ (t : State). t.out) moves.state ∙ is; most = moves.most ∙ most }
finishes old mid new s all (Err e) exceeds is most = λ long. omega (arith, exceeds long, most, ap (λ (t : List ℕ). length t) is)

-- the walk behind all nodes
pub behind_all : (defs : List Definition) (i : ℕ) (s : State) (ns : List Node) (all : List ℕ) → length ns ≤ i → walk defs i s (drop i ns) ≡ all → (closed_at i s).out ≡ all
behind_all defs i s ns all past same = sym (ap (λ m. walk defs i s m) (drop_of_length-le ns past)) ∙ same

-- the walk over what is read of a text
pub html_is : (t : List ℕ) (defs : List Definition) (ns : List Node) (s : State) → ns ≡ laid_out (document_of (blocks_of t)) → defs ≡ links_of (blocks_of t) → s ≡ state (whole (length ns)) [] []
    → html_of (blocks_of t) ≡ document_html (links_of (blocks_of t)) (document_of (blocks_of t)) → walk defs 0 s ns ≡ html t
unfolding html
html_is t defs ns s nodes links start law =
    ap (λ u. walk defs 0 u ns) start ∙ ap (λ m. walk defs 0 (state (whole (length m)) [] []) m) nodes
    ∙ ap (λ k. walk k 0 (state (whole (length (laid_out (document_of (blocks_of t))))) [] []) (laid_out (document_of (blocks_of t)))) links
    ∙ walk_is (links_of (blocks_of t)) (document_of (blocks_of t)) ∙ sym law
