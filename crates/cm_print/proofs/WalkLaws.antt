-- The walk over the nodes of a document prints the document.
use Rattle.std.proofs.Common.{◌≡◌, ◌∙◌, ap, sym, refl, ℕ, suc, ◌+◌, ◌<◌, ◌≤◌, Bool, false, List, [], ◌∷◌, ◌++◌, ◌==◌, append_assoc, append-nil, length, arith, length-append, eq-eqb}
use Rattle.std.specs.Prelude.{codes, not}
use Rattle.std.proofs.lemmas.Bool.{ne_eqb}
use Rattle.markdown_grammar.specs.Definitions.{Definition}
use Rattle.markdown_grammar.specs.ListTags.{fresh_line}
use Rattle.cm_blocks.specs.DocumentHtml.{document_html, document_onto}
use Rattle.cm_blocks.specs.Documents as document
use Rattle.cm_blocks.specs.Documents.{Document}
use Rattle.cm_blocks.specs.Layouts.{laid_out}
use Rattle.cm_blocks.specs.declared.node.Node.{Node}
use Rattle.cm_blocks.specs.declared.node.Node.TheVariants as node
use Rattle.cm_print.specs.DocumentHtml.{list_after}
use Rattle.cm_print.specs.NodeWalk.{State, closed, entered, if_ended, state, text_after, walk, whole}
use Rattle.cm_print.specs.declared.level.Closing.{Closing}
use Rattle.cm_print.specs.declared.level.Closing.TheVariants as closing
use Rattle.cm_print.specs.declared.level.Level.{Level}

-- a level that does not end here stays open
pub stays_open : (i : ℕ) (top : Level) (outer : List Level) (out : List ℕ) → i < top.end → closed i top outer out ≡ state top outer out
stays_open i top [] out lt = refl
stays_open i top (next ∷ outer) out lt =
    ap (λ b. if_ended b (closed i next outer (text_after top.closing out)) (state top (next ∷ outer) out)) (ne_eqb top.end i (λ e. absurd (omega (arith, e, lt))))

-- a level that ends elsewhere stays open
pub stays : (i : ℕ) (top : Level) (outer : List Level) (out : List ℕ) → (top.end == i) ≡ false → closed i top outer out ≡ state top outer out
stays i top [] out ne = refl
stays i top (next ∷ outer) out ne = ap (λ b. if_ended b (closed i next outer (text_after top.closing out)) (state top (next ∷ outer) out)) ne

-- a level that ends here is closed
pub closes_now : (i : ℕ) (top next : Level) (outer : List Level) (out : List ℕ) → top.end ≡ i → closed i top (next ∷ outer) out ≡ closed i next outer (text_after top.closing out)
closes_now i top next outer out e = ap (λ b. if_ended b (closed i next outer (text_after top.closing out)) (state top (next ∷ outer) out)) (eq-eqb top.end i e)

closes_first : (defs : List Definition) (i : ℕ) (top next : Level) (outer : List Level) (out : List ℕ) (ns : List Node) → top.end ≡ i
    → walk defs i (state top (next ∷ outer) out) ns ≡ walk defs i (state next outer (text_after top.closing out)) ns
closes_first defs i top next outer out [] e = ap (λ (s : State). s.out) (closes_now i top next outer out e)
closes_first defs i top next outer out (n ∷ ns) e = ap (λ s. walk defs (i + 1) (entered defs i s n) ns) (closes_now i top next outer out e)

-- what the walk makes of a document's nodes, whatever follows
abbrev Walks : List Definition → Document → Type 0
Walks defs d = (i : ℕ) (top : Level) (outer : List Level) (out : List ℕ) (ns : List Node) → i + length (laid_out d) ≤ top.end
    → walk defs i (state top outer out) (laid_out d ++ ns) ≡ walk defs (i + length (laid_out d)) (state top outer (document_onto defs top.is_tight d out)) ns

-- a leaf, and the rest
leaf_walks : (defs : List Definition) (rest : Document) → Walks defs rest → (i : ℕ) (top : Level) (outer : List Level) (out now : List ℕ) (n : Node) (ns : List Node) → i + suc (length (laid_out rest)) ≤ top.end
    → ((s : State) → s ≡ state top outer out → entered defs i s n ≡ state top outer now)
    → walk defs i (state top outer out) (n ∷ (laid_out rest ++ ns)) ≡ walk defs (i + suc (length (laid_out rest))) (state top outer (document_onto defs top.is_tight rest now)) ns
leaf_walks defs rest hr i top outer out now n ns fits enters =
    ap (λ s. walk defs (i + 1) s (laid_out rest ++ ns)) (enters (closed i top outer out) (stays_open i top outer out (omega (arith, fits))))
    ∙ hr (i + 1) top outer now ns (omega (arith, fits))
    ∙ ap (λ k. walk defs k (state top outer (document_onto defs top.is_tight rest now)) ns) {x = i + 1 + length (laid_out rest)} {y = i + suc (length (laid_out rest))} (omega arith)

-- a container, and the rest
inner_walks : (defs : List Definition) (body rest : Document) → Walks defs body → Walks defs rest → (i : ℕ) (top inner : Level) (outer : List Level) (now : List ℕ) (ns : List Node)
    → inner.end ≡ i + 1 + length (laid_out body) → i + suc (length (laid_out body ++ laid_out rest)) ≤ top.end
    → walk defs (i + 1) (state inner (top ∷ outer) now) ((laid_out body ++ laid_out rest) ++ ns)
    ≡ walk defs (i + suc (length (laid_out body ++ laid_out rest))) (state top outer (document_onto defs top.is_tight rest (text_after inner.closing (document_onto defs inner.is_tight body now)))) ns
inner_walks defs body rest hb hr i top inner outer now ns end fits =
    let made = document_onto defs inner.is_tight body now in
    let both : length (laid_out body ++ laid_out rest) ≡ length (laid_out body) + length (laid_out rest) = length-append (laid_out body) (laid_out rest) in
    ap (walk defs (i + 1) (state inner (top ∷ outer) now)) (append_assoc (laid_out body) (laid_out rest) ns)
    ∙ hb (i + 1) inner (top ∷ outer) now (laid_out rest ++ ns) (omega (arith, end))
    ∙ closes_first defs (i + 1 + length (laid_out body)) inner top outer made (laid_out rest ++ ns) end
    ∙ hr (i + 1 + length (laid_out body)) top outer (text_after inner.closing made) ns (omega (arith, fits, both))
    ∙ ap (λ k. walk defs k (state top outer (document_onto defs top.is_tight rest (text_after inner.closing made))) ns) {x = i + 1 + length (laid_out body) + length (laid_out rest)}
    {y = i + suc (length (laid_out body ++ laid_out rest))} (omega (arith, both))

-- a container's node, its inside, and the rest
box_walks : (defs : List Definition) (body rest : Document) → Walks defs body → Walks defs rest → (i : ℕ) (top inner : Level) (outer : List Level) (out now : List ℕ) (n : Node) (ns : List Node)
    → ((s : State) → s ≡ state top outer out → entered defs i s n ≡ state inner (top ∷ outer) now)
    → inner.end ≡ i + 1 + length (laid_out body) → i + suc (length (laid_out body ++ laid_out rest)) ≤ top.end
    → walk defs i (state top outer out) (n ∷ ((laid_out body ++ laid_out rest) ++ ns))
    ≡ walk defs (i + suc (length (laid_out body ++ laid_out rest))) (state top outer (document_onto defs top.is_tight rest (text_after inner.closing (document_onto defs inner.is_tight body now)))) ns
box_walks defs body rest hb hr i top inner outer out now n ns enters end fits =
    ap (λ s. walk defs (i + 1) s ((laid_out body ++ laid_out rest) ++ ns)) (enters (closed i top outer out) (stays_open i top outer out (omega (arith, fits))))
    ∙ inner_walks defs body rest hb hr i top inner outer now ns end fits

abbrev inner : ℕ → Document → Bool → Closing → Level
inner i body tight c = record { end = i + 1 + length (laid_out body); is_tight = tight; closing = c }

walks : (defs : List Definition) (d : Document) → Walks defs d
walks defs document.nothing i top outer out ns fits = ap (λ k. walk defs k (state top outer out) ns) {x = i} {y = i + 0} (omega arith)
walks defs (document.paragraph text rest) i top outer out ns fits = leaf_walks defs rest (walks defs rest) i top outer out _ (node.Paragraph text) ns fits (λ s e. ap (λ s. entered defs i s (node.Paragraph text)) e)
walks defs (document.heading n text rest) i top outer out ns fits = leaf_walks defs rest (walks defs rest) i top outer out _ (node.Heading n text) ns fits (λ s e. ap (λ s. entered defs i s (node.Heading n text)) e)
walks defs (document.thematic_break rest) i top outer out ns fits = leaf_walks defs rest (walks defs rest) i top outer out _ node.Break ns fits (λ s e. ap (λ s. entered defs i s node.Break) e)
walks defs (document.code info text rest) i top outer out ns fits = leaf_walks defs rest (walks defs rest) i top outer out _ (node.Code info text) ns fits (λ s e. ap (λ s. entered defs i s (node.Code info text)) e)
walks defs (document.html text rest) i top outer out ns fits = leaf_walks defs rest (walks defs rest) i top outer out _ (node.Html text) ns fits (λ s e. ap (λ s. entered defs i s (node.Html text)) e)
walks defs (document.quote body rest) i top outer out ns fits =
    let n = node.Quote (length (laid_out body)) in
    box_walks defs body rest (walks defs body) (walks defs rest) i top (inner i body false closing.Quote) outer out (fresh_line out ++ codes "<blockquote>\n") n ns (λ s e. ap (λ s. entered defs i s n) e) refl fits
walks defs (document.list kind number loose body rest) i top outer out ns fits =
    let n = node.List kind number loose (length (laid_out body)) in
    box_walks defs body rest (walks defs body) (walks defs rest) i top (inner i body (not loose) (closing.List kind)) outer out (list_after kind number out) n ns (λ s e. ap (λ s. entered defs i s n) e) refl fits
walks defs (document.item body rest) i top outer out ns fits =
    let n = node.Item (length (laid_out body)) in
    box_walks defs body rest (walks defs body) (walks defs rest) i top (inner i body top.is_tight closing.Item) outer out (out ++ codes "<li>") n ns (λ s e. ap (λ s. entered defs i s n) e) refl fits

-- the walk over all nodes
pub walk_is : (defs : List Definition) (d : Document) → walk defs 0 (state (whole (length (laid_out d))) [] []) (laid_out d) ≡ document_html defs d
walk_is defs d =
    ap (walk defs 0 (state (whole (length (laid_out d))) [] [])) (sym (append-nil (laid_out d)))
    ∙ walks defs d 0 (whole (length (laid_out d))) [] [] [] (omega arith)
