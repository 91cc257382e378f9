-- The HTML of blocks is that of their document.
use Rattle.std.proofs.Common.{Bool, List, None, Option, Some, [], ap, arith, codes, cond, false, not, refl, subst, sym, true, ℕ, ◌++◌, ◌==◌, ◌∙◌, ◌≡◌}
use Rattle.markdown_grammar.specs.Blocks.{Blocks}
use Rattle.markdown_grammar.specs.Containers as grammar
use Rattle.markdown_grammar.specs.Definitions.{Definition}
use Rattle.markdown_grammar.specs.Extents.{blank_line, container, leaf, no_blocks}
use Rattle.markdown_grammar.specs.Fronts.{is_empty}
use Rattle.markdown_grammar.specs.Html.{blocks_onto, html_of}
use Rattle.markdown_grammar.specs.LeafHtml.{leaf_onto, paragraph_onto, prose_text, table_or_prose_onto}
use Rattle.markdown_grammar.specs.Leaves as leaves
use Rattle.markdown_grammar.specs.LinksOf.{links_of}
use Rattle.markdown_grammar.specs.Lists.{goes_on, is_loose}
use Rattle.markdown_grammar.specs.ListTags.{Open, fresh_line, in_list, is_tight, list_closed, list_tag, no_list}
use Rattle.markdown_grammar.specs.Tables.{table_of}
use Rattle.cm_blocks.specs.Documents as document
use Rattle.cm_blocks.specs.Documents.{Document, document_of, item_before, leaf_before}
use Rattle.cm_blocks.specs.DocumentHtml.{document_html, document_onto}
use Rattle.cm_blocks.specs.Making.{is_next}
use Rattle.cm_blocks.proofs.MadeLaws.{Shape, next_is, next_kind, next_loose, next_number, shape_of}

-- a leaf
leaf_html : (defs : List Definition) (tight : Bool) (s : leaves.Leaf) (d : Document) (out : List ℕ) → document_onto defs tight d (leaf_onto defs tight s out) ≡ document_onto defs tight (leaf_before s d) out
leaf_html defs tight (leaves.paragraph texts) d out = go (is_empty (prose_text texts)) refl where
  go : (b : Bool) → is_empty (prose_text texts) ≡ b → document_onto defs tight d (paragraph_onto defs tight (prose_text texts) out) ≡ document_onto defs tight (cond b d (document.paragraph (prose_text texts) d)) out
  go true e = ap (λ (x : Bool). document_onto defs tight d (cond x out (table_or_prose_onto defs tight (prose_text texts) (table_of (prose_text texts)) out))) e
  go false e = refl
leaf_html defs tight (leaves.setext_heading level texts) d out = refl
leaf_html defs tight (leaves.atx_heading level line) d out = refl
leaf_html defs tight leaves.thematic_break d out = refl
leaf_html defs tight (leaves.indented_code texts pending) d out = refl
leaf_html defs tight (leaves.fenced_code i mark len info texts is_closed) d out = refl
leaf_html defs tight (leaves.html_block kind texts is_closed) d out = refl

-- the document's first list goes on, and is printed as one that is loose or not
abbrev rest_onto : List Definition → Bool → ℕ → Bool → Document → List ℕ → List ℕ
rest_onto defs tight kind loose (document.list k n l items rest) out = document_onto defs tight rest (list_closed (in_list kind loose) (document_onto defs (not loose) items out))
rest_onto defs tight kind loose d out = out

-- blocks where no list is open, and where one is that goes on
pub record IsPrinted (defs : List Definition) (bs : Blocks) : Type 0 where
  pub apart : (tight : Bool) (out : List ℕ) → blocks_onto defs tight no_list bs out ≡ document_onto defs tight (document_of bs) out
  pub on : (tight : Bool) (kind : ℕ) (loose : Bool) (out : List ℕ) → goes_on kind bs ≡ true → blocks_onto defs tight (in_list kind loose) bs out ≡ rest_onto defs tight kind loose (document_of bs) out

-- a list that does not go on is closed
ended : (defs : List Definition) (tight : Bool) (kind : ℕ) (loose : Bool) (bs : Blocks) (out : List ℕ) → goes_on kind bs ≡ false
    → blocks_onto defs tight (in_list kind loose) bs out ≡ blocks_onto defs tight no_list bs (list_closed (in_list kind loose) out)
ended defs tight kind loose no_blocks out h = refl
ended defs tight kind loose (blank_line l rest) out h = ended defs tight kind loose rest out h
ended defs tight kind loose (leaf s rest) out h = refl
ended defs tight kind loose (container grammar.block_quote body rest) out h = refl
ended defs tight kind loose (container (grammar.list_item k number content) body rest) out h = go (kind == k) (other h) where
  other : (k == kind) ≡ false → (kind == k) ≡ false
  other e = grind (arith, e)

  go : (b : Bool) → b ≡ false
      → (let now : Open = cond b (in_list kind loose) (in_list k (is_loose k (container (grammar.list_item k number content) body rest))) in blocks_onto defs tight now rest (blocks_onto defs (is_tight now) no_list body (cond b out (fresh_line (list_closed (in_list kind loose) out) ++ list_tag k number) ++ codes "<li>") ++ codes "</li>\n"))
      ≡ blocks_onto defs tight no_list (container (grammar.list_item k number content) body rest) (list_closed (in_list kind loose) out)
  go true e = absurd cc
  go false e = refl

-- what is printed of an item and what follows it, in a list that is loose or not
abbrev item_onto : List Definition → Bool → ℕ → Bool → Blocks → Blocks → List ℕ → List ℕ
item_onto defs tight kind loose body rest out = blocks_onto defs tight (in_list kind loose) rest (blocks_onto defs (not loose) no_list body (out ++ codes "<li>") ++ codes "</li>\n")

-- the same by documents: the items from this one on, and what follows the list
item_html : (defs : List Definition) (tight : Bool) (kind : ℕ) (loose own : Bool) (number : ℕ) (body rest : Blocks) (out : List ℕ) → IsPrinted defs body → IsPrinted defs rest
    → item_onto defs tight kind loose body rest out ≡ rest_onto defs tight kind loose (item_before kind number own (document_of body) (goes_on kind rest) (document_of rest)) out
item_html defs tight kind loose own number body rest out b r =
    ap (λ (o : List ℕ). blocks_onto defs tight (in_list kind loose) rest (o ++ codes "</li>\n")) (b.apart (not loose) (out ++ codes "<li>"))
    ∙ go (goes_on kind rest) refl where
      more : (o : Option ℕ) (k : ℕ) (l : Bool) (d : Document) (x : List ℕ) → Shape o k l d → is_next kind o ≡ true
          → rest_onto defs tight kind loose d (document_onto defs (not loose) (document_of body) (out ++ codes "<li>") ++ codes "</li>\n") ≡ rest_onto defs tight kind loose (item_before kind number own (document_of body) true d) out
      more None k l d x h e = absurd cc
      more (Some j) k l d x h e = last d h.0 h.1 h.2 where
        last : (d items after : Document) → d ≡ document.list j k l items after
            → rest_onto defs tight kind loose d (document_onto defs (not loose) (document_of body) (out ++ codes "<li>") ++ codes "</li>\n") ≡ rest_onto defs tight kind loose (item_before kind number own (document_of body) true d) out
        last d items after f = subst (λ (y : Document). rest_onto defs tight kind loose y (document_onto defs (not loose) (document_of body) (out ++ codes "<li>") ++ codes "</li>\n") ≡ rest_onto defs tight kind loose (item_before kind number own (document_of body) true y) out) (sym f) refl

      go : (x : Bool) → goes_on kind rest ≡ x
          → blocks_onto defs tight (in_list kind loose) rest (document_onto defs (not loose) (document_of body) (out ++ codes "<li>") ++ codes "</li>\n") ≡ rest_onto defs tight kind loose (item_before kind number own (document_of body) x (document_of rest)) out
      go true e = r.on tight kind loose (document_onto defs (not loose) (document_of body) (out ++ codes "<li>") ++ codes "</li>\n") e ∙ more (next_kind rest) (next_number rest) (next_loose rest) (document_of rest) out (shape_of rest) (next_is kind rest ∙ e)
      go false e =
          ended defs tight kind loose rest (document_onto defs (not loose) (document_of body) (out ++ codes "<li>") ++ codes "</li>\n") e
          ∙ r.apart tight (list_closed (in_list kind loose) (document_onto defs (not loose) (document_of body) (out ++ codes "<li>") ++ codes "</li>\n"))

-- the first list of a document, with its tag
list_html : (defs : List Definition) (tight : Bool) (kind number : ℕ) (loose : Bool) (body : Document) (more : Bool) (d : Document) (out : List ℕ)
    → rest_onto defs tight kind loose (item_before kind number loose body more d) (fresh_line out ++ list_tag kind number) ≡ document_onto defs tight (item_before kind number loose body more d) out
list_html defs tight kind number loose body true document.nothing out = refl
list_html defs tight kind number loose body true (document.paragraph text rest) out = refl
list_html defs tight kind number loose body true (document.heading level text rest) out = refl
list_html defs tight kind number loose body true (document.thematic_break rest) out = refl
list_html defs tight kind number loose body true (document.code info text rest) out = refl
list_html defs tight kind number loose body true (document.html text rest) out = refl
list_html defs tight kind number loose body true (document.quote inner rest) out = refl
list_html defs tight kind number loose body true (document.list k n l items rest) out = refl
list_html defs tight kind number loose body true (document.item inner rest) out = refl
list_html defs tight kind number loose body false d out = refl

same_kind : (k : ℕ) → (k == k) ≡ true
same_kind k = grind arith

-- an item of the open list
item_goes : (defs : List Definition) (tight : Bool) (kind k number content : ℕ) (loose : Bool) (body rest : Blocks) (out : List ℕ) → (kind == k) ≡ true
    → blocks_onto defs tight (in_list kind loose) (container (grammar.list_item k number content) body rest) out ≡ item_onto defs tight kind loose body rest out
item_goes defs tight kind k number content loose body rest out h = go (kind == k) h where
  go : (b : Bool) → b ≡ true
      → (let now : Open = cond b (in_list kind loose) (in_list k (is_loose k (container (grammar.list_item k number content) body rest))) in
      blocks_onto defs tight now rest (blocks_onto defs (is_tight now) no_list body (cond b out (fresh_line (list_closed (in_list kind loose) out) ++ list_tag k number) ++ codes "<li>") ++ codes "</li>\n"))
      ≡ item_onto defs tight kind loose body rest out
  go true e = refl
  go false e = absurd cc

pub printed : (defs : List Definition) (bs : Blocks) → IsPrinted defs bs
printed defs no_blocks = record { apart = λ tight out. refl; on = λ tight kind loose out h. absurd cc }
printed defs (blank_line l rest) = let r = printed defs rest in record { apart = r.apart; on = r.on }
printed defs (leaf s rest) = let r = printed defs rest in record { apart = λ tight out. r.apart tight (leaf_onto defs tight s out) ∙ leaf_html defs tight s (document_of rest) out; on = λ tight kind loose out h. absurd cc }
printed defs (container grammar.block_quote body rest) =
    let b = printed defs body in
    let r = printed defs rest in
    record {
      apart = λ tight out.
          r.apart tight (blocks_onto defs false no_list body (fresh_line out ++ codes "<blockquote>\n") ++ codes "</blockquote>\n")
          ∙ ap (λ (o : List ℕ). document_onto defs tight (document_of rest) (o ++ codes "</blockquote>\n")) (b.apart false (fresh_line out ++ codes "<blockquote>\n"));
      on = λ tight kind loose out h. absurd cc;
    }
printed defs (container (grammar.list_item k number content) body rest) =
    let b = printed defs body in
    let r = printed defs rest in
    let own = is_loose k (container (grammar.list_item k number content) body rest) in
    record {
      apart = λ tight out.
          item_html defs tight k own own number body rest (fresh_line out ++ list_tag k number) b r ∙ list_html defs tight k number own (document_of body) (goes_on k rest) (document_of rest) out;
      on = λ tight kind loose out h.
          let same : k ≡ kind = grind (arith, h) in
          let test : (kind == k) ≡ true = ap (λ (j : ℕ). kind == j) same ∙ same_kind kind in
          item_goes defs tight kind k number content loose body rest out test ∙ item_html defs tight kind loose own number body rest out b r
          ∙ ap (λ (j : ℕ). rest_onto defs tight kind loose (item_before j number own (document_of body) (goes_on j rest) (document_of rest)) out) (sym same);
    }

pub same_html : (bs : Blocks) → html_of bs ≡ document_html (links_of bs) (document_of bs)
same_html bs = (printed (links_of bs) bs).apart false []
