-- The nodes made of tokens are the document, laid out.
use Rattle.std.proofs.Common.{Bool, List, None, Option, Some, [], ap, append_assoc, arith, cond, false, length, length-append, not, refl, reverse, subst, sym, true, ℕ, ◌&&◌, ◌+◌, ◌++◌, ◌-◌, ◌==◌, ◌||◌, ◌∙◌, ◌∷◌, ◌≡◌}
use Rattle.std.proofs.lemmas.List.{append-nil, length-reverse, reverse-append}
use Rattle.markdown_grammar.specs.Blocks.{Blocks}
use Rattle.markdown_grammar.specs.Columns.{Line}
use Rattle.markdown_grammar.specs.Containers as grammar
use Rattle.markdown_grammar.specs.Extents.{blank_line, container, has_block, leaf, no_blocks}
use Rattle.markdown_grammar.specs.Fronts.{is_empty}
use Rattle.markdown_grammar.specs.Definitions.{Definition, after_definitions, definitions}
use Rattle.markdown_grammar.specs.LeafHtml.{prose_text}
use Rattle.markdown_grammar.specs.Leaves as leaves
use Rattle.markdown_grammar.specs.Lines.{ended_lines, trim}
use Rattle.markdown_grammar.specs.LinksOf.{leaf_links, links_of}
use Rattle.markdown_grammar.specs.Lists.{ends_blank, goes_on, has_apart, is_loose, item_blank, leaf_blank, starts_gap}
use Rattle.cm_containers.specs.declared.kinds.Container.{Container}
use Rattle.cm_containers.specs.declared.kinds.Container.TheVariants.{Item, Quote}
use Rattle.cm_blocks.specs.declared.kinds.Token.{Token}
use Rattle.cm_blocks.specs.declared.kinds.Token.TheVariants.{Blank, Closes, Holds, Opens}
use Rattle.cm_blocks.specs.declared.level.Level.{Level}
use Rattle.cm_blocks.specs.declared.node.Node.{Node}
use Rattle.cm_blocks.specs.declared.node.Node.TheVariants as node
use Rattle.cm_blocks.specs.Documents as document
use Rattle.cm_blocks.specs.Documents.{Document, document_of, item_before, leaf_before}
use Rattle.cm_blocks.specs.Layouts.{laid_out}
use Rattle.cm_blocks.specs.Leaves.{leaf_of}
use Rattle.cm_blocks.specs.Making.{Made, all_made, blank_level, box_ended, container_level, container_node, fresh, is_next, is_open_blank, item_level, leaf_level, links_in, links_with, listed, made_nodes, made_start, nodes_in, prose_of, reads_blank, token_links, token_made, unlisted}
use Rattle.cm_blocks.specs.Tokens.{container_of, tokens}
use Rattle.cm_blocks.proofs.LeafSteps.{unended_is}

pub made-append : (xs ys : List Token) (m : Made) → all_made (xs ++ ys) m ≡ all_made xs (all_made ys m)
made-append [] ys m = refl
made-append (x ∷ xs) ys m = ap (token_made x) (made-append xs ys m)

-- ---- levels

abbrev pub is_none : Blocks → Bool
is_none no_blocks = true
is_none (blank_line l rest) = false
is_none (leaf s rest) = false
is_none (container k body rest) = false

abbrev pub is_one_blank : Blocks → Bool
is_one_blank no_blocks = false
is_one_blank (blank_line l rest) = is_none rest
is_one_blank (leaf s rest) = false
is_one_blank (container k body rest) = false

abbrev pub next_kind : Blocks → Option ℕ
next_kind no_blocks = None
next_kind (blank_line l rest) = next_kind rest
next_kind (leaf s rest) = None
next_kind (container grammar.block_quote body rest) = None
next_kind (container (grammar.list_item kind number content) body rest) = Some kind

abbrev pub next_loose : Blocks → Bool
next_loose no_blocks = false
next_loose (blank_line l rest) = next_loose rest
next_loose (leaf s rest) = false
next_loose (container grammar.block_quote body rest) = false
next_loose (container (grammar.list_item kind number content) body rest) = is_loose kind (container (grammar.list_item kind number content) body rest)

abbrev pub next_number : Blocks → ℕ
next_number no_blocks = 0
next_number (blank_line l rest) = next_number rest
next_number (leaf s rest) = 0
next_number (container grammar.block_quote body rest) = 0
next_number (container (grammar.list_item kind number content) body rest) = number

-- ---- nodes, the last first

abbrev pub back : Document → List Node
back document.nothing = []
back (document.paragraph text rest) = back rest ++ node.Paragraph text ∷ []
back (document.heading level text rest) = back rest ++ node.Heading level text ∷ []
back (document.thematic_break rest) = back rest ++ node.Break ∷ []
back (document.code info text rest) = back rest ++ node.Code info text ∷ []
back (document.html text rest) = back rest ++ node.Html text ∷ []
back (document.quote body rest) = (back rest ++ back body) ++ node.Quote (length (back body)) ∷ []
back (document.list kind number loose items rest) = (back rest ++ back items) ++ node.List kind number loose (length (back items)) ∷ []
back (document.item body rest) = (back rest ++ back body) ++ node.Item (length (back body)) ∷ []

-- the nodes of a document without those of its first list's own
abbrev pub behind_list : Document → List Node
behind_list (document.list kind number loose items rest) = back rest
behind_list d = []

-- the nodes without the first list's own node, where it is not whole
abbrev pub open_back : Option ℕ → Document → List Node
open_back None d = back d
open_back (Some k) (document.list kind number loose items rest) = back rest ++ back items
open_back (Some k) d = back d

-- where the nodes of the first list start, behind so many
abbrev pub list_at : Option ℕ → ℕ → Document → ℕ
list_at None m d = 0
list_at (Some k) m d = m + length (behind_list d)

-- what is known of blocks; their level starts behind n nodes, and the list behind m
abbrev pub level_of : ℕ → ℕ → Blocks → Level
level_of n m bs = record {
  start = n;
  is_empty = is_none bs;
  is_blank = is_one_blank bs;
  ends_blank = ends_blank bs;
  starts_blank = starts_gap bs;
  has_block = has_block bs;
  is_apart = has_apart bs;
  next = next_kind bs;
  number = next_number bs;
  is_loose = next_loose bs;
  list_start = list_at (next_kind bs) m (document_of bs);
}

blank_is : (n m : ℕ) (l : Line) (rest : Blocks) → blank_level (level_of n m rest) ≡ level_of n m (blank_line l rest)
blank_is n m l no_blocks = refl
blank_is n m l (blank_line g rest) = refl
blank_is n m l (leaf s rest) = refl
blank_is n m l (container k body rest) = refl

reads_is : (s : leaves.Leaf) → reads_blank (leaf_of s) ≡ leaf_blank s
reads_is (leaves.paragraph texts) = refl
reads_is (leaves.setext_heading level texts) = refl
reads_is (leaves.atx_heading level line) = refl
reads_is leaves.thematic_break = refl
reads_is (leaves.indented_code texts pending) = ap not (empty pending) where
  empty : (ps : List (List ℕ)) → is_empty (ended_lines ps) ≡ is_empty ps
  empty [] = refl
  empty ([] ∷ ps) = refl
  empty ((c ∷ cs) ∷ ps) = refl
reads_is (leaves.fenced_code i mark len info texts is_closed) = refl
reads_is (leaves.html_block kind texts is_closed) = refl

leaf_is : (n m : ℕ) (s : leaves.Leaf) (rest : Blocks) → leaf_level (leaf_blank s) (level_of n m rest) ≡ level_of n m (leaf s rest)
leaf_is n m s no_blocks = refl
leaf_is n m s (blank_line g rest) = refl
leaf_is n m s (leaf t rest) = refl
leaf_is n m s (container k body rest) = refl

quote_is : (n m : ℕ) (body rest : Blocks) → leaf_level false (unlisted (level_of n m rest)) ≡ level_of n m (container grammar.block_quote body rest)
quote_is n m body no_blocks = refl
quote_is n m body (blank_line g rest) = refl
quote_is n m body (leaf t rest) = refl
quote_is n m body (container k inner rest) = refl

-- ---- items

pub next_is : (kind : ℕ) (rest : Blocks) → is_next kind (next_kind rest) ≡ goes_on kind rest
next_is kind no_blocks = refl
next_is kind (blank_line l rest) = next_is kind rest
next_is kind (leaf s rest) = refl
next_is kind (container grammar.block_quote body rest) = refl
next_is kind (container (grammar.list_item k number content) body rest) = refl

open_is : (n m : ℕ) (body : Blocks) → is_open_blank (level_of n m body) ≡ item_blank body
open_is n m no_blocks = refl
open_is n m (blank_line l no_blocks) = refl
open_is n m (blank_line l (blank_line g rest)) = refl
open_is n m (blank_line l (leaf s rest)) = refl
open_is n m (blank_line l (container k body rest)) = refl
open_is n m (leaf s rest) = refl
open_is n m (container k body rest) = refl

same_kind : (k : ℕ) → (k == k) ≡ true
same_kind k = grind arith

abbrev loose_cases : (same apart on blank gap rest : Bool) → Bool
loose_cases same apart on blank gap rest = same && ((apart || (on && (blank || gap))) || rest)

loose_rest : (kind : ℕ) (rest : Blocks) → (goes_on kind rest && next_loose rest) ≡ is_loose kind rest
loose_rest kind no_blocks = refl
loose_rest kind (blank_line l rest) = loose_rest kind rest
loose_rest kind (leaf s rest) = refl
loose_rest kind (container grammar.block_quote body rest) = refl
loose_rest kind (container (grammar.list_item k number content) body rest) = go (k == kind) refl where
  go : (b : Bool) → (k == kind) ≡ b
      → (b && loose_cases (k == k) (has_apart body) (goes_on k rest) (item_blank body) (starts_gap rest) (is_loose k rest)) ≡ loose_cases b (has_apart body) (goes_on kind rest) (item_blank body) (starts_gap rest) (is_loose kind rest)
  go true h =
      let e : k ≡ kind = grind (arith, h) in
      ap (λ (b : Bool). loose_cases b (has_apart body) (goes_on k rest) (item_blank body) (starts_gap rest) (is_loose k rest)) (same_kind k)
      ∙ ap (λ (j : ℕ). loose_cases true (has_apart body) (goes_on j rest) (item_blank body) (starts_gap rest) (is_loose j rest)) e
  go false h = refl

loose_is : (kind number content : ℕ) (body rest : Blocks) → ((has_apart body || (goes_on kind rest && (item_blank body || starts_gap rest))) || (goes_on kind rest && next_loose rest)) ≡ is_loose kind (container (grammar.list_item kind number content) body rest)
loose_is kind number content body rest =
    ap (λ (b : Bool). (has_apart body || (goes_on kind rest && (item_blank body || starts_gap rest))) || b) (loose_rest kind rest)
    ∙ ap (λ (b : Bool). loose_cases b (has_apart body) (goes_on kind rest) (item_blank body) (starts_gap rest) (is_loose kind rest)) (sym (same_kind kind))

-- an item's level, by whether it ends blank, whether its list goes on and is loose, and where that starts
abbrev item_at : (kind number : ℕ) → (on blank loose : Bool) → ℕ → Level → Level
item_at kind number on blank loose at l = record {
  start = l.start;
  is_empty = false;
  is_blank = false;
  ends_blank = cond l.is_empty blank l.ends_blank;
  starts_blank = false;
  has_block = true;
  is_apart = (not on && ((blank || l.starts_blank) && l.has_block)) || l.is_apart;
  next = Some kind;
  number = number;
  is_loose = loose;
  list_start = at;
}

ends_is : (kind number content : ℕ) (body : Blocks) → item_blank body ≡ ends_blank (container (grammar.list_item kind number content) body no_blocks)
ends_is kind number content no_blocks = refl
ends_is kind number content (blank_line l no_blocks) = refl
ends_is kind number content (blank_line l (blank_line m rest)) = refl
ends_is kind number content (blank_line l (leaf s rest)) = refl
ends_is kind number content (blank_line l (container k body rest)) = refl
ends_is kind number content (leaf s rest) = refl
ends_is kind number content (container k body rest) = refl

abbrev IsSome' : Blocks → Type 0
IsSome' no_blocks = ⊥
IsSome' (blank_line l rest) = Unit {0}
IsSome' (leaf s rest) = Unit {0}
IsSome' (container k body rest) = Unit {0}

ends_behind : (kind number content : ℕ) (body rest : Blocks) → IsSome' rest → ends_blank rest ≡ ends_blank (container (grammar.list_item kind number content) body rest)
ends_behind kind number content body no_blocks h = absurd h
ends_behind kind number content no_blocks (blank_line m rest) h = refl
ends_behind kind number content (blank_line l no_blocks) (blank_line m rest) h = refl
ends_behind kind number content (blank_line l (blank_line g inner)) (blank_line m rest) h = refl
ends_behind kind number content (blank_line l (leaf s inner)) (blank_line m rest) h = refl
ends_behind kind number content (blank_line l (container k b inner)) (blank_line m rest) h = refl
ends_behind kind number content (leaf s inner) (blank_line m rest) h = refl
ends_behind kind number content (container k b inner) (blank_line m rest) h = refl
ends_behind kind number content no_blocks (leaf t rest) h = refl
ends_behind kind number content (blank_line l no_blocks) (leaf t rest) h = refl
ends_behind kind number content (blank_line l (blank_line g inner)) (leaf t rest) h = refl
ends_behind kind number content (blank_line l (leaf s inner)) (leaf t rest) h = refl
ends_behind kind number content (blank_line l (container k b inner)) (leaf t rest) h = refl
ends_behind kind number content (leaf s inner) (leaf t rest) h = refl
ends_behind kind number content (container k b inner) (leaf t rest) h = refl
ends_behind kind number content no_blocks (container j i rest) h = refl
ends_behind kind number content (blank_line l no_blocks) (container j i rest) h = refl
ends_behind kind number content (blank_line l (blank_line g inner)) (container j i rest) h = refl
ends_behind kind number content (blank_line l (leaf s inner)) (container j i rest) h = refl
ends_behind kind number content (blank_line l (container k b inner)) (container j i rest) h = refl
ends_behind kind number content (leaf s inner) (container j i rest) h = refl
ends_behind kind number content (container k b inner) (container j i rest) h = refl

-- the level behind an item, but for its end
abbrev item_far : (n kind number content at : ℕ) → (body rest : Blocks) → Bool → Level
item_far n kind number content at body rest b = record {
  start = n;
  is_empty = false;
  is_blank = false;
  ends_blank = b;
  starts_blank = false;
  has_block = true;
  is_apart = has_apart (container (grammar.list_item kind number content) body rest);
  next = Some kind;
  number = number;
  is_loose = is_loose kind (container (grammar.list_item kind number content) body rest);
  list_start = at;
}

item_at_is : (n m kind number content at : ℕ) (body rest : Blocks)
    → item_at kind number (goes_on kind rest) (item_blank body) (is_loose kind (container (grammar.list_item kind number content) body rest)) at (level_of n m rest)
    ≡ item_far n kind number content at body rest (ends_blank (container (grammar.list_item kind number content) body rest))
item_at_is n m kind number content at body no_blocks = ap (item_far n kind number content at body no_blocks) (ends_is kind number content body)
item_at_is n m kind number content at body (blank_line g rest) = ap (item_far n kind number content at body (blank_line g rest)) (ends_behind kind number content body (blank_line g rest) tt)
item_at_is n m kind number content at body (leaf t rest) = ap (item_far n kind number content at body (leaf t rest)) (ends_behind kind number content body (leaf t rest) tt)
item_at_is n m kind number content at body (container k inner rest) = ap (item_far n kind number content at body (container k inner rest)) (ends_behind kind number content body (container k inner rest) tt)

-- a level whose list goes on or not, and is loose or not
abbrev loose_by : Bool → Bool → Bool → Blocks → Blocks → Bool
loose_by on blank loose body rest = (has_apart body || (on && (blank || starts_gap rest))) || (on && loose)

-- an item's level, by facts about the level behind it
item_is : (n m b c kind number content at : ℕ) (body rest : Blocks) (on : Bool) → on ≡ goes_on kind rest
    → (at' : Bool → ℕ) → at' on ≡ at
    → item_at kind number on (is_open_blank (level_of b c body)) (loose_by on (is_open_blank (level_of b c body)) (next_loose rest) body rest) (at' on) (level_of n m rest)
    ≡ item_far n kind number content at body rest (ends_blank (container (grammar.list_item kind number content) body rest))
item_is n m b c kind number content at body rest on e at' f =
    ap (λ (i : ℕ). item_at kind number on (is_open_blank (level_of b c body)) (loose_by on (is_open_blank (level_of b c body)) (next_loose rest) body rest) i (level_of n m rest)) f
    ∙ ap (λ (y : Bool). item_at kind number y (is_open_blank (level_of b c body)) (loose_by y (is_open_blank (level_of b c body)) (next_loose rest) body rest) at (level_of n m rest)) e
    ∙ ap (λ (y : Bool). item_at kind number (goes_on kind rest) y (loose_by (goes_on kind rest) y (next_loose rest) body rest) at (level_of n m rest)) (open_is b c body)
    ∙ ap (λ (y : Bool). item_at kind number (goes_on kind rest) (item_blank body) y at (level_of n m rest)) (loose_is kind number content body rest) ∙ item_at_is n m kind number content at body rest

-- ---- the list that comes next is the document's first

abbrev pub Shape : Option ℕ → ℕ → Bool → Document → Type 0
Shape None number loose d = Unit {0}
Shape (Some kind) number loose d = (items : Document) × (rest : Document) × (d ≡ document.list kind number loose items rest)

item_shape : (kind number : ℕ) (loose : Bool) (body : Document) (more : Bool) (d : Document) → Shape (Some kind) number loose (item_before kind number loose body more d)
item_shape kind number loose body true document.nothing = (document.item body document.nothing, document.nothing, refl)
item_shape kind number loose body true (document.paragraph text rest) = (document.item body document.nothing, document.paragraph text rest, refl)
item_shape kind number loose body true (document.heading level text rest) = (document.item body document.nothing, document.heading level text rest, refl)
item_shape kind number loose body true (document.thematic_break rest) = (document.item body document.nothing, document.thematic_break rest, refl)
item_shape kind number loose body true (document.code info text rest) = (document.item body document.nothing, document.code info text rest, refl)
item_shape kind number loose body true (document.html text rest) = (document.item body document.nothing, document.html text rest, refl)
item_shape kind number loose body true (document.quote inner rest) = (document.item body document.nothing, document.quote inner rest, refl)
item_shape kind number loose body true (document.list k n l items rest) = (document.item body items, rest, refl)
item_shape kind number loose body true (document.item inner rest) = (document.item body document.nothing, document.item inner rest, refl)
item_shape kind number loose body false d = (document.item body document.nothing, d, refl)

pub shape_of : (bs : Blocks) → Shape (next_kind bs) (next_number bs) (next_loose bs) (document_of bs)
shape_of no_blocks = tt
shape_of (blank_line l rest) = shape_of rest
shape_of (leaf s rest) = tt
shape_of (container grammar.block_quote body rest) = tt
shape_of (container (grammar.list_item kind number content) body rest) = item_shape kind number (is_loose kind (container (grammar.list_item kind number content) body rest)) (document_of body) (goes_on kind rest) (document_of rest)

inside_len : (a b : List Node) → length (a ++ b) - length a ≡ length b
inside_len a b = omega (arith, length-append a b)

-- the first list is whole, and its node stands behind its items
whole_list : (N : List Node) (next : Option ℕ) (number : ℕ) (loose : Bool) (d : Document) → Shape next number loose d
    → (N ++ open_back next d) ++ elim next as (λ x. List Node) [ None ↦ [] | Some kind ↦ node.List kind number loose (length (N ++ open_back next d) - list_at next (length N) d) ∷ [] ] ≡ N ++ back d
whole_list N None number loose d h = append-nil (N ++ back d)
whole_list N (Some kind) number loose d h = go d h.0 h.1 h.2 where
  go : (d items rest : Document) → d ≡ document.list kind number loose items rest
      → (N ++ open_back (Some kind) d) ++ node.List kind number loose (length (N ++ open_back (Some kind) d) - (length N + length (behind_list d))) ∷ [] ≡ N ++ back d
  go d items rest e = subst (λ (x : Document). (N ++ open_back (Some kind) x) ++ node.List kind number loose (length (N ++ open_back (Some kind) x) - (length N + length (behind_list x))) ∷ [] ≡ N ++ back x) (sym e) (
      let len : length (N ++ (back rest ++ back items)) - (length N + length (back rest)) ≡ length (back items) = omega (arith, length-append N (back rest ++ back items), length-append (back rest) (back items)) in
      ap (λ (k : ℕ). (N ++ (back rest ++ back items)) ++ node.List kind number loose k ∷ []) len ∙ append_assoc N (back rest ++ back items) (node.List kind number loose (length (back items)) ∷ []))

listed_is : (N : List Node) (n : ℕ) (bs : Blocks) → listed (level_of n (length N) bs) (N ++ open_back (next_kind bs) (document_of bs)) ≡ N ++ back (document_of bs)
listed_is N n bs = whole_list N (next_kind bs) (next_number bs) (next_loose bs) (document_of bs) (shape_of bs)

abbrev making : List Node → List Level → Level → Made
making ns ls l = record { nodes = ns; outer = ls; level = l }

prose_is : (texts : List (List ℕ)) → prose_of (ended_lines texts) ≡ prose_text texts
prose_is texts = ap (λ (t : List ℕ). trim (after_definitions t)) (unended_is texts)

back_leaf : (s : leaves.Leaf) (d : Document) → back d ++ nodes_in (leaf_of s) ≡ back (leaf_before s d)
back_leaf (leaves.paragraph texts) d =
    ap (λ (t : List ℕ). back d ++ cond (is_empty t) [] (node.Paragraph t ∷ [])) (prose_is texts) ∙ go (is_empty (prose_text texts)) where
      go : (b : Bool) → back d ++ cond b [] (node.Paragraph (prose_text texts) ∷ []) ≡ back (cond b d (document.paragraph (prose_text texts) d))
      go true = append-nil (back d)
      go false = refl
back_leaf (leaves.setext_heading level texts) d = ap (λ (t : List ℕ). back d ++ node.Heading level t ∷ []) (prose_is texts)
back_leaf (leaves.atx_heading level line) d = refl
back_leaf leaves.thematic_break d = refl
back_leaf (leaves.indented_code texts pending) d = refl
back_leaf (leaves.fenced_code i mark len info texts is_closed) d = refl
back_leaf (leaves.html_block kind texts is_closed) d = refl

-- a container behind what follows it and what is in it
boxed : (N B R : List Node) (x : Node) → ((N ++ R) ++ B) ++ x ∷ [] ≡ N ++ ((R ++ B) ++ x ∷ [])
boxed N B R x = ap (λ (u : List Node). u ++ x ∷ []) (append_assoc N R B) ∙ append_assoc N (R ++ B) (x ∷ [])

-- the nodes of a level so far
abbrev pub so_far : List Node → Blocks → List Node
so_far N bs = N ++ open_back (next_kind bs) (document_of bs)

abbrev AllMade : Blocks → Type 0
AllMade bs = (N : List Node) (O : List Level) (n : ℕ) → all_made (tokens bs) (making N O (fresh n)) ≡ making (so_far N bs) O (level_of n (length N) bs)

-- a container whose end has been passed, up to its start
box_is : (k : Container) (body : Blocks) (M : List Node) (O : List Level) (x : Level) → AllMade body
    → token_made (Opens k) (all_made (tokens body) (making M (x ∷ O) (fresh (length M))))
    ≡ making ((M ++ back (document_of body)) ++ container_node k (length (back (document_of body))) ∷ []) O (container_level k (level_of (length M) (length M) body) x)
box_is k body M O x q =
    ap (token_made (Opens k)) (q M (x ∷ O) (length M))
    ∙ ap (λ (u : List Node). making (u ++ container_node k (length u - length M) ∷ []) O (container_level k (level_of (length M) (length M) body) x)) (listed_is M (length M) body)
    ∙ ap (λ (i : ℕ). making ((M ++ back (document_of body)) ++ container_node k i ∷ []) O (container_level k (level_of (length M) (length M) body) x)) (inside_len M (back (document_of body)))

-- before the end of a container that goes with no list
apart_is : (N : List Node) (O : List Level) (n : ℕ) (rest : Blocks)
    → box_ended (making (so_far N rest) O (level_of n (length N) rest)) false ≡ making (N ++ back (document_of rest)) (unlisted (level_of n (length N) rest) ∷ O) (fresh (length (N ++ back (document_of rest))))
apart_is N O n rest = ap (λ (u : List Node). making u (unlisted (level_of n (length N) rest) ∷ O) (fresh (length u))) (listed_is N n rest)

-- an item in front of the list that comes next
joins : (N : List Node) (kind number : ℕ) (loose : Bool) (body : Document) (o : Option ℕ) (k : ℕ) (l : Bool) (d : Document) → Shape o k l d → is_next kind o ≡ true
    → ((N ++ open_back o d) ++ back body) ++ node.Item (length (back body)) ∷ [] ≡ N ++ open_back (Some kind) (item_before kind number loose body true d)
joins N kind number loose body None k l d h e = absurd cc
joins N kind number loose body (Some j) k l d h e = go d h.0 h.1 h.2 where
  go : (d items rest : Document) → d ≡ document.list j k l items rest → ((N ++ open_back (Some j) d) ++ back body) ++ node.Item (length (back body)) ∷ [] ≡ N ++ open_back (Some kind) (item_before kind number loose body true d)
  go d items rest f = subst (λ (x : Document). ((N ++ open_back (Some j) x) ++ back body) ++ node.Item (length (back body)) ∷ [] ≡ N ++ open_back (Some kind) (item_before kind number loose body true x)) (sym f)
      (boxed N (back body) (back rest ++ back items) (node.Item (length (back body))) ∙ ap (λ (u : List Node). N ++ u) (boxed (back rest) (back body) (back items) (node.Item (length (back body)))))

joins_at : (m kind number : ℕ) (loose : Bool) (body : Document) (o : Option ℕ) (k : ℕ) (l : Bool) (d : Document) → Shape o k l d → is_next kind o ≡ true → list_at o m d ≡ list_at (Some kind) m (item_before kind number loose body true d)
joins_at m kind number loose body None k l d h e = absurd cc
joins_at m kind number loose body (Some j) k l d h e = go d h.0 h.1 h.2 where
  go : (d items rest : Document) → d ≡ document.list j k l items rest → list_at (Some j) m d ≡ list_at (Some kind) m (item_before kind number loose body true d)
  go d items rest f = subst (λ (x : Document). list_at (Some j) m x ≡ list_at (Some kind) m (item_before kind number loose body true x)) (sym f) refl

-- the list goes on with the item
going : (N : List Node) (O : List Level) (n kind number content : ℕ) (body rest : Blocks) → AllMade body → is_next kind (next_kind rest) ≡ true
    → token_made (Opens (Item content kind number)) (all_made (tokens body) (making (so_far N rest) (level_of n (length N) rest ∷ O) (fresh (length (so_far N rest)))))
    ≡ making (so_far N (container (grammar.list_item kind number content) body rest)) O (level_of n (length N) (container (grammar.list_item kind number content) body rest))
going N O n kind number content body rest q on =
    let M = so_far N rest in
    let d = document_of rest in
    let b = document_of body in
    let loose = is_loose kind (container (grammar.list_item kind number content) body rest) in
    let more : true ≡ goes_on kind rest = sym on ∙ next_is kind rest in
    let level = item_level kind number (level_of (length M) (length M) body) (level_of n (length N) rest) in
    let at = list_at (Some kind) (length N) (item_before kind number loose b (goes_on kind rest) d) in
    let start : cond (is_next kind (next_kind rest)) (list_at (next_kind rest) (length N) d) (length M) ≡ at =
    ap (λ (x : Bool). cond x (list_at (next_kind rest) (length N) d) (length M)) on ∙ joins_at (length N) kind number loose b (next_kind rest) (next_number rest) (next_loose rest) d (shape_of rest) on
    ∙ ap (λ (x : Bool). list_at (Some kind) (length N) (item_before kind number loose b x d)) more in
    box_is (Item content kind number) body M O (level_of n (length N) rest) q
    ∙ ap (λ (u : List Node). making u O level) (joins N kind number loose b (next_kind rest) (next_number rest) (next_loose rest) d (shape_of rest) on ∙ ap (λ (x : Bool). N ++ open_back (Some kind) (item_before kind number loose b x d)) more)
    ∙ ap (λ (x : Level). making (N ++ open_back (Some kind) (item_before kind number loose b (goes_on kind rest) d)) O x)
    (item_is n (length N) (length M) (length M) kind number content at body rest (is_next kind (next_kind rest)) (next_is kind rest) (λ x. cond x (list_at (next_kind rest) (length N) d) (length M)) start)

-- or it does not
starting : (N : List Node) (O : List Level) (n kind number content : ℕ) (body rest : Blocks) → AllMade body → is_next kind (next_kind rest) ≡ false
    → token_made (Opens (Item content kind number)) (all_made (tokens body) (making (N ++ back (document_of rest)) (unlisted (level_of n (length N) rest) ∷ O) (fresh (length (N ++ back (document_of rest))))))
    ≡ making (so_far N (container (grammar.list_item kind number content) body rest)) O (level_of n (length N) (container (grammar.list_item kind number content) body rest))
starting N O n kind number content body rest q off =
    let d = document_of rest in
    let b = document_of body in
    let M = N ++ back d in
    let x = node.Item (length (back b)) in
    let loose = is_loose kind (container (grammar.list_item kind number content) body rest) in
    let less : false ≡ goes_on kind rest = sym off ∙ next_is kind rest in
    let level = item_level kind number (level_of (length M) (length M) body) (unlisted (level_of n (length N) rest)) in
    let at = list_at (Some kind) (length N) (item_before kind number loose b (goes_on kind rest) d) in
    let start : length M ≡ at = length-append N (back d) ∙ ap (λ (y : Bool). list_at (Some kind) (length N) (item_before kind number loose b y d)) less in
    box_is (Item content kind number) body M O (unlisted (level_of n (length N) rest)) q
    ∙ ap (λ (u : List Node). making u O level)
    (boxed N (back b) (back d) x ∙ ap (λ (u : List Node). N ++ u) (append_assoc (back d) (back b) (x ∷ [])) ∙ ap (λ (y : Bool). N ++ open_back (Some kind) (item_before kind number loose b y d)) less)
    ∙ ap (λ (y : Level). making (N ++ open_back (Some kind) (item_before kind number loose b (goes_on kind rest) d)) O y)
    (item_is n (length N) (length M) (length M) kind number content at body rest false less (λ y. cond y (list_at (next_kind rest) (length N) d) (length M)) start)

pub made_is : (bs : Blocks) (N : List Node) (O : List Level) (n : ℕ) → all_made (tokens bs) (making N O (fresh n)) ≡ making (so_far N bs) O (level_of n (length N) bs)
made_is no_blocks N O n = ap (λ (u : List Node). making u O (fresh n)) (sym (append-nil N))
made_is (blank_line l rest) N O n = ap (token_made Blank) (made_is rest N O n) ∙ ap (λ (x : Level). making (so_far N rest) O x) (blank_is n (length N) l rest)
made_is (leaf s rest) N O n =
    ap (token_made (Holds (leaf_of s))) (made_is rest N O n)
    ∙ ap (λ (u : List Node). making (u ++ nodes_in (leaf_of s)) O (leaf_level (reads_blank (leaf_of s)) (level_of n (length N) rest))) (listed_is N n rest)
    ∙ ap (λ (u : List Node). making u O (leaf_level (reads_blank (leaf_of s)) (level_of n (length N) rest))) (append_assoc N (back (document_of rest)) (nodes_in (leaf_of s)) ∙ ap (λ (u : List Node). N ++ u) (back_leaf s (document_of rest)))
    ∙ ap (λ (x : Level). making (N ++ back (leaf_before s (document_of rest))) O x) (ap (λ (b : Bool). leaf_level b (level_of n (length N) rest)) (reads_is s) ∙ leaf_is n (length N) s rest)
made_is (container grammar.block_quote body rest) N O n =
    let R = back (document_of rest) in
    let B = back (document_of body) in
    ap (token_made (Opens Quote)) (made-append (tokens body) (Closes Quote ∷ tokens rest) (making N O (fresh n)))
    ∙ ap (λ (m : Made). token_made (Opens Quote) (all_made (tokens body) (token_made (Closes Quote) m))) (made_is rest N O n)
    ∙ ap (λ (m : Made). token_made (Opens Quote) (all_made (tokens body) m)) (apart_is N O n rest)
    ∙ box_is Quote body (N ++ R) O (unlisted (level_of n (length N) rest)) (λ M P k. made_is body M P k)
    ∙ ap (λ (u : List Node). making u O (leaf_level false (unlisted (level_of n (length N) rest)))) (boxed N B R (node.Quote (length B)))
    ∙ ap (λ (x : Level). making (N ++ ((R ++ B) ++ node.Quote (length B) ∷ [])) O x) (quote_is n (length N) body rest)
made_is (container (grammar.list_item kind number content) body rest) N O n =
    ap (token_made (Opens (Item content kind number))) (made-append (tokens body) (Closes (Item content kind number) ∷ tokens rest) (making N O (fresh n)))
    ∙ ap (λ (m : Made). token_made (Opens (Item content kind number)) (all_made (tokens body) (token_made (Closes (Item content kind number)) m))) (made_is rest N O n)
    ∙ go (is_next kind (next_kind rest)) refl (λ M P k. made_is body M P k) where
      go : (b : Bool) → is_next kind (next_kind rest) ≡ b → AllMade body
          → token_made (Opens (Item content kind number)) (all_made (tokens body) (box_ended (making (so_far N rest) O (level_of n (length N) rest)) b))
          ≡ making (so_far N (container (grammar.list_item kind number content) body rest)) O (level_of n (length N) (container (grammar.list_item kind number content) body rest))
      go true e q = going N O n kind number content body rest q e
      go false e q = ap (λ (m : Made). token_made (Opens (Item content kind number)) (all_made (tokens body) m)) (apart_is N O n rest) ∙ starting N O n kind number content body rest q e

-- ---- in the order of the text

reverse-last : (xs : List Node) (x : Node) → reverse (xs ++ x ∷ []) ≡ x ∷ reverse xs
reverse-last xs x = reverse-append xs (x ∷ [])

reverse-two : (xs ys : List Node) → reverse (xs ++ ys) ≡ reverse ys ++ reverse xs
reverse-two xs ys = reverse-append xs ys

same_len : (d : Document) → reverse (back d) ≡ laid_out d → length (back d) ≡ length (laid_out d)
same_len d e = sym (length-reverse (back d)) ∙ ap (λ (u : List Node). length u) e

pub back_is : (d : Document) → reverse (back d) ≡ laid_out d
back_is document.nothing = refl
back_is (document.paragraph text rest) = reverse-last (back rest) (node.Paragraph text) ∙ ap (λ (u : List Node). node.Paragraph text ∷ u) (back_is rest)
back_is (document.heading level text rest) = reverse-last (back rest) (node.Heading level text) ∙ ap (λ (u : List Node). node.Heading level text ∷ u) (back_is rest)
back_is (document.thematic_break rest) = reverse-last (back rest) node.Break ∙ ap (λ (u : List Node). node.Break ∷ u) (back_is rest)
back_is (document.code info text rest) = reverse-last (back rest) (node.Code info text) ∙ ap (λ (u : List Node). node.Code info text ∷ u) (back_is rest)
back_is (document.html text rest) = reverse-last (back rest) (node.Html text) ∙ ap (λ (u : List Node). node.Html text ∷ u) (back_is rest)
back_is (document.quote body rest) =
    reverse-last (back rest ++ back body) (node.Quote (length (back body)))
    ∙ ap (λ (u : List Node). node.Quote (length (back body)) ∷ u) (reverse-two (back rest) (back body) ∙ ap (λ (u : List Node). u ++ reverse (back rest)) (back_is body) ∙ ap (λ (u : List Node). laid_out body ++ u) (back_is rest))
    ∙ ap (λ (k : ℕ). node.Quote k ∷ (laid_out body ++ laid_out rest)) (same_len body (back_is body))
back_is (document.list kind number loose body rest) =
    reverse-last (back rest ++ back body) (node.List kind number loose (length (back body)))
    ∙ ap (λ (u : List Node). node.List kind number loose (length (back body)) ∷ u) (reverse-two (back rest) (back body) ∙ ap (λ (u : List Node). u ++ reverse (back rest)) (back_is body) ∙ ap (λ (u : List Node). laid_out body ++ u) (back_is rest))
    ∙ ap (λ (k : ℕ). node.List kind number loose k ∷ (laid_out body ++ laid_out rest)) (same_len body (back_is body))
back_is (document.item body rest) =
    reverse-last (back rest ++ back body) (node.Item (length (back body)))
    ∙ ap (λ (u : List Node). node.Item (length (back body)) ∷ u) (reverse-two (back rest) (back body) ∙ ap (λ (u : List Node). u ++ reverse (back rest)) (back_is body) ∙ ap (λ (u : List Node). laid_out body ++ u) (back_is rest))
    ∙ ap (λ (k : ℕ). node.Item k ∷ (laid_out body ++ laid_out rest)) (same_len body (back_is body))

-- ---- definitions

links-append : (xs ys : List Token) → links_in (xs ++ ys) ≡ links_in xs ++ links_in ys
links-append [] ys = refl
links-append (x ∷ xs) ys = ap (λ (u : List Definition). token_links x ++ u) (links-append xs ys) ∙ sym (append_assoc (token_links x) (links_in xs) (links_in ys))

links_with_is : (s : leaves.Leaf) → links_with (leaf_of s) ≡ leaf_links s
links_with_is (leaves.paragraph texts) = ap (λ (t : List ℕ). definitions t) (unended_is texts)
links_with_is (leaves.setext_heading level texts) = ap (λ (t : List ℕ). definitions t) (unended_is texts)
links_with_is (leaves.atx_heading level line) = refl
links_with_is leaves.thematic_break = refl
links_with_is (leaves.indented_code texts pending) = refl
links_with_is (leaves.fenced_code i mark len info texts is_closed) = refl
links_with_is (leaves.html_block kind texts is_closed) = refl

pub links_is : (bs : Blocks) → links_in (tokens bs) ≡ links_of bs
links_is no_blocks = refl
links_is (blank_line l rest) = links_is rest
links_is (leaf s rest) = ap (λ (u : List Definition). u ++ links_in (tokens rest)) (links_with_is s) ∙ ap (λ (u : List Definition). leaf_links s ++ u) (links_is rest)
links_is (container k body rest) =
    links-append (tokens body) (Closes (container_of k) ∷ tokens rest) ∙ ap (λ (u : List Definition). u ++ links_in (tokens rest)) (links_is body) ∙ ap (λ (u : List Definition). links_of body ++ u) (links_is rest)

-- the last token, where tokens are taken from the end
pub last_made : (xs ys : List Token) (t : Token) (m n : Made) (whole : Made) → xs ≡ ys ++ t ∷ [] → n ≡ token_made t m → all_made xs m ≡ whole → all_made ys n ≡ whole
last_made xs ys t m n whole e f w = ap (all_made ys) f ∙ sym (ap (λ (us : List Token). all_made us m) e ∙ made-append ys (t ∷ []) m) ∙ w

-- all nodes, in order
pub nodes_are : (bs : Blocks) (ns : List Node) (ts : List Token) → ns ≡ made_nodes (all_made ts made_start) → ts ≡ tokens bs → ns ≡ laid_out (document_of bs)
nodes_are bs ns ts e f =
    e ∙ ap (λ (us : List Token). made_nodes (all_made us made_start)) f ∙ ap made_nodes (made_is bs [] [] 0) ∙ ap (λ (u : List Node). reverse u) (listed_is [] 0 bs) ∙ back_is (document_of bs)
