-- The whole text.
use Rattle.std.proofs.Common.{IsUtf8, ◌≡◌, ◌∙◌, List, [], ap, arith, drop, length, refl, subst, sym, zero, suc, ℕ, ◌++◌, ◌+◌, ◌-◌, ◌∷◌, ◌≤◌}
use Rattle.std.proofs.lemmas.Str.{IsCharBoundary-start}
use Rattle.markdown_grammar.specs.Definitions.{Definition}
use Rattle.markdown_grammar.specs.Emphasis.{pairs}
use Rattle.markdown_grammar.specs.Inlines.{Inlines}
use Rattle.markdown_grammar.specs.Reading.{inlines}
use Rattle.cm_inlines.specs.Cells.{plain_tokens}
use Rattle.cm_inlines.specs.Machine.{pair_from}
use Rattle.cm_inlines.specs.Nodes.{IsLaidOut, cells, cells_at, tokens_in}
use Rattle.cm_inlines.specs.States.{GoesOn, IsPlaced, Reads, Sound, waiting}
use Rattle.cm_inlines.specs.TokenCode.{tree_of-tokens}
use Rattle.cm_inlines.specs.Tokens.{Token, tokens, tree_of}
use Rattle.cm_inlines.specs.declared.node.Node.{Node}
use Rattle.cm_inlines.specs.declared.node.Node.TheVariants as node
use Rattle.cm_inlines.proofs.CellLaws.{plain-append}
use Rattle.cm_inlines.proofs.SpanLaws.{end_at}
use Rattle.cm_inlines.proofs.Walk.{walk}

-- ---- the loop

pub starts : (defs : List Definition) (t : List ℕ) (ns : List Node) → IsUtf8 t → ns ≡ [] → Sound t 0 ns
starts defs t ns u e = record { slots = ap (waiting 0) e; placed = subst (IsPlaced t 0) (sym e) tt; cut = IsCharBoundary-start t u }

pub goes_first : (defs : List Definition) (t : List ℕ) (ns : List Node) → ns ≡ [] → GoesOn defs t 0 [] 0 ns
goes_first defs t ns e = record { pieces = []; shown = ap (cells t) e; same = refl }

pub goes_more : (defs : List Definition) (t : List ℕ) (at : ℕ) (old new : List Node) (n : ℕ) → Reads defs t at old new n → GoesOn defs t 0 [] at old → GoesOn defs t 0 [] (at + n) new
goes_more defs t at old new n r g =
    let next = r.goes_on g.pieces g.shown in
    record { pieces = next.pieces; shown = next.shown; same = g.same ∙ next.same }

pub sound_more : (defs : List Definition) (t : List ℕ) (at : ℕ) (old new : List Node) (n : ℕ) → Reads defs t at old new n → GoesOn defs t 0 [] at old → Sound t (at + n) new
sound_more defs t at old new n r g = r.sound g.pieces g.shown

-- ---- the end

drop_past : (t : List ℕ) (n : ℕ) → length t ≤ n → drop n t ≡ []
drop_past [] zero h = refl
drop_past [] (suc n) h = refl
drop_past (c ∷ cs) zero h = absurd (omega (arith, h))
drop_past (c ∷ cs) (suc n) h = drop_past cs n (omega (arith, h))

all_pieces : (defs : List Definition) (t : List ℕ) (at : ℕ) (ns : List Node) → length t ≤ at → (g : GoesOn defs t 0 [] at ns) → pairs g.pieces ≡ inlines defs t
unfolding inlines
all_pieces defs t at ns le g = sym (ap pairs (g.same ∙ end_at defs t at g.pieces (drop_past t at le)))

-- the tokens of nodes hang on no text
same_tokens : (t : List ℕ) (n : Node) → plain_tokens (cells_at t n) ≡ plain_tokens (cells_at [] n)
same_tokens t (node.Opening o) = refl
same_tokens t n = refl

tokens_are : (t : List ℕ) (ns : List Node) → plain_tokens (cells t ns) ≡ tokens_in ns
tokens_are t [] = refl
tokens_are t (n ∷ ns) =
    plain-append (cells_at t n) (cells t ns) ∙ ap (λ (ts : List Token). ts ++ plain_tokens (cells t ns)) (same_tokens t n) ∙ ap (λ (ts : List Token). plain_tokens (cells_at [] n) ++ ts) (tokens_are t ns)
    ∙ sym (plain-append (cells_at [] n) (cells [] ns))

ends_as : (defs : List Definition) (t : List ℕ) (at : ℕ) (old new : List Node) → length t ≤ at → Sound t at old → GoesOn defs t 0 [] at old → new ≡ pair_from 0 0 (length old - 0) old → tokens_in new ≡ tokens (inlines defs t)
ends_as defs t at old new le s g e =
    let w = walk (length old) t [] [] [] old [] g.pieces refl refl g.shown tt s.slots refl in
    let size : length old - 0 ≡ length old = omega arith in
    let place : 0 + (0 + 0) ≡ 0 = omega arith in
    let made : new ≡ w.nodes = e ∙ ap (λ (n : ℕ). pair_from 0 0 n old) size ∙ ap (λ (k : ℕ). pair_from 0 k (length old) old) (sym place) ∙ w.made in
    ap tokens_in made ∙ sym (tokens_are t w.nodes) ∙ w.shown ∙ ap tokens (all_pieces defs t at old le g)

-- whatever the brackets that are left have become
pub laid_out : (defs : List Definition) (t : List ℕ) (at : ℕ) (old new : List Node) → length t ≤ at → Sound t at old → GoesOn defs t 0 [] at old → tokens_in new ≡ tokens_in (pair_from 0 0 (length old - 0) old) → IsLaidOut new
laid_out defs t at old new le s g e =
    let is = e ∙ ends_as defs t at old (pair_from 0 0 (length old - 0) old) le s g refl in
    ap (λ (ts : List Token). tokens (tree_of ts)) is ∙ ap tokens (tree_of-tokens (inlines defs t)) ∙ sym is

pub read : (defs : List Definition) (t : List ℕ) (at : ℕ) (old new : List Node) (found : Inlines) → length t ≤ at → Sound t at old → GoesOn defs t 0 [] at old → tokens_in new ≡ tokens_in (pair_from 0 0 (length old - 0) old) → found ≡ tree_of (tokens_in new) → found ≡ inlines defs t
read defs t at old new found le s g e h = h ∙ ap tree_of (e ∙ ends_as defs t at old (pair_from 0 0 (length old - 0) old) le s g refl) ∙ tree_of-tokens (inlines defs t)
