-- Words in lines of HTML.
use Rattle.std.proofs.Common.{Bool, List, None, Option, Some, [], ap, arith, drop, false, get_or, length, nat_lt, refl, replicate, suc, sym, true, zero, ℕ, ◌++◌, ◌+◌, ◌<◌, ◌||◌, ◌∙◌, ◌∷◌, ◌≡◌, ◌≤◌, codes}
use Rattle.std.proofs.lemmas.List.{drop_more}
use Rattle.site_text.specs.Bytes.{lowered}
use Rattle.site_text.specs.Fronts.{begins_with}
use Rattle.markdown_grammar.specs.Columns.{tab_width}
use Rattle.markdown_grammar.specs.Fronts.{has}
use Rattle.markdown_grammar.specs.HtmlStarts.{ends_html}
use Rattle.markdown_grammar.specs.declared.html_kind.HtmlKind.{HtmlKind}
use Rattle.markdown_grammar.specs.declared.html_kind.HtmlKind.TheVariants.{Cdata, Comment, Declaration, Instruction, Listed, Lone, Verbatim}
use Rattle.markdown_grammar.specs.Readers.{plus, to}
use Rattle.cm_containers.specs.Spots.{IsSpot, text_at}
use Rattle.cm_containers.specs.declared.spots.Spot.{Spot}
use Rattle.cm_containers.proofs.Texts.{text_part, text_whole}
use Rattle.cm_blocks.specs.HtmlEnds.{seen, seen_byte}

seen-cons : (f : Bool) (c : ℕ) (cs : List ℕ) → seen f (c ∷ cs) ≡ seen_byte f c ∷ seen f cs
seen-cons true c cs = refl
seen-cons false c cs = refl

seen-nil : (f : Bool) → seen f [] ≡ []
seen-nil true = refl
seen-nil false = refl

has_plus : (o : Option ℕ) → has (plus 1 o) ≡ has o
has_plus (Some n) = refl
has_plus None = refl

abbrev to_cases : List ℕ → List ℕ → Bool → Bool
to_cases w t b = has (elim b as (λ x. Option ℕ) [ true ↦ Some (length w) | false ↦ plus 1 (to w t) ])

to_front : (f : Bool) (word text : List ℕ) (i : ℕ) → i < length text → (b : Bool) → b ≡ begins_with word (seen f (drop i text))
    → has (to word (seen f (drop i text))) ≡ to_cases word (seen f (drop (i + 1) text)) b
to_front f word text i lt b e =
    let at = ap (λ (t : List ℕ). seen f t) (drop_more text i 0 lt) ∙ seen-cons f (get_or text i 0) (drop (i + 1) text) in
    ap (λ (t : List ℕ). has (to word t)) at ∙ ap (to_cases word (seen f (drop (i + 1) text))) (sym (e ∙ ap (λ (t : List ℕ). begins_with word t) at))

pub not_here : (f : Bool) (word text : List ℕ) (i : ℕ) (whole b : Bool) → i < length text → b ≡ begins_with word (seen f (drop i text)) → b ≡ false
    → has (to word (seen f (drop i text))) ≡ whole → has (to word (seen f (drop (i + 1) text))) ≡ whole
not_here f word text i whole b lt e no' w =
    sym (to_front f word text i lt b e ∙ ap (to_cases word (seen f (drop (i + 1) text))) no' ∙ has_plus (to word (seen f (drop (i + 1) text)))) ∙ w

pub here : (f : Bool) (word text : List ℕ) (i : ℕ) (whole b : Bool) → i < length text → b ≡ begins_with word (seen f (drop i text)) → b ≡ true
    → has (to word (seen f (drop i text))) ≡ whole → true ≡ whole
here f word text i whole b lt e yes' w = sym (to_front f word text i lt b e ∙ ap (to_cases word (seen f (drop (i + 1) text))) yes') ∙ w

-- ---- white space in front ends nothing

one_of_four : {a b c d e f g h : Bool} → a ≡ e → b ≡ f → c ≡ g → d ≡ h → (a || (b || (c || d))) ≡ (e || (f || (g || h)))
one_of_four p q r s = cc

ends_space : (kind : HtmlKind) (t : List ℕ) → ends_html kind (32 ∷ t) ≡ ends_html kind t
ends_space Verbatim t = one_of_four (has_plus (to (codes "</script>") (lowered t))) (has_plus (to (codes "</pre>") (lowered t))) (has_plus (to (codes "</style>") (lowered t))) (has_plus (to (codes "</textarea>") (lowered t)))
ends_space Comment t = has_plus (to (codes "-->") t)
ends_space Instruction t = has_plus (to (codes "?>") t)
ends_space Declaration t = has_plus (to (codes ">") t)
ends_space Cdata t = has_plus (to (codes "]]>") t)
ends_space Listed t = refl
ends_space Lone t = refl

ends_tab : (kind : HtmlKind) (t : List ℕ) → ends_html kind (9 ∷ t) ≡ ends_html kind t
ends_tab Verbatim t = one_of_four (has_plus (to (codes "</script>") (lowered t))) (has_plus (to (codes "</pre>") (lowered t))) (has_plus (to (codes "</style>") (lowered t))) (has_plus (to (codes "</textarea>") (lowered t)))
ends_tab Comment t = has_plus (to (codes "-->") t)
ends_tab Instruction t = has_plus (to (codes "?>") t)
ends_tab Declaration t = has_plus (to (codes ">") t)
ends_tab Cdata t = has_plus (to (codes "]]>") t)
ends_tab Listed t = refl
ends_tab Lone t = refl

ends_spaces : (kind : HtmlKind) (n : ℕ) (t : List ℕ) → ends_html kind (replicate n 32 ++ t) ≡ ends_html kind t
ends_spaces kind zero t = refl
ends_spaces kind (suc n) t = ends_space kind (replicate n 32 ++ t) ∙ ends_spaces kind n t

-- a line ends HTML by its bytes from a place on
pub ends_from : (kind : HtmlKind) (line : List ℕ) (s : Spot) → IsSpot line s → ends_html kind (drop s.at line) ≡ ends_html kind (text_at line s)
ends_from kind line s h = go (nat_lt s.start s.column) refl where
  lt_true : (a b : ℕ) → nat_lt a b ≡ true → a < b
  lt_true a b e = grind (arith, e)

  lt_false : (a b : ℕ) → nat_lt a b ≡ false → b ≤ a
  lt_false a b e = grind (arith, e)

  go : (b : Bool) → nat_lt s.start s.column ≡ b → ends_html kind (drop s.at line) ≡ ends_html kind (text_at line s)
  go true e =
      let part = lt_true s.start s.column e in
      let tab = h.in_tab part in
      ap (λ (t : List ℕ). ends_html kind t) (drop_more line s.at 0 tab.0 ∙ ap (λ (c : ℕ). c ∷ drop (s.at + 1) line) tab.1) ∙ ends_tab kind (drop (s.at + 1) line)
      ∙ sym (ends_spaces kind (tab_width s.column) (drop (s.at + 1) line)) ∙ ap (λ (t : List ℕ). ends_html kind t) (sym (text_part s.start s.at s.column line part))
  go false e = ap (λ (t : List ℕ). ends_html kind t) (sym (text_whole s.start s.at s.column line (lt_false s.start s.column e)))
