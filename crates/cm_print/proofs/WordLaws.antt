-- Words and the spaces between them print as one text.
use Rattle.std.proofs.Common.{append-nil, ◌⊎◌, inl, inr, Bor, Option, ◌≡◌, ◌∙◌, ap, sym, refl, ℕ, zero, suc, ◌<◌, ◌≤◌, Bool, true, false, cond, ◌==◌, List, [], ◌∷◌, ◌++◌, length, map, not, take, drop, arith}
use Rattle.std.proofs.lemmas.Grind.{flat_map-append}
use Rattle.std.proofs.lemmas.List.{length-drop, take-append-drop}
use Rattle.markdown_grammar.specs.Escaping.{escaped}
use Rattle.site_text.specs.Urls.{escaped_byte}
use Rattle.site_text.specs.Bytes.{is_special}
use Rattle.site_text.specs.Fronts.{run_len}
use Rattle.cm_inlines.specs.Cells.{plain_tokens, sealed}
use Rattle.cm_inlines.specs.Tokens.{Token, text_token}
use Rattle.cm_inlines.specs.Words.{front_len, word_tokens, words, words_by}
use Rattle.cm_inlines.proofs.CellLaws.{plain_sealed}
use Rattle.cm_inlines.specs.declared.node.Node.{Node}
use Rattle.cm_inlines.specs.declared.node.Node.TheVariants as node
use Rattle.cm_inlines.specs.declared.node.Target.{Target}
use Rattle.cm_print.specs.InlineNodes.{node_text, place_behind, place_behind_node}
use Rattle.cm_print.specs.InlineTokens.{Place, described, outside, printed}

text_first : (place : Place) (b : List ℕ) (ts : List Token) → printed place (text_token b ∷ ts) ≡ escaped b ++ printed place ts
text_first outside b ts = refl
text_first (described title images) b ts = refl

some_front : (c : ℕ) (cs : List ℕ) → 0 < front_len (c ∷ cs)
some_front c cs = go (c == 32) where
  go : (b : Bool) → 0 < cond b (elim b as (λ x. ℕ) [ true ↦ suc (run_len (λ d. d == 32) cs) | false ↦ 0 ]) (suc (run_len (λ d. not (is_special d)) cs))
  go true = omega arith
  go false = omega arith

words_by_text : (place : Place) (n : ℕ) (t : List ℕ) → length t ≤ n → printed place (map text_token (words_by n t)) ≡ escaped t
words_by_text place zero [] le = refl
words_by_text place zero (c ∷ cs) le = absurd (omega (arith, le))
words_by_text place (suc n) [] le = refl
words_by_text place (suc n) (c ∷ cs) le =
    let k = front_len (c ∷ cs) in
    let shorter : length (drop k (c ∷ cs)) ≤ n = omega (arith, length-drop k (c ∷ cs), some_front c cs, le) in
    text_first place (take k (c ∷ cs)) (map text_token (words_by n (drop k (c ∷ cs))))
    ∙ ap (λ t. escaped (take k (c ∷ cs)) ++ t) (words_by_text place n (drop k (c ∷ cs)) shorter)
    ∙ sym (flat_map-append escaped_byte (take k (c ∷ cs)) (drop k (c ∷ cs))) ∙ ap (λ (t : List ℕ). escaped t) (take-append-drop k (c ∷ cs))

-- all words of a text
pub words_text : (place : Place) (t : List ℕ) → printed place (plain_tokens (map sealed (word_tokens t))) ≡ escaped t
words_text place t = let all : length t ≤ length t = omega arith in ap (printed place) (plain_sealed (word_tokens t)) ∙ words_by_text place (length t) t all

text_stays : (place : Place) (ws : List (List ℕ)) → place_behind place (map text_token ws) ≡ place
text_stays place [] = refl
text_stays outside (w ∷ ws) = text_stays outside ws
text_stays (described title images) (w ∷ ws) = text_stays (described title images) ws

-- they neither begin nor end an image
pub words_stay : (place : Place) (t : List ℕ) → place_behind place (plain_tokens (map sealed (word_tokens t))) ≡ place
words_stay place t = ap (place_behind place) (plain_sealed (word_tokens t)) ∙ text_stays place (words t)

-- ---- nodes that are text

pub text_or_words : (place : Place) (n : Node) (s : Bor (List ℕ)) → (n ≡ node.Text s) ⊎ (n ≡ node.Words s) → escaped s.now ≡ node_text place n
text_or_words place n s (inl e) = sym (ap (node_text place) e ∙ text_first place s.now [] ∙ append-nil (escaped s.now))
text_or_words place n s (inr e) = sym (ap (node_text place) e ∙ words_text place s.now)

pub outside_stays : (n : Node) → ((t : Target) → n ≡ node.OpenImage t → ⊥) → outside ≡ place_behind_node outside n
outside_stays (node.OpenImage t) h = absurd (h t refl)
outside_stays (node.Words s) h = sym (words_stay outside s.now)
outside_stays n h = refl

pub described_stays : (title : Option (List ℕ)) (images : ℕ) (n : Node) → ((t : Target) → n ≡ node.OpenImage t → ⊥) → (n ≡ node.CloseImage → ⊥) → described title images ≡ place_behind_node (described title images) n
described_stays title images (node.OpenImage t) h k = absurd (h t refl)
described_stays title images node.CloseImage h k = absurd (k refl)
described_stays title images (node.Words s) h k = sym (words_stay (described title images) s.now)
described_stays title images n h k = refl
