-- Sentences that are made one element after another, and lists without an element at an end.
use Rattle.std.proofs.Common.{◌≡◌, ℕ, suc, ◌+◌, ◌-◌, ◌<◌, List, [], ◌∷◌, ◌++◌, length, take, drop, get_or, refl, sym, ap, ◌∙◌, arith}
use Rattle.std.proofs.lemmas.List.{at_drop_more}
use Rattle.site_base.specs.Plain.{item}
use Rattle.site_base.specs.Values.{value_text}
use Rattle.site_base.specs.View.{plain, items_of}
use Rattle.site_base.specs.declared.value.Value.{Value}
use Rattle.jekyll_filters.specs.Lists.{front_of, without_last, words_before, sentence_from}

pub next_element : (old connector : List ℕ) (n : ℕ) (vs : List Value) (i : ℕ) (v : Value) → i < length vs → v ≡ get_or vs i v
    → old ++ (words_before connector i n ++ (value_text (plain v) ++ sentence_from connector (i + 1) n (items_of (drop (i + 1) vs)))) ≡ old ++ sentence_from connector i n (items_of (drop i vs))
next_element old connector n vs i v lt e =
    ap (λ (w : Value). old ++ (words_before connector i n ++ (value_text (plain w) ++ sentence_from connector (i + 1) n (items_of (drop (i + 1) vs))))) e
    ∙ ap (λ (t : List ℕ). old ++ t) (sym (at_drop_more (λ xs. sentence_from connector i n (items_of xs)) vs i v lt))

front_items : (v : Value) (vs : List Value) → items_of (take (length vs) (v ∷ vs)) ≡ front_of (plain v) (items_of vs)
front_items v [] = refl
front_items v (w ∷ vs) = ap (item (plain v)) (front_items w vs)

pub last_dropped : (vs : List Value) → items_of (take (length vs - 1) vs) ≡ without_last (items_of vs)
last_dropped [] = refl
last_dropped (v ∷ vs) =
    let one : suc (length vs) - 1 ≡ length vs = omega arith in
    ap (λ n. items_of (take n (v ∷ vs))) one ∙ front_items v vs
