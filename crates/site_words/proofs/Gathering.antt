-- A list of words behind references, gathered one after another.
use Rattle.std.proofs.Common.{◌≡◌, ◌∙◌, ℕ, ◌+◌, ◌≤◌, zero, suc, sym, ap, arith, List, [], ◌∷◌, ◌++◌, map, length, drop, Some, append_assoc, append-nil, drop_of_length-le}
use Rattle.std.specs.Prelude.{slice_get, unwrap_or}
use Rattle.std.specs.Borrow.{Bor}
use Rattle.std.proofs.lemmas.List.{map-append}
use Rattle.site_words.specs.Words.{command_order, words_order}
use Rattle.site_words.proofs.Parsing.{some≢none}

abbrev pub texts : List (Bor (List ℕ)) → List (List ℕ)
texts = map (λ word. word.now)

drop_at_word : (words : List (List ℕ)) (place : ℕ) (word : List ℕ) → slice_get words place ≡ Some word → drop place words ≡ word ∷ drop (suc place) words
drop_at_word [] place word e = absurd (some≢none word (sym e))
drop_at_word (w ∷ words) zero word e = ap (λ o. unwrap_or o word ∷ words) e
drop_at_word (w ∷ words) (suc place) word e = drop_at_word words place word e

pub gathered : (found : List (Bor (List ℕ))) (word : Bor (List ℕ)) (words : List (List ℕ)) (place : ℕ) → slice_get words place ≡ Some word.now
    → texts found ++ drop place words ≡ drop 1 words → texts (found ++ word ∷ []) ++ drop (place + 1) words ≡ drop 1 words
gathered found word words place at before =
    let next : place + 1 ≡ suc place = omega arith in
    ap (λ xs. xs ++ drop (place + 1) words) (map-append (λ w. w.now) found (word ∷ [])) ∙ append_assoc (texts found) (word.now ∷ []) (drop (place + 1) words)
    ∙ ap (λ n. texts found ++ word.now ∷ drop n words) next ∙ ap (λ xs. texts found ++ xs) (sym (drop_at_word words place word.now at)) ∙ before

pub all_gathered : (found : List (Bor (List ℕ))) (words : List (List ℕ)) (place : ℕ) → length words ≤ place → texts found ++ drop place words ≡ drop 1 words → texts found ≡ drop 1 words
all_gathered found words place past before = sym (append-nil (texts found)) ∙ ap (λ xs. texts found ++ xs) (sym (drop_of_length-le words past)) ∙ before

pub first_is_command : (words : List (List ℕ)) (name : List ℕ) → slice_get words 0 ≡ Some name → command_order name (drop 1 words) ≡ words_order words
first_is_command [] name e = absurd (some≢none name (sym e))
first_is_command (w ∷ words) name e = ap (λ o. command_order (unwrap_or o name) words) (sym e)
