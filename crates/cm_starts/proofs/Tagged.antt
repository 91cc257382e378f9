-- Tags by their names, and tags alone on a line.
use Rattle.std.proofs.Common.{◌≡◌, ◌∙◌, Bool, List, None, Option, Some, [], ap, arith, drop, false, length, refl, suc, sym, take, true, ℕ, ◌&&◌, ◌+◌, ◌==◌, ◌||◌, ◌∷◌, ◌≤◌}
use Rattle.std.proofs.lemmas.List.{length-drop}
use Rattle.site_text.specs.Bytes.{hyphen, is_alnum, is_space, lowered}
use Rattle.site_text.specs.Fronts.{run_len}
use Rattle.markdown_grammar.specs.Fronts.{has, is_empty}
use Rattle.markdown_grammar.specs.HtmlStarts.{alone, is_among, name_in}
use Rattle.markdown_grammar.specs.Readers.{Reader, at_end, plus, spaces, ◌or◌, ◌then◌}
use Rattle.markdown_grammar.specs.Tags.{closing_tag, open_tag}
use Rattle.cm_starts.specs.Runs.{behind_run}
use Rattle.cm_starts.proofs.Ends.{whole_run}

length_lowered : (t : List ℕ) → length (lowered t) ≡ length t
length_lowered [] = refl
length_lowered (c ∷ cs) = ap (λ (n : ℕ). suc n) (length_lowered cs)

-- a listed name, and what stands behind it
pub starts_is : (names : List (List ℕ)) (r : Reader) (t name rest : List ℕ) (b : Bool) → name ≡ take (run_len (λ c. is_alnum c || (c == hyphen)) t) t → is_among names (lowered name) ≡ true → rest ≡ drop (length name) t
    → b ≡ has (r rest) → b ≡ (is_among names (name_in t) && has (r (drop (length (name_in t)) t)))
starts_is names r t name rest b e h d f =
    f ∙ ap (λ (u : List ℕ). has (r u)) d ∙ ap (λ (k : ℕ). has (r (drop k t))) (sym (length_lowered name))
    ∙ sym (ap (λ (x : Bool). x && has (r (drop (length (lowered name)) t))) h)
    ∙ ap (λ (u : List ℕ). is_among names (lowered u) && has (r (drop (length (lowered u)) t))) e

has_plus : (n : ℕ) (o : Option ℕ) → has (plus n o) ≡ has o
has_plus n (Some k) = refl
has_plus n None = refl

ends_at : (t : List ℕ) → has (at_end t) ≡ is_empty t
ends_at [] = refl
ends_at (c ∷ cs) = refl

same_left : (n m l k : ℕ) → k ≡ n + l → (n + m == k) ≡ (m == l)
same_left n m l k e = go (m == l) refl where
  go : (b : Bool) → (m == l) ≡ b → (n + m == k) ≡ b
  go true f = let same : m ≡ l = grind (arith, f) in let all : n + m ≡ k = omega (arith, same, e) in grind (arith, all)
  go false f = let other : m ≡ l → ⊥ = grind (arith, f) in let all : n + m ≡ k → ⊥ = λ g. other (omega (arith, g, e)) in grind (arith, all)

abbrev then_case : (ℕ → Option ℕ) → Option ℕ → Option ℕ
then_case rest o = elim o as (λ x. Option ℕ) [ Some k ↦ plus k (rest k) | None ↦ None ]

pub alone_is : (t u : List ℕ) (n m : ℕ) → u ≡ drop n t → Some n ≡ (open_tag or closing_tag) t → m ≡ run_len is_space u → n ≤ length t → (n + m == length t) ≡ has (alone t)
alone_is t u n m d e f le =
    let v = drop n t in
    let run : m ≡ run_len is_space v = f ∙ ap (λ (x : List ℕ). run_len is_space x) d in
    same_left n m (length v) (length t) (omega (arith, length-drop n t, le))
    ∙ ap (λ (k : ℕ). k == length v) run ∙ whole_run is_space v ∙ sym (ends_at (behind_run is_space v))
    ∙ sym (has_plus (run_len is_space v) (at_end (drop (run_len is_space v) v)))
    ∙ sym (has_plus n ((spaces then at_end) v))
    ∙ ap (λ (o : Option ℕ). has (then_case (λ k. (spaces then at_end) (drop k t)) o)) e
