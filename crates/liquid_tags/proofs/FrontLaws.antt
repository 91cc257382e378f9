-- What `split_once` finds is what stands before the first place of the mark.
use Rattle.std.proofs.Common.{◌≡◌, ◌≢◌, ◌∙◌, ℕ, zero, suc, ◌+◌, ◌<◌, ◌≤◌, Bool, true, false, cond, List, [], ◌∷◌, ◌++◌, length, take, drop, Option, Some, None, refl, sym, ap, subst, arith}
use Rattle.std.specs.Option.{option_map}
use Rattle.std.specs.Str.Pattern.{FindsText, LacksTextAt, SplitsAroundMatch}
use Rattle.std.proofs.lemmas.Bool.Decides.{Decides-eqb}
use Rattle.std.proofs.lemmas.Slice.Eq.{starts_is}
use Rattle.text_filters.proofs.PartLaws.{cut_whole, cut_lacks}
use Rattle.liquid_grammar.specs.Pieces.{begins}
use Rattle.liquid_tags.specs.Fronts.{before}

begins_front : (mark back : List ℕ) → begins mark (mark ++ back) ≡ true
begins_front mark back = (starts_is Decides-eqb (mark ++ back) mark (begins mark (mark ++ back)) refl).1 back refl

begins_lacks : (mark t : List ℕ) → ((rest : List ℕ) → t ≢ mark ++ rest) → begins mark t ≡ false
begins_lacks mark t none = go (begins mark t) refl
  where
    go : (b : Bool) → begins mark t ≡ b → b ≡ false
    go true e = absurd (none (drop (length mark) t) ((starts_is Decides-eqb t mark (begins mark t) refl).0 e))
    go false e = refl

abbrev further : List ℕ → ℕ → List ℕ → Bool → Option (List ℕ)
further mark c cs b = cond b (Some []) (option_map (λ t. c ∷ t) (before mark cs))

none_there : (mark : List ℕ) → begins mark [] ≡ false → before mark [] ≡ None
none_there mark e = ap (λ b. cond b (Some []) None) e

some_there : (mark t : List ℕ) → begins mark t ≡ true → before mark t ≡ Some []
some_there mark [] e = ap (λ b. cond b (Some []) None) e
some_there mark (c ∷ cs) e = ap (further mark c cs) e

none_yet : (mark : List ℕ) (c : ℕ) (cs : List ℕ) → begins mark (c ∷ cs) ≡ false → before mark (c ∷ cs) ≡ option_map (λ t. c ∷ t) (before mark cs)
none_yet mark c cs e = ap (further mark c cs) e

pub before_none : (mark t : List ℕ) → ((i : ℕ) → i ≤ length t → LacksTextAt mark t i) → before mark t ≡ None
before_none mark [] none = none_there mark (begins_lacks mark [] (none 0 (omega arith)))
before_none mark (c ∷ cs) none =
    none_yet mark c cs (begins_lacks mark (c ∷ cs) (none 0 (omega arith)))
    ∙ ap (option_map (λ t. c ∷ t)) (before_none mark cs (λ i le. none (suc i) (omega arith)))

before_found : (mark front back : List ℕ) → ((i : ℕ) → i < length front → LacksTextAt mark (front ++ (mark ++ back)) i) → before mark (front ++ (mark ++ back)) ≡ Some front
before_found mark [] back none = some_there mark (mark ++ back) (begins_front mark back)
before_found mark (c ∷ front) back none =
    none_yet mark c (front ++ (mark ++ back)) (begins_lacks mark (c ∷ (front ++ (mark ++ back))) (none 0 (omega arith)))
    ∙ ap (option_map (λ t. c ∷ t)) (before_found mark front back (λ i lt. none (suc i) (omega arith)))

pub before_some : (mark whole front back : List ℕ) → SplitsAroundMatch (FindsText mark) whole front back → before mark whole ≡ Some front
before_some mark whole front back h = ap (before mark) (cut_whole mark whole front back h) ∙ before_found mark front back (cut_lacks mark whole front back h)
