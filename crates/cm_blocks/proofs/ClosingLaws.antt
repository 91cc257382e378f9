-- Containers closed one after another, the innermost first.
use Rattle.std.proofs.Common.{List, [], ap, append_assoc, arith, drop, get_or, length, refl, suc, sym, take, zero, ℕ, ◌++◌, ◌-◌, ◌<◌, ◌∙◌, ◌∷◌, ◌≡◌, ◌≤◌}
use Rattle.std.proofs.lemmas.List.{append-nil}
use Rattle.cm_containers.specs.declared.kinds.Container.{Container}
use Rattle.cm_blocks.specs.declared.kinds.Token.{Token}
use Rattle.cm_blocks.specs.declared.kinds.Token.TheVariants.{Closes}
use Rattle.cm_containers.proofs.QuoteLaws.{inner_more, take_all}
use Rattle.cm_blocks.specs.Flat.{closes}

closes_last : (ks : List Container) (k : Container) → closes (ks ++ k ∷ []) ≡ Closes k ∷ closes ks
closes_last [] k = refl
closes_last (j ∷ ks) k = ap (λ (ts : List Token). ts ++ Closes j ∷ []) (closes_last ks k)

pub closes_one : (n i : ℕ) (ks : List Container) (d : Container) (ts us whole : List Token) → n < i → i ≤ length ks → us ≡ ts ++ Closes (get_or ks (i - 1) d) ∷ [] → ts ++ closes (drop n (take i ks)) ≡ whole
    → us ++ closes (drop n (take (i - 1) ks)) ≡ whole
closes_one n i ks d ts us whole lt le e w =
    let next : suc (i - 1) ≡ i = omega (arith, lt) in
    ap (λ (xs : List Token). xs ++ closes (drop n (take (i - 1) ks))) e ∙ append_assoc ts (Closes (get_or ks (i - 1) d) ∷ []) (closes (drop n (take (i - 1) ks)))
    ∙ ap (λ (xs : List Token). ts ++ xs) (sym (closes_last (drop n (take (i - 1) ks)) (get_or ks (i - 1) d)))
    ∙ ap (λ (xs : List Container). ts ++ closes xs) (sym (inner_more n (i - 1) ks d (omega (arith, lt)) (omega (arith, lt, le)))) ∙ ap (λ (j : ℕ). ts ++ closes (drop n (take j ks))) next ∙ w

pub closes_first : (n : ℕ) (ks : List Container) (ts : List Token) → ts ++ closes (drop n (take (length ks) ks)) ≡ ts ++ closes (drop n ks)
closes_first n ks ts = ap (λ (xs : List Container). ts ++ closes (drop n xs)) (take_all ks)

none_inner : (n i : ℕ) (ks : List Container) → i ≤ n → drop n (take i ks) ≡ []
none_inner zero zero ks le = refl
none_inner (suc n) zero ks le = refl
none_inner zero (suc i) ks le = absurd (omega (arith, le))
none_inner (suc n) (suc i) [] le = refl
none_inner (suc n) (suc i) (k ∷ ks) le = none_inner n i ks (omega (arith, le))

pub closes_all : (n i : ℕ) (ks : List Container) (ts whole : List Token) → i ≤ n → ts ++ closes (drop n (take i ks)) ≡ whole → ts ≡ whole
closes_all n i ks ts whole le w = sym (append-nil ts) ∙ ap (λ (xs : List Container). ts ++ closes xs) (sym (none_inner n i ks le)) ∙ w
