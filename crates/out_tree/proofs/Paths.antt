-- Facts on tests, and on lists of paths.
use Rattle.std.proofs.Common.{◌≡◌, ℕ, Bool, true, false, cond, not, List, [], ◌∷◌, ◌++◌, refl, ◌∙◌, ap}
use Rattle.std.specs.Prelude.{◌&&◌, ◌||◌, filter, T}
use Rattle.std.specs.declared.cmp.Ordering.TheVariants.{Less, Equal, Greater}
use Rattle.std.specs.declared.cmp.Ordering.{Ordering}
use Rattle.std.specs.Ordering.{is_eq, is_lt}
use Rattle.std.specs.Cmp.{IsTotalOrder, eq_by_cmp_equiv}
use Rattle.std.specs.Cmp.Lexicographic.{nat_list_cmp_total}
use Rattle.std.specs.FinMap.{slice_cmp-IsAntisymmetric, nat_cmp-IsAntisymmetric}
use Rattle.site_base.specs.Places.{path_cmp, same_path, is_listed}

pub path_order : IsTotalOrder path_cmp
path_order = nat_list_cmp_total

pub same_if_tied : (x y : List ℕ) → path_cmp x y ≡ Equal → x ≡ y
same_if_tied = slice_cmp-IsAntisymmetric nat_cmp-IsAntisymmetric

pub tied_if_eq : (r : Ordering) → is_eq r ≡ true → r ≡ Equal
tied_if_eq Less p = absurd (cc (p))
tied_if_eq Equal p = refl
tied_if_eq Greater p = absurd (cc (p))

pub less_if_lt : (r : Ordering) → is_lt r ≡ true → r ≡ Less
less_if_lt Less p = refl
less_if_lt Equal p = absurd (cc (p))
less_if_lt Greater p = absurd (cc (p))

pub not_eq_if_lt : (r : Ordering) → is_lt r ≡ true → is_eq r ≡ false
not_eq_if_lt Less p = refl
not_eq_if_lt Equal p = absurd (cc (p))
not_eq_if_lt Greater p = absurd (cc (p))

pub the_same : (x y : List ℕ) → same_path x y ≡ true → x ≡ y
the_same x y e = same_if_tied x y (tied_if_eq _ e)

pub itself : (x : List ℕ) → same_path x x ≡ true
itself x = (eq_by_cmp_equiv path_order).refl x

pub turned : (x y : List ℕ) → same_path x y ≡ same_path y x
turned x y = (eq_by_cmp_equiv path_order).symm x y

pub both : (a b : Bool) → a ≡ true → b ≡ true → (a && b) ≡ true
both true b p q = q
both false b p q = p

pub front : (a b : Bool) → (a && b) ≡ true → a ≡ true
front true b p = refl
front false b p = p

pub back : (a b : Bool) → (a && b) ≡ true → b ≡ true
back true b p = p
back false b p = absurd (cc (p))

pub neither : (a b : Bool) → a ≡ false → b ≡ false → (a || b) ≡ false
neither a b p q = ap (λ x. x || b) p ∙ q

pub left_no : (a b : Bool) → (a || b) ≡ false → a ≡ false
left_no true b p = absurd (cc (p))
left_no false b p = refl

pub right_no : (a b : Bool) → (a || b) ≡ false → b ≡ false
right_no true b p = absurd (cc (p))
right_no false b p = p

pub later_yes : (a b : Bool) → b ≡ true → (a || b) ≡ true
later_yes true b p = refl
later_yes false b p = p

pub is_true : (b : Bool) → T b → b ≡ true
is_true true h = refl
is_true false h = absurd h

pub not_true : (b : Bool) → not b ≡ true → b ≡ false
not_true true e = absurd (cc (e))
not_true false e = refl

pub not_false : (b : Bool) → not b ≡ false → b ≡ true
not_false true e = refl
not_false false e = absurd (cc (e))

pub never_both : (b : Bool) → b ≡ true → b ≡ false → ⊥
never_both b p q = cc (p, q)

pub flip : (a b : Bool) → (a ≡ true → b ≡ true) → not b ≡ true → a ≡ false
flip true b f n = absurd (cc (f refl, n))
flip false b f n = refl

-- an element of a list before others
pub not_in_both : (q : List ℕ) (us vs : List (List ℕ)) → is_listed q us ≡ false → is_listed q vs ≡ false → is_listed q (us ++ vs) ≡ false
not_in_both q [] vs i j = j
not_in_both q (u ∷ us) vs i j = neither _ _ (left_no _ _ i) (not_in_both q us vs (right_no _ _ i) j)

-- one more path to look for changes nothing at other paths
pub filter_apart : (p : List ℕ) (failed qs : List (List ℕ)) → is_listed p qs ≡ false → filter (λ q. is_listed q (p ∷ failed)) qs ≡ filter (λ q. is_listed q failed) qs
filter_apart p failed [] h = refl
filter_apart p failed (q ∷ qs) h =
    let apart : same_path q p ≡ false = turned q p ∙ left_no _ _ h in
    let rest : filter (λ x. is_listed x (p ∷ failed)) qs ≡ filter (λ x. is_listed x failed) qs = filter_apart p failed qs (right_no _ _ h) in
    λ i. cond (apart i || is_listed q failed) (q ∷ rest i) (rest i)
