-- What a text starts with.
use Rattle.std.proofs.Common.{◌≡◌, ℕ, zero, suc, Bool, true, false, ◌&&◌, List, [], ◌∷◌, ◌++◌, length, take, drop, nat_eq, refl, ap, ◌∙◌, eq-eqb, ◌+◌, ◌≤◌, arith}
use Rattle.std.specs.List.{starts_with}
use Rattle.site_base.specs.Clash.{is_below}

-- its own front, and then a text with which what follows starts
pub starts_with-own : (n : ℕ) (xs q : List ℕ) → starts_with nat_eq xs (take n xs ++ q) ≡ starts_with nat_eq (drop n xs) q
starts_with-own zero xs q = refl
starts_with-own (suc n) [] q = refl
starts_with-own (suc n) (x ∷ xs) q = ap (λ b. b && starts_with nat_eq xs (take n xs ++ q)) (eq-eqb x x refl) ∙ starts_with-own n xs q

and_assoc : (a b c d : Bool) → d ≡ (b && c) → (a && d) ≡ ((a && b) && c)
and_assoc true b c d e = e
and_assoc false b c d e = refl

-- a folder, and then `/`
pub is_below-parts : (path folder : List ℕ) → is_below path folder ≡ (starts_with nat_eq path folder && is_below (drop (length folder) path) [])
is_below-parts [] [] = refl
is_below-parts [] (c ∷ folder) = refl
is_below-parts (b ∷ path) [] = refl
is_below-parts (b ∷ path) (c ∷ folder) = and_assoc (nat_eq c b) (starts_with nat_eq path folder) (is_below (drop (length folder) path) []) (is_below path folder) (is_below-parts path folder)

-- what lies below a folder has more bytes than the folder and `/`
pub longer_than_folder : (path folder : List ℕ) → is_below path folder ≡ true → length folder + 1 ≤ length path
longer_than_folder [] folder below = absurd (cc (below))
longer_than_folder (b ∷ path) [] below = omega arith
longer_than_folder (b ∷ path) (c ∷ folder) below = omega (arith, longer_than_folder path folder (second (nat_eq c b) (is_below path folder) below))
  where
    second : (a b : Bool) → (a && b) ≡ true → b ≡ true
    second true b is = is
    second false b is = absurd (cc (is))
