-- A list of one byte, repeated.
use Rattle.std.proofs.Common.{◌≡◌, ℕ, zero, suc, ◌+◌, List, [], ◌∷◌, ◌++◌, refl, ap, append_assoc, arith}
use Rattle.front_yaml.specs.Bytes.{repeated}

ends : (n c : ℕ) → repeated n c ++ c ∷ [] ≡ c ∷ repeated n c
ends zero c = refl
ends (suc n) c = ap (λ xs. c ∷ xs) (ends n c)

-- once more
pub repeated_more : (xs : List ℕ) (n c : ℕ) → (xs ++ repeated n c) ++ c ∷ [] ≡ xs ++ repeated (n + 1) c
repeated_more xs n c =
    let one : n + 1 ≡ suc n = omega arith in
    rw (append_assoc, one) (ap (λ ys. xs ++ ys) (ends n c))
