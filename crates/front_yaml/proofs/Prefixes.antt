-- The longest front of a list that passes a test, one element after another.
use Rattle.std.proofs.Common.{◌≡◌, suc, ◌+◌, ◌<◌, Bool, true, false, List, ◌∷◌, refl, arith}
use Rattle.std.specs.List.{prefix_len}

module _ {X : Type 0} (p : X → Bool) where
  pub prefix_more : (x : X) (xs : List X) → p x ≡ true → prefix_len p (x ∷ xs) ≡ suc (prefix_len p xs)
  prefix_more x xs e = rw e (let one : 1 + prefix_len p xs ≡ suc (prefix_len p xs) = omega arith in one)

  pub prefix_none : (x : X) (xs : List X) → p x ≡ false → prefix_len p (x ∷ xs) ≡ 0
  prefix_none x xs e = rw e refl

  pub prefix_some : (x : X) (xs : List X) → p x ≡ true → 0 < prefix_len p (x ∷ xs)
  prefix_some x xs e = omega (arith, prefix_more x xs e)
