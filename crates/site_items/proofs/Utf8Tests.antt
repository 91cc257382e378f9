-- The test for UTF-8, and the fact.
use Rattle.std.proofs.Common.{◌≡◌, ℕ, Bool, true, false, List, refl}
use Rattle.std.specs.Str.{IsUtf8, is_utf8}
use Rattle.std.proofs.lemmas.Str.{IsUtf8-from_is_utf8}

pub not_utf8 : (s : List ℕ) → (IsUtf8 s → ⊥) → is_utf8 s ≡ false
not_utf8 s none = at (is_utf8 s) (IsUtf8-from_is_utf8 s)
  where
    at : (b : Bool) → (b ≡ true → IsUtf8 s) → b ≡ false
    at true holds = absurd (none (holds refl))
    at false holds = refl
