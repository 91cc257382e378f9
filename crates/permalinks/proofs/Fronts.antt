-- The fronts of texts: a first `/`, and the name of a placeholder.
use Rattle.std.proofs.Common.{◌≡◌, ◌≢◌, ℕ, suc, ◌+◌, ◌<◌, ◌≤◌, ◌==◌, Bool, true, false, List, [], ◌∷◌, length, drop, get_or, refl, ap, arith, add-one, drop-cons, drop_of_length-le}
use Rattle.std.proofs.lemmas.Bool.Decides.{nat_tests}
use Rattle.std.proofs.lemmas.Str.{IsCharBoundary-after_ascii, IsCharBoundary-start}
use Rattle.permalinks.specs.Dest.{relative}
use Rattle.permalinks.specs.Url.{is_name, name_len, IsCut}

-- a text without a `/` at its front
pub relative_same : (bs : List ℕ) → ((rest : List ℕ) → bs ≢ 47 ∷ rest) → bs ≡ relative bs
relative_same [] none = refl
relative_same (b ∷ url) none = on (b == 47) refl
  where
    on : (v : Bool) → (b == 47) ≡ v → b ∷ url ≡ relative (b ∷ url)
    on true e = let is : b ≡ 47 = grind (arith, nat_tests) in absurd (none url (ap (λ x. x ∷ url) is))
    on false e = rw e refl

-- a byte of the name, the byte behind it, and the end of the text
pub name_more : (bs : List ℕ) (i : ℕ) → i < length bs → is_name (get_or bs i 0) ≡ true → name_len (drop i bs) ≡ suc (name_len (drop (i + 1) bs))
name_more bs i lt e = let more : name_len (drop i bs) ≡ 1 + name_len (drop (i + 1) bs) = rw (add-one, drop-cons bs i 0, e) refl in omega (arith, more)

pub name_stops : (bs : List ℕ) (i : ℕ) → i < length bs → is_name (get_or bs i 0) ≡ false → name_len (drop i bs) ≡ 0
name_stops bs i lt e = rw (drop-cons bs i 0, e) refl

pub name_ends : (bs : List ℕ) (i : ℕ) → length bs ≤ i → name_len (drop i bs) ≡ 0
name_ends bs i le = ap name_len (drop_of_length-le bs le)

name_ascii : (b : ℕ) → is_name b ≡ true → b < 128
name_ascii b e = grind (arith, nat_tests)

pub cut_start : (bs : List ℕ) → IsCut bs 0
cut_start bs = (omega arith, λ u. IsCharBoundary-start bs u)

pub cut_more : (bs : List ℕ) (i : ℕ) → i < length bs → is_name (get_or bs i 0) ≡ true → IsCut bs (i + 1)
cut_more bs i lt e = (omega arith, λ u. IsCharBoundary-after_ascii bs i u lt (name_ascii (get_or bs i 0) e))
