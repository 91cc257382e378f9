-- Where lines end, a text may be cut.
use Rattle.std.proofs.Common.{◌≡◌, ℕ, ◌+◌, ◌<◌, ◌≤◌, true, List, length, drop, get_or, arith, subst}
use Rattle.std.specs.Str.{IsCharBoundary}
use Rattle.std.proofs.lemmas.Grind.{common_steps}
use Rattle.std.proofs.lemmas.Str.{IsCharBoundary-after_ascii, IsCharBoundary-end}
use Rattle.site_base.specs.Lines.{ends_line}
use Rattle.front_yaml.specs.Front.{IsCut}

-- a byte that ends a line is ASCII
ends_ascii : (c : ℕ) (cs : List ℕ) → ends_line c cs ≡ true → c < 128
ends_ascii c cs e = grind (arith, common_steps)

-- a text may be cut after a line's end
pub cut_after : (bs : List ℕ) (i : ℕ) → i < length bs → ends_line (get_or bs i 0) (drop (i + 1) bs) ≡ true → IsCut bs (i + 1)
cut_after bs i lt e = λ u. IsCharBoundary-after_ascii bs i u lt (ends_ascii (get_or bs i 0) (drop (i + 1) bs) e)

-- and at its own end
pub cut_end : (bs : List ℕ) (i : ℕ) → length bs ≤ i → i ≤ length bs → IsCut bs i
cut_end bs i le ge = let k : length bs ≡ i = omega arith in λ _. subst (IsCharBoundary bs) k (IsCharBoundary-end bs)
