-- Where a text may be cut.
use Rattle.std.proofs.Common.{subst, ◌-◌, ◌≡◌, ◌<◌, ◌+◌, ℕ, List, length, drop, get_or, IsUtf8, arith}
use Rattle.std.specs.Str.{IsCharBoundary}
use Rattle.std.proofs.lemmas.Str.{IsCharBoundary-before_ascii, IsCharBoundary-from_drop, IsCharBoundary-after_ascii, IsCharBoundary-from_rest}
use Rattle.site_text.proofs.Runs.{boundary_byte}
use Rattle.cm_links.specs.Cuts.{HasByte, Encloses, IsLabelled}

pub boundary_start : (text : List ℕ) → IsUtf8 text → IsCharBoundary text 0
boundary_start text u = IsCharBoundary-from_drop text 0 (omega arith) u

-- a mark of one byte, n bytes, and an ASCII byte after them
pub encloses : (text : List ℕ) (n c : ℕ) → IsUtf8 (drop 1 text) → IsCharBoundary text 1 → HasByte c (drop 1 text) n → c < 128 → Encloses text n
encloses text n c u start h small =
    let ascii : get_or (drop 1 text) n 0 < 128 = omega (arith, h.byte, small) in
    let e : 1 + (n + 1) ≡ n + 2 = omega arith in
    record {
      start = start;
      inside = IsCharBoundary-before_ascii (drop 1 text) n h.within ascii;
      end = subst (IsCharBoundary text) e (IsCharBoundary-from_rest text 1 (n + 1) start.0 (IsCharBoundary-after_ascii (drop 1 text) n u h.within ascii));
    }

pub labelled : (text : List ℕ) (n : ℕ) → IsUtf8 (drop 1 text) → IsCharBoundary text 1 → HasByte 93 (drop 1 text) n → IsLabelled text (n + 2)
labelled text n u start h =
    let round = encloses text n 93 u start h (omega arith) in
    let e : n ≡ n + 2 - 2 = omega arith in
    record { some = omega arith; start = start; inside = subst (IsCharBoundary (drop 1 text)) e round.inside; end = round.end }

-- the byte at the front is of ASCII
pub boundary_mark : (text bytes : List ℕ) (c : ℕ) → IsUtf8 bytes → bytes ≡ text → (length bytes ≡ 0 → ⊥) → get_or bytes 0 0 ≡ c → c < 128 → IsCharBoundary text 1
boundary_mark text bytes c u same some e small =
    let P : List ℕ → Type 0 = λ t. IsCharBoundary t 1 in
    subst P same (boundary_byte bytes 0 c u (omega (arith, some)) e small)
