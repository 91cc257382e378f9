-- Where a text may be cut.
use Rattle.std.specs.Prelude.{◌≡◌, ◌<◌, ◌≤◌, ◌+◌, ◌-◌, ℕ, List, length, drop, slice_index}
use Rattle.std.specs.Str.{IsCharBoundary}

-- a byte stands at a place
pub record HasByte (c : ℕ) (text : List ℕ) (n : ℕ) : Type 0 where
  pub within : n < length text
  pub byte : slice_index text n ≡ c

-- a text may be cut round n bytes that stand behind a mark of one byte, and behind the mark after them
pub record Encloses (text : List ℕ) (n : ℕ) : Type 0 where
  pub start : IsCharBoundary text 1
  pub inside : IsCharBoundary (drop 1 text) n
  pub end : IsCharBoundary text (n + 2)

-- a text may be cut round a label that takes n bytes with its brackets, and behind it
pub record IsLabelled (text : List ℕ) (n : ℕ) : Type 0 where
  pub some : 2 ≤ n
  pub start : IsCharBoundary text 1
  pub inside : IsCharBoundary (drop 1 text) (n - 2)
  pub end : IsCharBoundary text n

-- n bytes before a text, and more of the text itself, up to a place where it may be cut
pub record IsEnd (n : ℕ) (text : List ℕ) (end : ℕ) : Type 0 where
  pub behind : n ≤ end
  pub cut : IsCharBoundary text (end - n)

-- a text may be cut behind bytes at its front, which are not none
pub record IsFront (text : List ℕ) (end : ℕ) : Type 0 where
  pub some : 0 < end
  pub cut : IsCharBoundary text end
