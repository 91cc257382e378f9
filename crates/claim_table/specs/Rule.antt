-- The rule of a claim table, which holds between any two steps of any threads: how the words go with the lists of all seats.
use Rattle.std.specs.Prelude.{◌≡◌, ℕ, ◌+◌, ◌≤◌, List, [], ◌∷◌, length, slice_index}
use Rattle.claim_table.specs.declared.rule.SeatLists.{SeatLists}
use Rattle.claim_table.specs.Counts.{one_if_same, times}

-- a number of each seat, added up
abbrev pub total : (SeatLists → ℕ) → List SeatLists → ℕ
total number [] = 0
total number (seat ∷ seats) = number seat + total number seats

-- An item's word is 0, 1 or 2. Where it is 1, the item stands in one seat's `mine`, once, and where it is not, in none; so with 2 and `done`
pub record Stands (seats : List SeatLists) (item word : ℕ) : Type 0 where
  pub known : word ≤ 2
  pub mine : total (λ seat. times item seat.mine) seats ≡ one_if_same word 1
  pub done : total (λ seat. times item seat.done) seats ≡ one_if_same word 2

-- the rule of a table of so many words
pub record Agrees (count : ℕ) (words : List ℕ) (seats : List SeatLists) : Type 0 where
  pub size : length words ≡ count
  pub each : (item : ℕ) → Stands seats item (slice_index words item)
