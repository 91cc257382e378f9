-- What each kind of step makes of a seat's lists, and what it tells.
use Rattle.std.specs.Prelude.{◌≡◌, ℕ, ◌≤◌, ◌==◌, List, [], ◌∷◌, ◌++◌, if◌then◌else◌}
use Rattle.atomic_table.specs.Table.{Me, Step}
use Rattle.claim_table.specs.declared.rule.SeatLists.{SeatLists}
use Rattle.claim_table.specs.Counts.{without, EachOnce}

abbrev pub empty_lists : SeatLists
empty_lists = record { mine = []; done = []; found = [] }

-- a claim that found 0 adds the item to `mine`
abbrev pub claimed : ℕ → ℕ → List ℕ → List ℕ
claimed word item mine = if word == 0 then mine ++ item ∷ [] else mine

abbrev pub after_claim : ℕ → ℕ → SeatLists → SeatLists
after_claim word item seat = record { mine = claimed word item seat.mine; done = seat.done; found = seat.found ++ (item, word) ∷ [] }

abbrev pub after_finish : ℕ → SeatLists → SeatLists
after_finish item seat = record { mine = without item seat.mine; done = seat.done ++ item ∷ []; found = seat.found }

abbrev pub joined_lists : SeatLists → SeatLists → SeatLists
joined_lists into from = record { mine = into.mine ++ from.mine; done = into.done ++ from.done; found = into.found ++ from.found }

-- a seat of a table without slots: its lists, and no slots
abbrev pub Sitting : Type 0
Sitting = Me (Unit {0}) SeatLists

-- the seat is left with these lists, in which no item stands twice
abbrev pub Leaves : SeatLists → Sitting → Sitting → Type 0
Leaves lists before after = (after ≡ (lists, before.1)) × EachOnce lists.mine lists.done

-- the exchange of 0 by 1 in the item's word: it found a word of the rule
abbrev pub claims : Step (Unit {0}) → Sitting → ℕ → Sitting → Type 0
claims step before word after = (word ≤ 2) × Leaves (after_claim word step.word before.0) before after

-- the store of 2 into the word of an item of `mine`
abbrev pub finishes : Step (Unit {0}) → Sitting → ℕ → Sitting → Type 0
finishes step before word after = Leaves (after_finish step.word before.0) before after

-- the load of any word: it changes nothing
abbrev pub looks : Step (Unit {0}) → Sitting → ℕ → Sitting → Type 0
looks step before word after = Leaves before.0 before after
