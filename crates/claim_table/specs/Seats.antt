-- What contracts see of a seat, and what a call makes of it.
use Rattle.std.specs.Prelude.{◌≡◌, ℕ, List, [], ◌∷◌, ◌++◌}
use Rattle.atomic_table.specs.Seated.{TableId}
use Rattle.claim_table.specs.Counts.{without}
use Rattle.claim_table.specs.declared.table.Claimed.{Claimed}
use Rattle.claim_table.specs.declared.table.Claimed.TheVariants as claimed

-- The table; the items that the seat claimed and did not finish; those that it finished; each item that it tried to claim, with the word that this step found
pub record Seated : Type 0 where
  pub table : TableId
  pub mine : List ℕ
  pub done : List ℕ
  pub found : List (ℕ × ℕ)

abbrev pub empty_seat : TableId → Seated
empty_seat table = record { table = table; mine = []; done = []; found = [] }

-- the item goes from `mine` to `done`
abbrev pub finished : ℕ → Seated → Seated
finished item seat = record { table = seat.table; mine = without item seat.mine; done = seat.done ++ item ∷ []; found = seat.found }

-- the lists of both
abbrev pub joined : Seated → Seated → Seated
joined into from = record { table = into.table; mine = into.mine ++ from.mine; done = into.done ++ from.done; found = into.found ++ from.found }

-- what a claim answers of the word that its step found, and what it makes of the seat's `mine`
abbrev pub Tells : ℕ → Claimed → ℕ → List ℕ → List ℕ → Type 0
Tells word claimed.Mine item old new = (word ≡ 0) × (new ≡ old ++ item ∷ [])
Tells word claimed.Taken item old new = (word ≡ 1) × (new ≡ old)
Tells word claimed.Finished item old new = (word ≡ 2) × (new ≡ old)

-- one step tried to claim the item, and the answer tells the word that it found
abbrev pub Tries : Claimed → ℕ → Seated → Seated → Type 0
Tries answer item old new = (word : ℕ) × (new.found ≡ old.found ++ (item, word) ∷ []) × Tells word answer item old.mine new.mine
