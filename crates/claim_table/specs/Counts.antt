-- How often an item stands in lists of items.
use Rattle.std.specs.Prelude.{ℕ, ◌+◌, ◌<◌, ◌≤◌, ◌==◌, List, [], ◌∷◌, if◌then◌else◌}

-- 1 where the two numbers are the same, and else 0
abbrev pub one_if_same : ℕ → ℕ → ℕ
one_if_same a b = if a == b then 1 else 0

-- how often the item stands in the list
abbrev pub times : ℕ → List ℕ → ℕ
times item [] = 0
times item (other ∷ rest) = one_if_same other item + times item rest

-- the list without the item where it stands first
abbrev pub without : ℕ → List ℕ → List ℕ
without item [] = []
without item (other ∷ rest) = if other == item then rest else other ∷ without item rest

-- no item stands twice in the two lists together
abbrev pub EachOnce : List ℕ → List ℕ → Type 0
EachOnce mine done = (item : ℕ) → times item mine + times item done ≤ 1

-- each item of the list is below the count
abbrev pub AllBelow : ℕ → List ℕ → Type 0
AllBelow count items = (item : ℕ) → 0 < times item items → item < count
