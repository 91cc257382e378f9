-- What holds of a state, whatever events came before it.
use Rattle.std.specs.Prelude.{◌≡◌, ℕ, ◌+◌, ◌≤◌, Bool, true, false, cond, eqb, map, List, [], ◌∷◌, Option, Some}
use Rattle.read_record.specs.declared.outcome.Outcome.{Outcome}
use Rattle.read_record.specs.Records.{Certifies}
use Rattle.read_record.specs.Outcomes.{met_of}
use Rattle.read_record.specs.Entries.{Kept, Tells}
use Rattle.round_core.specs.declared.event.Event.{Event}
use Rattle.round_core.specs.declared.event.Event.TheVariants as event
use Rattle.round_core.specs.declared.made.Made.{Made}
use Rattle.round_core.specs.declared.made.Made.TheVariants as made
use Rattle.round_core.specs.Meant.{Given, name_at, query_at, kept_at, view_at, meant, stale}
use Rattle.round_core.specs.States.{State, at, knows, cell_entry, outs}

-- how often a number stands in a list
abbrev pub times : ℕ → List ℕ → ℕ
times x [] = 0
times x (y ∷ ys) = cond (eqb y x) 1 0 + times x ys

abbrev pub numbers : {A : Type 0} → List (ℕ × A) → List ℕ
numbers ps = map (λ p. p.0) ps

-- the cell came by a render, and not by what is kept
abbrev pub is_new : {M : Type 0} → Made M → Bool
is_new made.Kept = false
is_new (made.New e) = true

-- these outcomes are those that are meant
abbrev pub AreMeant : Given → (ℕ → Option Outcome) → Type 0
AreMeant g known = (i : ℕ) (o : Outcome) → known i ≡ Some o → met_of o ≡ meant g i

-- what is kept of an item is certified
abbrev pub KeptCertified : Given → ℕ → Type 0
KeptCertified g i = (e : Kept) → kept_at g i ≡ Some e → (e.name ≡ name_at g i) × Certifies e.reads (query_at g i) (met_of e.outcome)

-- what is kept of the item that an event keeps is certified
abbrev pub IsSound : Given → Event → Type 0
IsSound g (event.Claim w i) = Unit {0}
IsSound g (event.Take w i) = Unit {0}
IsSound g (event.Keep w i) = KeptCertified g i
IsSound g (event.Finish w i) = Unit {0}

module _ {M : Type 0} (g : Given) (s : State M) where
  -- each item is claimed once at most
  abbrev pub IsClaimedOnce : Type 0
  IsClaimedOnce = (i : ℕ) → times i (numbers s.claims) ≤ 1

  -- each cell that is set belongs to a claimed item
  abbrev pub AreClaimed : Type 0
  AreClaimed = (i : ℕ) (m : Made M) → at i s.cells ≡ Some m → (w : ℕ) × (at i s.claims ≡ Some w)

  -- each item that a worker knows has a set cell
  abbrev pub AreSet : Type 0
  AreSet = (w i : ℕ) → knows w i s.known ≡ true → (m : Made M) × (at i s.cells ≡ Some m)

  -- each cell holds the certified entry that tells what its item comes to, behind all items before it
  abbrev pub AreRight : Type 0
  AreRight = (i : ℕ) (m : Made M) → at i s.cells ≡ Some m → (e : Kept) × (cell_entry g s i ≡ Some e) × Tells (view_at g i) (name_at g i) (query_at g i) e

  -- each cell came by a render exactly where its item is stale
  abbrev pub AreFresh : Type 0
  AreFresh = (i : ℕ) (m : Made M) → at i s.cells ≡ Some m → is_new m ≡ stale g i

  -- what a worker knows is what is meant
  abbrev pub KnowRight : Type 0
  KnowRight = (w : ℕ) → AreMeant g (outs g s w)

-- all of these together, which each event keeps
pub record Facts {M : Type 0} (g : Given) (s : State M) : Type 0 where
  pub once : IsClaimedOnce g s
  pub claimed : AreClaimed g s
  pub set : AreSet g s
  pub right : AreRight g s
  pub fresh : AreFresh g s
