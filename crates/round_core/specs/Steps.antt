-- Which events a state allows, and what they leave.
use Rattle.std.specs.Prelude.{◌≡◌, ℕ, ◌<◌, false, length, List, [], ◌∷◌, Option, Some, None, Result, Ok, Err, take, slice_get}
use Rattle.read_record.specs.declared.outcome.Checked.TheVariants as checked
use Rattle.read_record.specs.Queries.{View}
use Rattle.read_record.specs.Records.{first_other}
use Rattle.read_record.specs.Entries.{Kept, Tells}
use Rattle.round_core.specs.declared.event.Event.{Event}
use Rattle.round_core.specs.declared.event.Event.TheVariants as event
use Rattle.round_core.specs.declared.made.Made.TheVariants as made
use Rattle.round_core.specs.declared.running.CoreError.{CoreError}
use Rattle.round_core.specs.declared.running.CoreError.TheVariants as error
use Rattle.round_core.specs.declared.stepping.Stepped.{Stepped}
use Rattle.round_core.specs.declared.stepping.Stepped.TheVariants as stepped
use Rattle.round_core.specs.Meant.{Given, name_at, query_at, kept_at}
use Rattle.round_core.specs.States.{State, nobody, at, knows, cell_entry, outs, with_claim, with_cell, knowing}

-- nothing is kept, or the view gives another value than one that was seen
abbrev pub Differs : Option Kept → View → Type 0
Differs None view = Unit {0}
Differs (Some kept) view = (place : ℕ) × (first_other kept.reads view ≡ checked.Differs place)

-- a worker that there is, and an item that there is
abbrev pub AreThere : Given → ℕ → ℕ → ℕ → Type 0
AreThere g workers w i = (w < workers) × (i < length g.names)

module _ {M : Type 0} (g : Given) (workers : ℕ) where
  -- what a worker sees where it works at an item
  abbrev pub sees : State M → ℕ → ℕ → View
  sees s w i = g.sight i (outs g s w)

  -- nobody has claimed the item
  pub record Claims (s : State M) (w i : ℕ) (t : State M) : Type 0 where
    pub there : AreThere g workers w i
    pub free : at i s.claims ≡ None
    pub after : t ≡ with_claim w i s

  -- the cell is set, the worker does not know the item, and what the cell holds agrees with what the worker sees
  pub record Takes (s : State M) (w i : ℕ) (t : State M) : Type 0 where
    pub there : AreThere g workers w i
    pub entry : Kept
    pub set : cell_entry g s i ≡ Some entry
    pub unknown : knows w i s.known ≡ false
    pub agrees : first_other entry.reads (sees s w i) ≡ checked.Agrees
    pub after : t ≡ knowing w i s

  -- the worker has claimed the item, its cell is empty, and what is kept of it agrees with what the worker sees
  pub record Keeps (s : State M) (w i : ℕ) (t : State M) : Type 0 where
    pub there : AreThere g workers w i
    pub mine : at i s.claims ≡ Some w
    pub empty : at i s.cells ≡ None
    pub entry : Kept
    pub kept : kept_at g i ≡ Some entry
    pub agrees : first_other entry.reads (sees s w i) ≡ checked.Agrees
    pub after : t ≡ with_cell i made.Kept s

  -- the worker has claimed the item, its cell is empty, what is kept of it differs, and the entry is what the item comes to
  -- over what the worker sees
  pub record Finishes (s : State M) (w i : ℕ) (t : State M) : Type 0 where
    pub there : AreThere g workers w i
    pub mine : at i s.claims ≡ Some w
    pub empty : at i s.cells ≡ None
    pub differs : Differs (kept_at g i) (sees s w i)
    pub entry : Kept
    pub tells : Tells (sees s w i) (name_at g i) (query_at g i) entry
    pub after : t ≡ with_cell i (made.New entry) s

  -- the state allows the event, which leaves this
  abbrev pub Steps : State M → Event → State M → Type 0
  Steps s (event.Claim w i) t = Claims s w i t
  Steps s (event.Take w i) t = Takes s w i t
  Steps s (event.Keep w i) t = Keeps s w i t
  Steps s (event.Finish w i) t = Finishes s w i t

  -- the events are allowed one after another, and leave this
  abbrev pub Reaches : State M → List Event → State M → Type 0
  Reaches s [] t = t ≡ s
  Reaches s (e ∷ es) t = (u : State M) × Steps s e u × Reaches u es t

  -- what one event answers
  abbrev pub IsStepped : Stepped → State M → Event → State M → Type 0
  IsStepped stepped.Done s e t = Steps s e t
  IsStepped stepped.Refused s e t = (t ≡ s) × ((u : State M) → ¬ (Steps s e u))
  IsStepped stepped.Memory s e t = Unit {0}

abbrev pub OnDone : Stepped → Type 0 → Type 0
OnDone stepped.Done P = P
OnDone stepped.Refused P = Unit {0}
OnDone stepped.Memory P = Unit {0}

-- the events before this place are allowed, and that at the place is not
pub record IsRefused (M : Type 0) (g : Given) (workers : ℕ) (events : List Event) (place : ℕ) : Type 0 where
  pub before : State M
  pub reached : Reaches g workers nobody (take place events) before
  pub next : Event
  pub there : slice_get events place ≡ Some next
  pub refused : (t : State M) → ¬ (Steps g workers before next t)

-- the state that the events leave, or the place of the first that is not allowed
abbrev pub IsRun : {M : Type 0} → Given → ℕ → List Event → Result (State M) CoreError → Type 0
IsRun {M} g workers events (Ok t) = Reaches g workers nobody events t
IsRun {M} g workers events (Err (error.Refused place)) = IsRefused M g workers events place
IsRun {M} g workers events (Err error.Memory) = Unit {0}

-- the events leave no other state, and none at all where one is refused
abbrev pub IsOnly : {M : Type 0} → Given → ℕ → List Event → Result (State M) CoreError → Type 0
IsOnly {M} g workers events (Ok t) = (u : State M) → Reaches g workers nobody events u → u ≡ t
IsOnly {M} g workers events (Err (error.Refused place)) = (u : State M) → ¬ (Reaches g workers nobody events u)
IsOnly {M} g workers events (Err error.Memory) = Unit {0}
