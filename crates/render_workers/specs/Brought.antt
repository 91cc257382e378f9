-- What workers bring back.
use Rattle.std.specs.Prelude.{◌≡◌, ℕ, ◌<◌, List, [], ◌∷◌, ◌++◌, All, length, map, Option, Some, None, slice_set}
use Rattle.atomic_table.specs.Seated.{TableId}
use Rattle.claim_table.specs.Seats.{Seated}
use Rattle.site_base.specs.declared.faults.SiteFault.{SiteFault}
use Rattle.site_base.specs.declared.item_name.ItemName.{ItemName}
use Rattle.read_record.specs.Queries.{Query, View}
use Rattle.read_record.specs.Outcomes.{Page}
use Rattle.read_record.specs.Entries.{Kept, Tells}
use Rattle.round_core.specs.Meant.{Given, name_at, kept_at, query_at, view_at}
use Rattle.render_workers.specs.declared.part.Brought.{Brought}
use Rattle.render_workers.specs.declared.part.Work.{Work}
use Rattle.render_workers.specs.declared.part.Work.TheVariants as work
use Rattle.render_workers.specs.Whys.{why_of}

-- what is kept of an item tells what its query gives over the view
abbrev pub IsFresh : Option Kept → View → ItemName → Query SiteFault Page → Type 0
IsFresh kept view name query = (e : Kept) × (kept ≡ Some e) × Tells view name query e

module _ {M : Type 0} where
  -- what is kept of the item stays; or the item is stale, and was rendered for that reason
  abbrev pub IsRight : Option Kept → View → ItemName → Query SiteFault Page → Work M → Type 0
  IsRight kept view name query work.Kept = IsFresh kept view name query
  IsRight kept view name query (work.New e why) = Tells view name query e × (why_of kept view name ≡ why ∷ [])

  -- the same of item i, behind all items before it
  abbrev pub IsRightAt : Given → ℕ → Work M → Type 0
  IsRightAt g i w = IsRight (kept_at g i) (view_at g i) (name_at g i) (query_at g i) w

  -- the name of an item that was rendered
  abbrev pub new_name : Work M → List ItemName
  new_name work.Kept = []
  new_name (work.New e why) = why.name ∷ []

  abbrev pub name_in : Option (Work M) → List ItemName
  name_in None = []
  name_in (Some w) = new_name w

  abbrev pub names_of : List (Brought M) → List ItemName
  names_of [] = []
  names_of (b ∷ bs) = new_name b.work ++ names_of bs

  abbrev pub items_of : List (Brought M) → List ℕ
  items_of bs = map (λ b. b.item) bs

  abbrev pub Brings : Given → Brought M → Type 0
  Brings g b = (b.item < length g.names) × IsRightAt g b.item b.work

  -- the seat has finished the items that are brought back, each of which is right, and the tally has the names of those that were rendered
  pub record IsPart (g : Given) (table : TableId) (seat : Seated) (tally : List ItemName) (brought : List (Brought M)) : Type 0 where
    pub at_table : seat.table ≡ table
    pub done : seat.done ≡ items_of brought
    pub named : tally ≡ names_of brought
    pub right : All (Brings g) brought

-- ---- items at their places

-- of each item what was made of it, where a worker brought it back
abbrev pub Places : Type 0 → Type 0
Places M = List (Option (Work M))

module _ {M : Type 0} where
  abbrev pub names_in : Places M → List ItemName
  names_in [] = []
  names_in (w ∷ ws) = name_in w ++ names_in ws

  abbrev pub all_placed : List (Brought M) → Places M → Places M
  all_placed [] places = places
  all_placed (b ∷ bs) places = slice_set (all_placed bs places) b.item (Some b.work)
