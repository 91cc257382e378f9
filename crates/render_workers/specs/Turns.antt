-- What one try at an item leaves.
use Rattle.std.specs.Prelude.{◌≡◌, ℕ, List, [], ◌∷◌, ◌++◌, Option, Some, None, Result, Ok, Err}
use Rattle.std.specs.FinMap.{get}
use Rattle.site_base.specs.declared.faults.SiteFault.{SiteFault}
use Rattle.site_base.specs.declared.item_name.ItemName.{ItemName}
use Rattle.read_record.specs.declared.key.Key.{Key}
use Rattle.read_record.specs.declared.outcome.Outcome.{Outcome}
use Rattle.read_record.specs.declared.outcome.Checked.{Checked}
use Rattle.read_record.specs.declared.outcome.Checked.TheVariants as checked
use Rattle.read_record.specs.Queries.{Query, View, interpret, needed_item}
use Rattle.read_record.specs.Records.{first_other}
use Rattle.read_record.specs.Outcomes.{Page, met_of}
use Rattle.read_record.specs.Entries.{Kept, Tells}
use Rattle.memo_table.specs.Entries.{Entries, with_entry}
use Rattle.round_core.specs.Steps.{Differs}
use Rattle.render_workers.specs.declared.answers.Why.{Why}
use Rattle.render_workers.specs.declared.answers.RoundError.{RoundError}
use Rattle.render_workers.specs.declared.answers.RoundError.TheVariants as error
use Rattle.render_workers.specs.declared.progress.Progress.{Progress}
use Rattle.render_workers.specs.declared.settling.Settled.{Settled}
use Rattle.render_workers.specs.declared.settling.Settled.TheVariants as settled
use Rattle.render_workers.specs.Folds.{counted}
use Rattle.render_workers.specs.Whys.{reason_of, why_for, why_of, why_names}

-- ---- one try

-- an entry with what came of its check
abbrev pub with_check : Option Kept → Option Checked → Option (Kept × Checked)
with_check (Some entry) (Some checked) = Some (entry, checked)
with_check (Some entry) None = None
with_check None checked = None

-- of what was found of an item, the entry
abbrev pub kept_in : Option (Kept × Checked) → Option Kept
kept_in None = None
kept_in (Some found) = Some found.0

-- an entry of this name, with the first key of it that the view does not give as it was seen
abbrev pub IsFound : View → ItemName → Kept × Checked → Type 0
IsFound view name found = (found.0.name ≡ name) × (found.1 ≡ first_other found.0.reads view)

abbrev pub waits_at : Checked → Option ℕ → Option ℕ
waits_at checked.Agrees needed = None
waits_at (checked.Differs place) needed = needed
waits_at (checked.Needs j) needed = Some j

-- the item that has to be done before it is known whether what is kept agrees, or else before the query gives something
abbrev pub waits_for : Option Kept → View → Query SiteFault Page → Option ℕ
waits_for None view query = needed_item (interpret view query)
waits_for (Some kept) view query = waits_at (first_other kept.reads view) (needed_item (interpret view query))

-- an item was rendered over a view, for this reason
abbrev pub IsRendered : {M : Type 0} → View → ItemName → Query SiteFault Page → Option Key → Settled M → List ItemName → List ItemName → Type 0
IsRendered view name query key (settled.Kept e) before after = ⊥
IsRendered view name query key (settled.New e why) before after = Tells view name query e × (why ≡ why_for name key) × (after ≡ before ++ name ∷ [])
IsRendered view name query key (settled.Needs j) before after = (needed_item (interpret view query) ≡ Some j) × (after ≡ before)
IsRendered view name query key settled.Memory before after = Unit {0}

-- an item was kept where that agrees with the view, and else rendered
abbrev pub IsSettled : {M : Type 0} → Option Kept → View → ItemName → Query SiteFault Page → Settled M → List ItemName → List ItemName → Type 0
IsSettled kept view name query (settled.Kept e) before after = (kept ≡ Some e) × Tells view name query e × (after ≡ before)
IsSettled kept view name query (settled.New e why) before after = Differs kept view × Tells view name query e × (why ≡ why_for name (reason_of kept view)) × (after ≡ before ++ name ∷ [])
IsSettled kept view name query (settled.Needs j) before after = (waits_for kept view query ≡ Some j) × (after ≡ before)
IsSettled kept view name query settled.Memory before after = Unit {0}

-- ---- one item more

-- this fault, unless memory ran out
abbrev pub IsFault : SiteFault → RoundError → Type 0
IsFault fault (error.Fault f) = f ≡ fault
IsFault fault error.Memory = Unit {0}

-- an outcome joined the others, and was counted
pub record Adds (name : ItemName) (outcome : Outcome) (old new : Progress) : Type 0 where
  pub bytes : counted outcome name old.bytes ≡ Ok new.bytes
  pub outs : new.outs ≡ old.outs ++ outcome ∷ []
  pub why : new.why ≡ old.why

abbrev pub IsAdded : ItemName → Outcome → Result (Unit {0}) RoundError → Progress → Progress → Type 0
IsAdded name outcome (Ok u) old new = Adds name outcome old new
IsAdded name outcome (Err (error.Fault f)) old new = counted outcome name old.bytes ≡ Err f
IsAdded name outcome (Err error.Memory) old new = Unit {0}

-- the same of an item that was rendered anew for this reason
pub record AddsRendered (name : ItemName) (outcome : Outcome) (told : Why) (old new : Progress) : Type 0 where
  pub bytes : counted outcome name old.bytes ≡ Ok new.bytes
  pub outs : new.outs ≡ old.outs ++ outcome ∷ []
  pub why : new.why ≡ old.why ++ told ∷ []

abbrev pub IsAddedRendered : ItemName → Outcome → Why → Result (Unit {0}) RoundError → Progress → Progress → Type 0
IsAddedRendered name outcome why (Ok u) old new = AddsRendered name outcome why old new
IsAddedRendered name outcome why (Err error) old new = IsAdded name outcome (Err error) old new

-- the same, where its entry is kept
pub record AddsNew (entry : Kept) (told : Why) (old new : Progress) (memo memo' : Entries) : Type 0 where
  pub bytes : counted entry.outcome entry.name old.bytes ≡ Ok new.bytes
  pub outs : new.outs ≡ old.outs ++ entry.outcome ∷ []
  pub why : new.why ≡ old.why ++ told ∷ []
  pub kept : memo' ≡ with_entry entry memo

abbrev pub IsAddedNew : Kept → Why → Result (Unit {0}) RoundError → Progress → Progress → Entries → Entries → Type 0
IsAddedNew entry why (Ok u) old new kept kept' = AddsNew entry why old new kept kept'
IsAddedNew entry why (Err (error.Fault f)) old new kept kept' = (counted entry.outcome entry.name old.bytes ≡ Err f) × (kept' ≡ kept)
IsAddedNew entry why (Err error.Memory) old new kept kept' = Unit {0}

-- the item has its certified entry, whose outcome joined the others; where it is stale, it was rendered, and is told
pub record Turns (view : View) (name : ItemName) (query : Query SiteFault Page) (old new : Progress) (memo memo' : Entries) (before after : List ItemName) : Type 0 where
  pub entry : Kept
  pub tells : Tells view name query entry
  pub bytes : counted entry.outcome name old.bytes ≡ Ok new.bytes
  pub outs : new.outs ≡ old.outs ++ entry.outcome ∷ []
  pub why : new.why ≡ old.why ++ why_of (get memo name) view name
  pub kept : memo' ≡ with_entry entry memo
  pub tally : after ≡ before ++ why_names (why_of (get memo name) view name)

-- the item has a fault, or the tree is too long with it; nothing is kept of it
pub record Ends (view : View) (name : ItemName) (query : Query SiteFault Page) (fault : SiteFault) (old : Progress) (memo memo' : Entries) (before after : List ItemName) : Type 0 where
  pub outcome : Outcome
  pub met : interpret view query ≡ met_of outcome
  pub counts : counted outcome name old.bytes ≡ Err fault
  pub kept : memo' ≡ memo
  pub tally : after ≡ before ++ why_names (why_of (get memo name) view name)

abbrev pub IsTurn : View → ItemName → Query SiteFault Page → Result (Unit {0}) RoundError → Progress → Progress → Entries → Entries → List ItemName → List ItemName → Type 0
IsTurn view name query (Ok u) old new kept kept' before after = Turns view name query old new kept kept' before after
IsTurn view name query (Err (error.Fault f)) old new kept kept' before after = Ends view name query f old kept kept' before after
IsTurn view name query (Err error.Memory) old new kept kept' before after = Unit {0}

-- an item was rendered of which nothing is kept, before and behind it: whatever is kept of others, it is a turn of one whose entry joins that
abbrev pub IsTurnAnew : View → ItemName → Query SiteFault Page → Result (Unit {0}) RoundError → Progress → Progress → List ItemName → List ItemName → Type 0
IsTurnAnew view name query result old new before after = (kept : Entries) → get kept name ≡ None → (kept' : Entries) × IsTurn view name query result old new kept kept' before after
