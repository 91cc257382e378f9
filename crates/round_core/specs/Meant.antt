-- What each item comes to, rendered behind the items before it. It is said of every item, also of those above the first
-- fault, whose item may miss a key: so what is known, and what cells hold, never hangs on where the first fault is.
use Rattle.std.specs.Prelude.{ℕ, zero, suc, Bool, true, false, cond, eqb, List, [], Option, Some, None, get_or, slice_get}
use Rattle.std.specs.FinMap.{get}
use Rattle.site_base.specs.declared.faults.SiteFault.{SiteFault}
use Rattle.site_base.specs.declared.item_name.ItemName.{ItemName}
use Rattle.read_record.specs.declared.outcome.Outcome.{Outcome}
use Rattle.read_record.specs.declared.outcome.Outcome.TheVariants.{Done, Fault}
use Rattle.read_record.specs.declared.outcome.Checked.{Checked}
use Rattle.read_record.specs.declared.outcome.Checked.TheVariants as checked
use Rattle.read_record.specs.Queries.{Query, View, Met, Gave, Failed, Missed, interpret}
use Rattle.read_record.specs.Records.{first_other}
use Rattle.read_record.specs.Outcomes.{Page}
use Rattle.read_record.specs.Worlds.{Sight}
use Rattle.read_record.specs.Entries.{Kept}
use Rattle.memo_table.specs.Entries.{Entries}

-- a site: the names of its items in render order, what they see, what they mean, and what is kept of them
pub record Given : Type 0 where
  pub names : List ItemName
  pub sight : Sight
  pub item : ItemName → Query SiteFault Page
  pub entries : Entries

abbrev pub given_by : List ItemName → Sight → (ItemName → Query SiteFault Page) → Entries → Given
given_by names sight item entries = record { names = names; sight = sight; item = item; entries = entries }

abbrev pub nameless : ItemName
nameless = record { path = []; part = 0 }

abbrev pub name_at : Given → ℕ → ItemName
name_at g i = get_or g.names i nameless

abbrev pub query_at : Given → ℕ → Query SiteFault Page
query_at g i = g.item (name_at g i)

abbrev pub entry_of : Entries → Option ItemName → Option Kept
entry_of entries (Some name) = get entries name
entry_of entries None = None

-- the kept entry of an item
abbrev pub kept_in : List ItemName → Entries → ℕ → Option Kept
kept_in names entries i = entry_of entries (slice_get names i)

abbrev pub kept_at : Given → ℕ → Option Kept
kept_at g i = kept_in g.names g.entries i

-- ---- one item after another

abbrev pub outcome_of : Met SiteFault Page → Option Outcome
outcome_of (Gave page) = Some (Done page.content page.output)
outcome_of (Failed f) = Some (Fault f)
outcome_of (Missed k j) = None

-- the outcomes of the items below n
unfoldable pub outs_below : Given → ℕ → ℕ → Option Outcome
outs_below g zero j = None
outs_below g (suc n) j = cond (eqb j n) (outcome_of (interpret (g.sight n (outs_below g n)) (query_at g n))) (outs_below g n j)

-- what item n sees, where all items below it are rendered
abbrev pub view_at : Given → ℕ → View
view_at g n = g.sight n (outs_below g n)

-- what item n comes to
abbrev pub meant : Given → ℕ → Met SiteFault Page
meant g n = interpret (view_at g n) (query_at g n)

-- ---- which items are to be rendered anew

abbrev pub is_other : Checked → Bool
is_other checked.Agrees = false
is_other (checked.Differs place) = true
is_other (checked.Needs j) = true

abbrev pub is_stale : Option Kept → View → Bool
is_stale None view = true
is_stale (Some kept) view = is_other (first_other kept.reads view)

-- nothing is kept of the item, or what is kept does not agree
abbrev pub stale : Given → ℕ → Bool
stale g i = is_stale (kept_at g i) (view_at g i)
