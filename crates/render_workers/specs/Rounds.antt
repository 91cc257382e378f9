-- What a round leaves.
use Rattle.std.specs.Prelude.{◌≡◌, ℕ, zero, suc, ◌+◌, List, [], ◌++◌, length, slice_get, Option, Some, None, Result, Ok, Err}
use Rattle.site_base.specs.declared.faults.SiteFault.{SiteFault}
use Rattle.site_base.specs.declared.item_name.ItemName.{ItemName}
use Rattle.read_record.specs.declared.outcome.Outcome.{Outcome}
use Rattle.read_record.specs.Queries.{Query, View, Gave, Failed, interpret, Reads, reads_of}
use Rattle.read_record.specs.Outcomes.{Page}
use Rattle.read_record.specs.Entries.{Kept}
use Rattle.memo_table.specs.Entries.{Entries, with_entry, of_names}
use Rattle.round_core.specs.Meant.{Given, name_at, query_at, outcome_of, view_at}
use Rattle.render_workers.specs.declared.answers.Round.{Round}
use Rattle.render_workers.specs.declared.answers.RoundError.{RoundError}
use Rattle.render_workers.specs.declared.answers.RoundError.TheVariants as error
use Rattle.render_workers.specs.Folds.{fold_of, AreDone}
use Rattle.render_workers.specs.Whys.{whys_below, why_names}

-- ---- which entries are kept

abbrev pub entry_with : Option Outcome → ItemName → Reads → Option Kept
entry_with (Some outcome) name reads = Some (record { name = name; reads = reads; outcome = outcome })
entry_with None name reads = None

-- the certified entry of an item over a view: what its query gives, with all that it reads
abbrev pub entry_over : View → ItemName → Query SiteFault Page → Option Kept
entry_over view name query = entry_with (outcome_of (interpret view query)) name (reads_of view [] query)

-- the one of item i, behind all items before it
abbrev pub entry_at : Given → ℕ → Option Kept
entry_at g i = entry_over (view_at g i) (name_at g i) (query_at g i)

abbrev pub with_some : Option Kept → Entries → Entries
with_some (Some kept) entries = with_entry kept entries
with_some None entries = entries

-- what is kept, with the certified entries of the items below n
unfoldable pub entries_below : Given → ℕ → Entries
entries_below g zero = g.entries
entries_below g (suc n) = with_some (entry_at g n) (entries_below g n)

-- ---- answers

-- the fold gives these outcomes; the stale items are told with their reasons, and the others counted; each item has its certified
-- entry, and no other name is kept; the names of the stale items joined the tally; over what is kept now none is stale
pub record IsWhole (g : Given) (fixed : ℕ) (round : Round) (memo : Entries) (before after : List ItemName) : Type 0 where
  pub fold : fold_of g fixed ≡ Gave round.outs
  pub each : length round.outs ≡ length g.names
  pub done : AreDone (length g.names) (slice_get round.outs)
  pub why : round.why ≡ whys_below g (length g.names)
  pub reused : round.reused + length round.why ≡ length g.names
  pub kept : memo ≡ of_names g.names (entries_below g (length g.names))
  pub tally : after ≡ before ++ why_names round.why
  pub fresh : whys_below (record g { entries = memo }) (length g.names) ≡ []

-- the fold's first fault is this; the items before its place have their certified entries, and all other entries are as before; the
-- names of the stale items up to that place joined the tally
pub record IsStopped (g : Given) (fixed : ℕ) (fault : SiteFault) (memo : Entries) (before after : List ItemName) : Type 0 where
  pub place : ℕ
  pub fold : fold_of g fixed ≡ Failed (place, fault)
  pub kept : memo ≡ entries_below g place
  pub tally : after ≡ before ++ why_names (whys_below g (suc place))

abbrev pub IsRound : Given → ℕ → Result Round RoundError → Entries → List ItemName → List ItemName → Type 0
IsRound g fixed (Ok round) kept before after = IsWhole g fixed round kept before after
IsRound g fixed (Err (error.Fault f)) kept before after = IsStopped g fixed f kept before after
IsRound g fixed (Err error.Memory) kept before after = Unit {0}

-- a round that keeps nothing answers as one does that would leave these entries
abbrev pub IsRoundAnew : Given → ℕ → Result Round RoundError → List ItemName → List ItemName → Type 0
IsRoundAnew g fixed result before after = (entries : Entries) × IsRound g fixed result entries before after
