-- What a round over the items of a site leaves. How it goes makes a difference to the tally alone.
use Rattle.std.specs.Prelude.{◌≡◌, ℕ, suc, ◌+◌, List, [], ◌++◌, length, Result, Ok, Err}
use Rattle.memo_table.specs.Entries.{Entries, of_names}
use Rattle.read_record.specs.Queries.{Gave, Failed}
use Rattle.render_workers.specs.Folds.{fold_of}
use Rattle.render_workers.specs.Rounds.{entries_below}
use Rattle.render_workers.specs.Tallies.{Grows, HasBetween}
use Rattle.render_workers.specs.Whys.{stale_behind, whys_below, why_names}
use Rattle.render_workers.specs.declared.answers.Round.{Round}
use Rattle.render_workers.specs.declared.answers.RoundError.{RoundError}
use Rattle.render_workers.specs.declared.answers.RoundError.TheVariants as error
use Rattle.round_core.specs.Meant.{Given}
use Rattle.site_base.specs.declared.faults.SiteFault.{SiteFault}
use Rattle.site_base.specs.declared.item_name.ItemName.{ItemName}

-- what is added to a tally: the names that are due, perhaps some of the stale items behind the first fault, and the tally before and after
abbrev pub Adds : Type 1
Adds = List ItemName → List ItemName → List ItemName → List ItemName → Type 0

-- one after another: the names that are due, in render order
abbrev pub in_order : Adds
in_order due later before after = after ≡ before ++ due

-- by many workers: the names that are due, each once, in any order, and besides at most later ones
abbrev pub in_any_order : Adds
in_any_order due later before after = (added : List ItemName) × (after ≡ before ++ added) × HasBetween due later added

-- the fold gives these outcomes; the stale items are told with their reasons, and the others counted; each item has its certified
-- entry, and no other name is kept; over what is kept now none is stale
pub record Whole (adds : Adds) (g : Given) (fixed : ℕ) (round : Round) (memo : Entries) (before after : List ItemName) : Type 0 where
  pub fold : fold_of g fixed ≡ Gave round.outs
  pub why : round.why ≡ whys_below g (length g.names)
  pub reused : round.reused + length round.why ≡ length g.names
  pub kept : memo ≡ of_names g.names (entries_below g (length g.names))
  pub tally : adds (why_names round.why) [] before after
  pub fresh : whys_below (record g { entries = memo }) (length g.names) ≡ []

-- the fold's first fault is this; the items before its place have their certified entries
pub record Stopped (adds : Adds) (g : Given) (fixed : ℕ) (fault : SiteFault) (memo : Entries) (before after : List ItemName) : Type 0 where
  pub place : ℕ
  pub fold : fold_of g fixed ≡ Failed (place, fault)
  pub kept : memo ≡ entries_below g place
  pub tally : adds (why_names (whys_below g (suc place))) (stale_behind g (suc place)) before after

abbrev pub IsGone : Adds → Given → ℕ → Result Round RoundError → Entries → List ItemName → List ItemName → Type 0
IsGone adds g fixed (Ok round) kept before after = Whole adds g fixed round kept before after
IsGone adds g fixed (Err (error.Fault f)) kept before after = Stopped adds g fixed f kept before after
IsGone adds g fixed (Err error.Memory) kept before after = Grows before after

-- a round that keeps nothing goes one after another, as one does that would leave these entries
abbrev pub IsGoneAnew : Given → ℕ → Result Round RoundError → List ItemName → List ItemName → Type 0
IsGoneAnew g fixed result before after = (entries : Entries) × IsGone in_order g fixed result entries before after
