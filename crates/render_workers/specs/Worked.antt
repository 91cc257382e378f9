-- What a worker keeps true, and what a round of many workers leaves.
use Rattle.std.specs.Prelude.{◌≡◌, ℕ, suc, List, length, Result, Ok, Err}
use Rattle.atomic_table.specs.Seated.{TableId}
use Rattle.claim_table.specs.Counts.{EachOnce}
use Rattle.site_base.specs.declared.item_name.ItemName.{ItemName}
use Rattle.memo_table.specs.Entries.{Entries}
use Rattle.round_core.specs.Meant.{Given}
use Rattle.round_core.specs.Facts.{AreMeant}
use Rattle.round_core.specs.Hands.{Hand, hand_outs}
use Rattle.render_workers.specs.declared.answers.Round.{Round}
use Rattle.render_workers.specs.declared.answers.RoundError.{RoundError}
use Rattle.render_workers.specs.declared.answers.RoundError.TheVariants as error
use Rattle.render_workers.specs.declared.part.Part.{Part}
use Rattle.render_workers.specs.declared.worker.Worker.{Worker}
use Rattle.render_workers.specs.Brought.{IsPart}
use Rattle.render_workers.specs.Rounds.{IsWhole, IsStopped}
use Rattle.render_workers.specs.Tallies.{SameNames, HasBetween}
use Rattle.render_workers.specs.Whys.{stale_behind}

-- ---- one worker

-- a hand for all items, in which all that is known is what is meant
abbrev pub IsHand : Given → Hand → Type 0
IsHand g hand = (length hand ≡ length g.names) × AreMeant g (hand_outs hand)

-- a hand stays such a hand
abbrev pub StaysRight : Given → Hand → Hand → Type 0
StaysRight g old new = (length new ≡ length old) × (AreMeant g (hand_outs old) → AreMeant g (hand_outs new))

abbrev pub IsWork : {M W : Type 0} → Given → TableId → Worker M W → Type 0
IsWork g table w = IsPart g table w.part.seat w.part.tally w.part.brought.items × IsHand g w.hand

module _ {M : Type 0} where
  -- what all workers bring back: no item is there twice
  abbrev pub IsGathered : Given → Part M → Type 0
  IsGathered g p = IsPart g p.seat.table p.seat p.tally p.brought.items × EachOnce p.seat.mine p.seat.done

-- ---- a round

-- What a round of one item after another leaves, but that the names join the tally in any order. At a fault, names of later items that
-- are stale over what the items before them come to may join it besides, each once at most
abbrev pub IsWorked : Given → ℕ → Result Round RoundError → Entries → List ItemName → List ItemName → Type 0
IsWorked g fixed (Ok round) kept before after = (serial : List ItemName) × IsWhole g fixed round kept before serial × SameNames serial after
IsWorked g fixed (Err (error.Fault f)) kept before after = (serial : List ItemName) × (stop : IsStopped g fixed f kept before serial) × HasBetween serial (stale_behind g (suc stop.place)) after
IsWorked g fixed (Err error.Memory) kept before after = Unit {0}
