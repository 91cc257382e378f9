-- What a round of one item after another leaves, and one of many workers.
use Rattle.std.proofs.Common.{◌≡◌, ◌∙◌, ℕ, suc, ◌+◌, List, [], ◌++◌, Result, Ok, Err, ap, arith}
use Rattle.memo_table.specs.Entries.{Entries}
use Rattle.render_workers.specs.Rounds.{IsRound}
use Rattle.render_workers.specs.declared.answers.Round.{Round}
use Rattle.render_workers.specs.declared.answers.RoundError.{RoundError}
use Rattle.render_workers.specs.declared.answers.RoundError.TheVariants as error
use Rattle.round_core.specs.Meant.{Given}
use Rattle.site_base.specs.declared.item_name.ItemName.{ItemName}
use Rattle.render_workers.specs.Tallies.{times, Grows, SameNames, HasBetween}
use Rattle.render_workers.proofs.TallyLaws.{times-append}
use Rattle.render_workers.specs.Worked.{IsWorked}
use Rattle.render_workers.specs.Whys.{stale_behind, why_names, whys_below}
use Rattle.site_session.specs.Rounds.{IsGone, in_any_order, in_order}

pub serial_gone : (g : Given) (fixed : ℕ) (r : Result Round RoundError) (kept : Entries) (before after : List ItemName) → IsRound g fixed r kept before after → Grows before after → IsGone in_order g fixed r kept before after
serial_gone g fixed (Ok round) kept before after w grows = record { fold = w.fold; why = w.why; reused = w.reused; kept = w.kept; tally = w.tally; fresh = w.fresh }
serial_gone g fixed (Err (error.Fault f)) kept before after s grows = record { place = s.place; fold = s.fold; kept = s.kept; tally = s.tally }
serial_gone g fixed (Err error.Memory) kept before after u grows = grows

-- what was added at the end has what is due, where the whole has it
added_between : (before due later added serial after : List ItemName) → serial ≡ before ++ due → after ≡ before ++ added → HasBetween serial later after → HasBetween due later added
added_between before due later added serial after serial_is after_is between = λ name.
    let first : times name serial ≡ times name before + times name due = ap (times name) serial_is ∙ times-append name before due in
    let last : times name after ≡ times name before + times name added = ap (times name) after_is ∙ times-append name before added in
    let b = between name in
    (omega (arith, first, last, b.0), omega (arith, first, last, b.1))

same_between : (serial after : List ItemName) → SameNames serial after → HasBetween serial [] after
same_between serial after same = λ name. let e = same name in (omega (arith, e), omega (arith, e))

pub worked_gone : (g : Given) (fixed : ℕ) (r : Result Round RoundError) (kept : Entries) (before after : List ItemName) → IsWorked g fixed r kept before after → Grows before after → IsGone in_any_order g fixed r kept before after
worked_gone g fixed (Ok round) kept before after w grows =
    let whole = w.1 in
    record { fold = whole.fold; why = whole.why; reused = whole.reused; kept = whole.kept; tally = (grows.0, grows.1, added_between before (why_names round.why) [] grows.0 w.0 after whole.tally grows.1 (same_between w.0 after w.2)); fresh = whole.fresh }
worked_gone g fixed (Err (error.Fault f)) kept before after w grows =
    let stop = w.1 in
    record {
      place = stop.place;
      fold = stop.fold;
      kept = stop.kept;
      tally = (grows.0, grows.1, added_between before (why_names (whys_below g (suc stop.place))) (stale_behind g (suc stop.place)) grows.0 w.0 after stop.tally grows.1 w.2);
    }
worked_gone g fixed (Err error.Memory) kept before after w grows = grows
