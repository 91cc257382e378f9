-- One worker goes through the items one after another.
use Rattle.std.proofs.Common.{ℕ, List, Ok, Err, arith, refl}
use Rattle.std.specs.Prelude.{Result}
use Rattle.site_base.specs.declared.item_name.ItemName.{ItemName}
use Rattle.memo_table.specs.Entries.{Entries}
use Rattle.round_core.specs.Meant.{Given}
use Rattle.render_workers.specs.declared.answers.Round.{Round}
use Rattle.render_workers.specs.declared.answers.RoundError.{RoundError}
use Rattle.render_workers.specs.declared.answers.RoundError.TheVariants as error
use Rattle.render_workers.specs.Rounds.{IsRound}
use Rattle.render_workers.specs.Worked.{IsWorked}

pub worked_alone : (g : Given) (fixed : ℕ) (r : Result Round RoundError) (memo : Entries) (before after : List ItemName) → IsRound g fixed r memo before after → IsWorked g fixed r memo before after
worked_alone g fixed (Ok round) memo before after h = (after, h, λ name. refl)
worked_alone g fixed (Err (error.Fault f)) memo before after h = (after, h, λ name. (omega arith, omega arith))
worked_alone g fixed (Err error.Memory) memo before after h = tt
