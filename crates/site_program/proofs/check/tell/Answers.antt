use Rattle.std.specs.Prelude.{false}
use Rattle.site_session.specs.Bytes.{reply_bytes}
use Rattle.site_program.specs.Runs.{reply_status}
use Rattle.site_program.proofs.Checking.{stop_said}
use Rattle.site_program.proofs.check.tell.Goals as goal

pub returns-in-Err-clause-took : goal.returns-in-Err-clause-took
returns-in-Err-clause-took g c = λ before w.
    let p = c.in-Err.ensures.err before w in
    stop_said (reply_bytes false c.args.reply) (reply_status c.args.reply) before _ c.status.result p.0 p.1 c.status.ensures.cases (λ e. p.2 (c.status.ensures.memory e))
