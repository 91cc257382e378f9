use Rattle.std.specs.Prelude.{false}
use Rattle.site_session.specs.Bytes.{reply_bytes}
use Rattle.site_session.specs.Session.{first_fault}
use Rattle.site_session.specs.declared.reply.Reply.TheVariants.{Scanned}
use Rattle.site_program.specs.Checks.{verdict, verdict_status}
use Rattle.site_program.proofs.Checking.{both_said, stop_both}
use Rattle.site_program.proofs.check.check_held.Goals as goal

pub returns-in-Ok-clause-took : goal.returns-in-Ok-clause-took
returns-in-Ok-clause-took g c = λ before w.
    let fault = first_fault c.args.session.now in
    both_said (reply_bytes false (Scanned c.args.count)) (verdict fault) (verdict_status fault) before _ c.judge_held.result (c.judge_held.ensures.took _ (c.in-Ok.ensures.ok before w))

pub returns-clause-took : goal.returns-clause-took
returns-clause-took g c = λ before w.
    let fault = first_fault c.args.session.now in
    let p = c.in-Err.ensures.err before w in
    stop_both (reply_bytes false (Scanned c.args.count)) (verdict fault) (verdict_status fault) before _ c.status.result p.0 p.1 c.status.ensures.cases (λ e. p.2 (c.status.ensures.memory e))
