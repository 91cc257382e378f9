use Rattle.std.proofs.Common.{ap, refl}
use Rattle.std.proofs.Math.Facts.{to_z-of_z}
use Rattle.site_session.specs.Session.{start}
use Rattle.site_words.specs.declared.orders.Options.{Options}
use Rattle.site_program.specs.declared.usage.TopCall.TheVariants as call
use Rattle.site_program.proofs.OneBuilds.{ends_unread, same_run}
use Rattle.site_program.proofs.Orders.{build_jobs_in_range, in_time, known, none_for_jobs, ordered, same_build, same_session, same_start, session_jobs_in_range}
use Rattle.site_program.proofs.Turns.{same_session_run, session_unread}
use Rattle.site_program.proofs.jobs.run_jobs.Goals as goal

pub build-requires-clause-moment : goal.build-requires-clause-moment
build-requires-clause-moment g c κs within = in_time call.Jobs c.args.words.now _ _ c.in-Ok.ensures

pub build-requires-clause-jobs : goal.build-requires-clause-jobs
build-requires-clause-jobs g c κs within = build_jobs_in_range c.args.words.now _ _ _ c.in-Ok.ensures c.in-Build.is

pub run_session-requires-clause-jobs : goal.run_session-requires-clause-jobs
run_session-requires-clause-jobs g c κs within = session_jobs_in_range c.args.words.now _ _ _ c.in-Ok.ensures c.in-Session.is

pub run_session-requires-clause-moment : goal.run_session-requires-clause-moment
run_session-requires-clause-moment g c κs within = in_time call.Jobs c.args.words.now _ _ c.in-Ok.ensures

pub unreachable-requires : goal.unreachable-requires
unreachable-requires g c = none_for_jobs c.in-Ok.order (known call.Jobs c.args.words.now _ _ c.in-Ok.ensures) c.in_default.not-Build c.in_default.not-Session

-- the order is the one that the clause speaks of, and a moment that is handed on is the same number
pub returns-in-Build-clause-build : goal.returns-in-Build-clause-build
returns-in-Build-clause-build g c = λ options is.
    let moment_is = to_z-of_z c.ranges.moment in
    let order_is = ordered call.Jobs c.args.words.now _ _ _ _ moment_is c.in-Ok.ensures is in
    let options_is = same_build c.in-Ok.order c.in-Build.options options c.in-Build.is order_is in
    (same_run _ _ _ _ _ _ _ _ (same_start _ _ _ _ (ap (λ (o : Options). o.settings) options_is) moment_is) (ap (λ (o : Options). o.why) options_is) refl c.build.ensures, refl)

pub returns-in-Session-clause-session : goal.returns-in-Session-clause-session
returns-in-Session-clause-session g c = λ options is.
    let moment_is = to_z-of_z c.ranges.moment in
    let order_is = ordered call.Jobs c.args.words.now _ _ _ _ moment_is c.in-Ok.ensures is in
    let options_is = same_session c.in-Ok.order c.in-Session.options options c.in-Session.is order_is in
    same_session_run _ _ _ _ _ _ _ _ _ (same_start _ _ _ _ (ap (λ (o : Options). o.settings) options_is) moment_is) (ap (λ (o : Options). o.why) options_is) c.run_session.ensures

pub returns-in-Err-Memory-clause-build : goal.returns-in-Err-Memory-clause-build
returns-in-Err-Memory-clause-build g c = λ options is. (ends_unread (start options.settings c.args.moment) options.why _ _ refl refl, refl)

pub returns-in-Err-Memory-clause-session : goal.returns-in-Err-Memory-clause-session
returns-in-Err-Memory-clause-session g c = λ options is. session_unread (start options.settings c.args.moment) options.why _ _ _ refl refl
