use Rattle.std.proofs.Common.{◌≡◌, ◌∙◌, ap, refl, subst, ℕ, Err, Some, None, rules}
use Rattle.std.specs.Prelude.{false}
use Rattle.site_session.specs.Bytes.{reply_bytes}
use Rattle.site_session.specs.Replies.{scan_reply}
use Rattle.site_session.specs.Session.{first_fault, start}
use Rattle.site_session.specs.Scenes.{source_seen}
use Rattle.site_session.specs.Standing.{Standing}
use Rattle.site_session.specs.declared.reply.Reply.TheVariants.{Scanned, Faulty}
use Rattle.site_program.specs.Checks.{EndsAs, SaidBoth, verdict, verdict_status}
use Rattle.site_program.specs.Stages.{sink_seen}
use Rattle.site_program.specs.declared.status.Status.TheVariants as status
use Rattle.site_program.specs.Once.{after_scan, scanned}
use Rattle.site_program.proofs.Checking.{OfSite, OfSource, check_done, limit_steady, never_comes, failed_checked, failed_took, held_checked, held_tells, held_took, limit_checked, limit_tells, limit_took}
use Rattle.site_program.proofs.check.scan_and_check.Goals as goal

pub returns-in-Ok : goal.returns-in-Ok
returns-in-Ok g c =
    let opened : c.open-session.result ≡ start c.args.settings c.args.moment = search (c.open-session.ensures, rules) in
    let first = start c.args.settings c.args.moment in
    let fault = first_fault c.scan.new.self in
    check_done first (source_seen g.S.SourceTree.files g.S.SourceTree.failures c.args.source.now) (source_seen g.S.SourceTree.files g.S.SourceTree.failures c.scan.new.source)
    (sink_seen g.K.ByteSink.taken g.K.ByteSink.failures c.args.sink.now) (sink_seen g.K.ByteSink.taken g.K.ByteSink.failures c.check_held.new.sink) (verdict_status fault) c.check_held.result
    (λ given told.
    let tells = held_tells given c.open-session.result c.scan.new.self c.in-Ok.count (c.in-Ok.ensures.answers given 1 (Scanned c.in-Ok.count) told refl) in
    let now_is = tells.new_is ∙ ap (after_scan given) opened in
    held_checked (after_scan given first) c.check_held.result tells.none
    (subst (λ (s : Standing). EndsAs (verdict_status (first_fault s)) c.check_held.result) now_is c.check_held.ensures.ends))
    (λ given before told w.
    let tells = held_tells given c.open-session.result c.scan.new.self c.in-Ok.count (c.in-Ok.ensures.answers given 1 (Scanned c.in-Ok.count) told refl) in
    let now_is = tells.new_is ∙ ap (after_scan given) opened in
    let counted = subst (λ (n : ℕ). SaidBoth (reply_bytes false (Scanned n)) (verdict fault) (verdict_status fault) before (g.K.ByteSink.taken c.check_held.new.sink) c.check_held.result) tells.count_is (c.check_held.ensures.took before w) in
    held_took given (after_scan given first) before _ c.check_held.result tells.none
    (subst (λ (s : Standing). SaidBoth (reply_bytes false (scanned given)) (verdict (first_fault s)) (verdict_status (first_fault s)) before (g.K.ByteSink.taken c.check_held.new.sink) c.check_held.result) now_is counted))
    c.check_held.ensures.ends (OfSite fault refl) (λ _. c.in-Ok.ensures.cause.same) c.check_held.ensures.sink_fault

pub returns-in-Err-Failed : goal.returns-in-Err-Failed
returns-in-Err-Failed g c =
    let first = start c.args.settings c.args.moment in
    check_done first (source_seen g.S.SourceTree.files g.S.SourceTree.failures c.args.source.now) (source_seen g.S.SourceTree.files g.S.SourceTree.failures c.scan.new.source)
    (sink_seen g.K.ByteSink.taken g.K.ByteSink.failures c.args.sink.now) (sink_seen g.K.ByteSink.taken g.K.ByteSink.failures c.tell.new.sink) status.SourceFault c.tell.result
    (λ given told. failed_checked (after_scan given first) c.tell.result c.tell.ensures.ends)
    (λ given before told w. failed_took given (after_scan given first) before _ c.tell.result (c.tell.ensures.took before w))
    c.tell.ensures.ends (OfSource refl (c.scan.ensures.cause.failed (search rules))) (λ came. absurd (never_comes c.tell.result c.tell.ensures.ends came)) c.tell.ensures.sink_fault

pub returns-in-Err-Limit : goal.returns-in-Err-Limit
returns-in-Err-Limit g c =
    let first = start c.args.settings c.args.moment in
    let fault = c.in-Err-Limit.fault in
    check_done first (source_seen g.S.SourceTree.files g.S.SourceTree.failures c.args.source.now) (source_seen g.S.SourceTree.files g.S.SourceTree.failures c.scan.new.source)
    (sink_seen g.K.ByteSink.taken g.K.ByteSink.failures c.args.sink.now) (sink_seen g.K.ByteSink.taken g.K.ByteSink.failures c.tell-in-Err-Limit.new.sink) (verdict_status (Some fault)) c.tell-in-Err-Limit.result
    (λ given told.
    let some = limit_tells given c.open-session.result c.scan.new.self fault (c.in-Err-Limit.ensures.answers given 1 (Faulty fault) told (ap (λ e. scan_reply (Err e)) c.in-Err-Limit.field-0-is)) in
    limit_checked (after_scan given first) c.tell-in-Err-Limit.result fault some c.tell-in-Err-Limit.ensures.ends)
    (λ given before told w.
    let some = limit_tells given c.open-session.result c.scan.new.self fault (c.in-Err-Limit.ensures.answers given 1 (Faulty fault) told (ap (λ e. scan_reply (Err e)) c.in-Err-Limit.field-0-is)) in
    limit_took given (after_scan given first) before _ c.tell-in-Err-Limit.result fault some (c.tell-in-Err-Limit.ensures.took before w))
    c.tell-in-Err-Limit.ensures.ends (OfSite (Some fault) refl) (λ _. limit_steady _ fault _ _ c.in-Err-Limit.field-0-is c.in-Err-Limit.ensures.cause.others) c.tell-in-Err-Limit.ensures.sink_fault
