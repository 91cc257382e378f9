use Rattle.std.proofs.Common.{ap, refl, Err}
use Rattle.site_session.specs.Session.{Scanned, Faulty}
use Rattle.site_session.specs.Replies.{scan_reply}
use Rattle.site_session.proofs.session.Session.answer_scan.Goals as goal

pub returns-in-Ok-clause-answers : goal.returns-in-Ok-clause-answers
returns-in-Ok-clause-answers g c = λ given told. c.in-Ok.ensures.answers given c.args.number (Scanned c.in-Ok.count) told refl

pub returns-in-Err-Limit-clause-answers : goal.returns-in-Err-Limit-clause-answers
returns-in-Err-Limit-clause-answers g c = λ given told.
    c.in-Err-Limit.ensures.answers given c.args.number (Faulty c.in-Err-Limit.fault) told (ap (λ e. scan_reply (Err e)) c.in-Err-Limit.field-0-is)
