use Rattle.std.proofs.Common.{◌∙◌, ◌++◌, ap, subst, sym, Option, Some}
use Rattle.std.specs.Option.{IfNone, IfSome}
use Rattle.site_session.specs.Bytes.{reply_bytes}
use Rattle.site_program.specs.Sessions.{GoesOn, EndsAt, EndsSession}
use Rattle.site_program.specs.Stages.{stage}
use Rattle.site_program.specs.declared.status.Status.{Status}
use Rattle.site_program.proofs.Turns.{turned, halts, bad_ends, stopped_as}
use Rattle.site_program.proofs.jobs.turn.Goals as goal

pub returns-in-Ok-clause-next : goal.returns-in-Ok-clause-next
returns-in-Ok-clause-next g c = λ given before why told h w.
    let at = stage g.S.SourceTree.files g.S.SourceTree.failures g.O.OutTree.contents g.O.OutTree.calls g.O.OutTree.failures g.K.ByteSink.taken g.K.ByteSink.failures in
    let was = at c.args.source.now c.args.out.now c.args.tally.now c.args.sink.now in
    let now = at c.do_line.new.source c.do_line.new.out c.do_line.new.tally c.do_line.new.sink in
    subst (λ (r : Option Status). IfNone r (GoesOn given c.args.session.now c.args.number c.args.line before c.do_line.new.session was now)) (sym c.bad_status.ensures)
    (turned given c.args.session.now c.args.number c.args.line before c.do_line.new.session was now c.in-Ok.reply c.in_default.not-End c.in_default.not-Eof (c.in_default.not-Failed, c.in_default.not-Memory)
    (c.in-Ok.ensures.answers given told h) (c.in-Ok.ensures.bytes before w ∙ ap (λ b. Some (before ++ reply_bytes b c.in-Ok.reply)) (sym why)) (c.do_line.ensures.belief given.output h) c.in-Ok.ensures.leaves).next

pub returns-in-Ok-clause-ends : goal.returns-in-Ok-clause-ends
returns-in-Ok-clause-ends g c = λ given before why told h w.
    let at = stage g.S.SourceTree.files g.S.SourceTree.failures g.O.OutTree.contents g.O.OutTree.calls g.O.OutTree.failures g.K.ByteSink.taken g.K.ByteSink.failures in
    let was = at c.args.source.now c.args.out.now c.args.tally.now c.args.sink.now in
    let now = at c.do_line.new.source c.do_line.new.out c.do_line.new.tally c.do_line.new.sink in
    subst (λ (r : Option Status). IfSome r (λ s. EndsAt given c.args.session.now c.args.number c.args.line before c.do_line.new.session was now s)) (sym c.bad_status.ensures)
    (turned given c.args.session.now c.args.number c.args.line before c.do_line.new.session was now c.in-Ok.reply c.in_default.not-End c.in_default.not-Eof (c.in_default.not-Failed, c.in_default.not-Memory)
    (c.in-Ok.ensures.answers given told h) (c.in-Ok.ensures.bytes before w ∙ ap (λ b. Some (before ++ reply_bytes b c.in-Ok.reply)) (sym why)) (c.do_line.ensures.belief given.output h) c.in-Ok.ensures.leaves).ends_at

pub returns-in-Ok-clause-status : goal.returns-in-Ok-clause-status
returns-in-Ok-clause-status g c = subst (λ (r : Option Status). IfSome r EndsSession) (sym c.bad_status.ensures) (bad_ends c.in-Ok.reply)

pub returns-in-Err-clause-ends : goal.returns-in-Err-clause-ends
returns-in-Err-clause-ends g c = λ given before why told h w.
    let at = stage g.S.SourceTree.files g.S.SourceTree.failures g.O.OutTree.contents g.O.OutTree.calls g.O.OutTree.failures g.K.ByteSink.taken g.K.ByteSink.failures in
    let was = at c.args.source.now c.args.out.now c.args.tally.now c.args.sink.now in
    let now = at c.do_line.new.source c.do_line.new.out c.do_line.new.tally c.do_line.new.sink in
    let s = c.in-Err.ensures.stopped given before why told h w in
    halts given c.args.session.now c.args.number c.args.line before s.0 c.do_line.new.session was now c.status.result (c.in_default.not-Failed, c.in_default.not-Memory) (stopped_as c.status.ensures.short s.1) s.2
    (record { cases = c.status.ensures.cases; memory = λ e. s.3 (c.status.ensures.memory e) })
