use Rattle.std.proofs.Common.{◌∙◌, ap, inl, sym}
use Rattle.std.specs.FinMap.{empty}
use Rattle.site_session.specs.declared.reply.Reply.{Reply}
use Rattle.site_session.specs.Standing.{Standing}
use Rattle.site_program.proofs.Making.{told, told_said, stopped_said}
use Rattle.site_program.proofs.make.tell_build.Goals as goal

pub returns-in_default-clause-belief : goal.returns-in_default-clause-belief
returns-in_default-clause-belief g c = c.rebuild_serial.ensures.belief empty c.requires

pub returns-in-Ok-clause-belief : goal.returns-in-Ok-clause-belief
returns-in-Ok-clause-belief g c = c.rebuild_serial.ensures.belief empty c.requires

pub returns-clause-belief : goal.returns-clause-belief
returns-clause-belief g c = c.rebuild_serial.ensures.belief empty c.requires

pub returns-in-Ok-clause-ends : goal.returns-in-Ok-clause-ends
returns-in-Ok-clause-ends g c =
    let t = told _ _ _ _ _ _ _ _ _ _ c.rebuild_serial.result c.in-Some.reply c.rebuild_serial.ensures c.requires c.in-Some.ensures.0 c.in-Some.ensures.1 in
    inl (c.status_of.ensures ∙ t.ends)

pub returns-in-Ok-clause-new : goal.returns-in-Ok-clause-new
returns-in-Ok-clause-new g c = λ done.
    let t = told _ _ _ _ _ _ _ _ _ _ c.rebuild_serial.result c.in-Some.reply c.rebuild_serial.ensures c.requires c.in-Some.ensures.0 c.in-Some.ensures.1 in
    sym (ap (λ (p : Standing × Reply). p.0) t.built_is)

pub returns-in-Ok-clause-took : goal.returns-in-Ok-clause-took
returns-in-Ok-clause-took g c = λ before w.
    let t = told _ _ _ _ _ _ _ _ _ _ c.rebuild_serial.result c.in-Some.reply c.rebuild_serial.ensures c.requires c.in-Some.ensures.0 c.in-Some.ensures.1 in
    told_said c.args.session.now c.rebuild_serial.new.self c.in-Some.reply before _ c.status_of.result t c.status_of.ensures (c.in-Ok.ensures.ok before w)

pub returns-clause-took : goal.returns-clause-took
returns-clause-took g c = λ before w.
    let t = told _ _ _ _ _ _ _ _ _ _ c.rebuild_serial.result c.in-Some.reply c.rebuild_serial.ensures c.requires c.in-Some.ensures.0 c.in-Some.ensures.1 in
    let p = c.in-Err.ensures.err before w in
    stopped_said c.args.session.now c.rebuild_serial.new.self c.in-Some.reply before _ c.status.result p.0 t p.1 c.status.ensures.cases (λ e. p.2 (c.status.ensures.memory e))
