use Rattle.std.proofs.Common.{◌≡◌, ap, subst, rules}
use Rattle.site_session.specs.Standing.{Standing}
use Rattle.site_session.specs.Session.{start}
use Rattle.site_program.specs.Sessions.{SessionRun}
use Rattle.site_program.specs.Stages.{input_seen, stage}
use Rattle.site_program.proofs.Onces.{holds_first}
use Rattle.site_program.proofs.Turns.{one_session}
use Rattle.site_program.proofs.jobs.run_session.Goals as goal

pub returns : goal.returns
returns g c =
    let opened : c.open-session.result ≡ start c.args.options.settings c.args.moment = search (c.open-session.ensures, rules) in
    let at = stage g.S.SourceTree.files g.S.SourceTree.failures g.O.OutTree.contents g.O.OutTree.calls g.O.OutTree.failures g.K.ByteSink.taken g.K.ByteSink.failures in
    let read = input_seen g.I.ByteSource.left g.I.ByteSource.failures in
    let was = at c.args.source.now c.args.out.now c.args.tally.now c.args.sink.now in
    let now = at c.do_lines.new.source c.do_lines.new.out c.do_lines.new.tally c.do_lines.new.sink in
    one_session (start c.args.options.settings c.args.moment) c.args.options.why was now (read c.args.input.now) (read c.do_lines.new.input) c.do_lines.result
    (λ given text before why told out bytes w.
    subst (λ (s : Standing). SessionRun given s text before (g.I.ByteSource.left c.do_lines.new.input) was now c.do_lines.result) opened
    (c.do_lines.ensures.run given text before why told (holds_first c.open-session.result _ given.output (ap (λ (s : Standing). s.belief) opened) out) bytes w))
    c.do_lines.ensures.status c.do_lines.ensures.input_fault c.do_lines.ensures.input_steady c.do_lines.ensures.sink_fault
