use Rattle.std.proofs.Common.{◌≡◌, ◌∙◌, ap, sym, subst, refl, Some, None, ℕ, [], arith}
use Rattle.std.proofs.lemmas.List.{append-nil}
use Rattle.site_script.specs.Reader.{ReaderState}
use Rattle.site_program.specs.Sessions.{SoFar}
use Rattle.site_program.specs.Stages.{stage}
use Rattle.site_program.specs.declared.status.Status.TheVariants.{InputFault}
use Rattle.site_program.proofs.Turns.{session_more, session_ends, gone_none}
use Rattle.site_program.proofs.jobs.do_lines.Goals as goal

pub lines-init : goal.lines-init
lines-init g c = record {
  can = (tt, tt);
  same = refl;
  input_later = omega arith;
  input_steady = refl;
  sink_later = omega arith;
  so_far = λ given text before why told out bytes w.
      let at = stage g.S.SourceTree.files g.S.SourceTree.failures g.O.OutTree.contents g.O.OutTree.calls g.O.OutTree.failures g.K.ByteSink.taken g.K.ByteSink.failures in
      let begun = at c.args.source.now c.args.out.now c.args.tally.now c.args.sink.now in (
        ap (λ (r : ReaderState). r.over) c.new-reader.ensures,
        record {
          lines = [];
          replies = [];
          left = text;
          going = record {
            gone = gone_none given c.args.session.now text begun.scene;
            bytes = w ∙ ap Some (sym (append-nil before));
            output = out;
          };
          unread_is = bytes;
          number_is = ap (λ (r : ReaderState). r.lines) c.new-reader.ensures;
        },
      );
}

pub returns-in-Some-turn-clause-run : goal.returns-in-Some-turn-clause-run
returns-in-Some-turn-clause-run g c = λ given text before why told out bytes w.
    let at = stage g.S.SourceTree.files g.S.SourceTree.failures g.O.OutTree.contents g.O.OutTree.calls g.O.OutTree.failures g.K.ByteSink.taken g.K.ByteSink.failures in
    let so = c.lines.invariant.so_far given text before why told out bytes w in
    let told1 = c.lines.invariant.same ∙ told in
    session_ends given c.args.session.now text before c.lines.session c.lines.reader.lines c.number.result (g.I.ByteSource.left c.lines.input) (g.I.ByteSource.left c.next_line-line.new.input)
    (at c.args.source.now c.args.out.now c.args.tally.now c.args.sink.now) (at c.lines.source c.lines.out c.lines.tally c.lines.sink) c.next_line-line.result
    so.1 (λ left is. c.next_line-line.ensures.line left so.0 is) (c.number.ensures ∙ c.next_line-line.ensures.number so.0)
    c.turn.new.session (at c.turn.new.source c.turn.new.out c.turn.new.tally c.turn.new.sink) c.in-Some-turn.status (λ b is. c.in-Some-turn.ensures.ends given b why told1 so.1.going.output is)

pub returns-in-Some-turn-clause-input_steady : goal.returns-in-Some-turn-clause-input_steady
returns-in-Some-turn-clause-input_steady g c = λ other.
    c.next_line-line.ensures.steady (λ failed. other (let same : Some c.in-Some-turn.status ≡ Some InputFault = sym c.in-Some-turn.is ∙ c.turn.ensures.failed failed in cc)) ∙ c.lines.invariant.input_steady

pub lines-preserved : goal.lines-preserved
lines-preserved g c = record {
  can = (tt, tt);
  same = c.turn.ensures.source_same ∙ c.lines.invariant.same;
  input_later = omega (arith, c.lines.invariant.input_later, c.next_line-line.ensures.later);
  input_steady = c.next_line-line.ensures.steady (λ failed. (let wrong : None ≡ Some InputFault = sym c.in-None-turn.is ∙ c.turn.ensures.failed failed in cc (wrong))) ∙ c.lines.invariant.input_steady;
  sink_later = omega (arith, c.lines.invariant.sink_later, c.turn.ensures.sink_later);
  so_far = λ given text before why told out bytes w.
      let at = stage g.S.SourceTree.files g.S.SourceTree.failures g.O.OutTree.contents g.O.OutTree.calls g.O.OutTree.failures g.K.ByteSink.taken g.K.ByteSink.failures in
      let begun = at c.args.source.now c.args.out.now c.args.tally.now c.args.sink.now in
      let last = at c.turn.new.source c.turn.new.out c.turn.new.tally c.turn.new.sink in
      let so = c.lines.invariant.so_far given text before why told out bytes w in
      let told1 = c.lines.invariant.same ∙ told in (
        c.next_line-line.ensures.over ∙ (c.in-None-turn.ensures.next given _ why told1 so.1.going.output so.1.going.bytes).goes,
        subst (λ (n : ℕ). SoFar given c.args.session.now text before c.turn.new.session n (g.I.ByteSource.left c.next_line-line.new.input) begun last) c.number.ensures
            (session_more given c.args.session.now text before c.lines.session c.lines.reader.lines c.number.result (g.I.ByteSource.left c.lines.input) (g.I.ByteSource.left c.next_line-line.new.input)
            begun (at c.lines.source c.lines.out c.lines.tally c.lines.sink) c.next_line-line.result
            so.1 (λ left is. c.next_line-line.ensures.line left so.0 is) (c.number.ensures ∙ c.next_line-line.ensures.number so.0)
            c.turn.new.session last (λ b is. c.in-None-turn.ensures.next given b why told1 so.1.going.output is) (c.turn.ensures.belief given.output so.1.going.output)),
      );
}
