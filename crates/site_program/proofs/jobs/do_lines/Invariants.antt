use Rattle.std.proofs.Common.{◌≡◌, ◌≤◌, List, ℕ, Some, false}
use Rattle.site_session.specs.Standing.{Holds}
use Rattle.site_session.specs.Session.{Given}
use Rattle.site_program.specs.Sessions.{SoFar}
use Rattle.site_program.specs.Stages.{stage}
use Rattle.site_program.proofs.jobs.do_lines.Given as goal

abbrev pub invariant-lines : goal.invariant-lines
invariant-lines g l = record {
  can : (goal.iterator-lines g).can_next l.iterator' × (goal.iterator-lines g).is_finite l.iterator';
  same : g.S.SourceTree.files l.source ≡ g.S.SourceTree.files l.fn.source;
  input_later : g.I.ByteSource.failures l.fn.input ≤ g.I.ByteSource.failures l.input;
  input_steady : g.I.ByteSource.failures l.input ≡ g.I.ByteSource.failures l.fn.input;
  sink_later : g.K.ByteSink.failures l.fn.sink ≤ g.K.ByteSink.failures l.sink;
  so_far : (given : Given) (text before : List ℕ) → given.why ≡ l.why → g.S.SourceTree.files l.fn.source ≡ Some given.source → Holds (g.O.OutTree.contents l.fn.out) l.fn.session.belief given.output →
      g.I.ByteSource.left l.fn.input ≡ Some text → g.K.ByteSink.taken l.fn.sink ≡ Some before →
      let at = stage g.S.SourceTree.files g.S.SourceTree.failures g.O.OutTree.contents g.O.OutTree.calls g.O.OutTree.failures g.K.ByteSink.taken g.K.ByteSink.failures in
      (l.reader.over ≡ false) × SoFar given l.fn.session text before l.session l.reader.lines (g.I.ByteSource.left l.input) (at l.fn.source l.fn.out l.fn.tally l.fn.sink) (at l.source l.out l.tally l.sink);
}
