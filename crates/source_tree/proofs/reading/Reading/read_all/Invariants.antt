use Rattle.std.proofs.Common.{◌≡◌, Some}
use Rattle.site_base.specs.Places.{Files}
use Rattle.source_tree.specs.Reading.{Follows, Going}
use Rattle.source_tree.proofs.reading.Reading.read_all.Given as goal

abbrev pub invariant-loop-path : goal.invariant-loop-path
invariant-loop-path g l = record {
  same : g.S.SourceTree.files l.source ≡ g.S.SourceTree.files l.fn.source;
  failures : g.S.SourceTree.failures l.source ≡ g.S.SourceTree.failures l.fn.source;
  follows : Follows l.fn.paths.items l.path-iterator.rest.items l.reading;
  going : (files : Files) → g.S.SourceTree.files l.fn.source ≡ Some files → Going files l.path-iterator.rest.items l.reading;
}
