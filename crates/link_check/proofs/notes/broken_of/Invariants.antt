use Rattle.std.proofs.Common.{◌≡◌, take}
use Rattle.link_check.specs.Notes.{AreRight, broken_of}
use Rattle.link_check.proofs.notes.broken_of.Given as goal

abbrev pub invariant-loop-entry : goal.invariant-loop-entry
invariant-loop-entry g l = record {
  list : l.list ≡ broken_of (g.P.Paths.paths l.paths) l.base (take l.entry-index l.pages);
  right : AreRight (g.P.Paths.paths l.paths) l.base l.values l.notes.items;
}
