use Rattle.std.proofs.Common.{◌≡◌, ◌++◌, take}
use Rattle.link_check.specs.Answered.{broken_links}
use Rattle.link_check.specs.Links.{links}
use Rattle.link_check.specs.Notes.{AreRight}
use Rattle.link_check.proofs.notes.push_page.Given as goal

abbrev pub invariant-loop-number : goal.invariant-loop-number
invariant-loop-number g l = record {
  list : l.list ≡ l.fn.list ++ broken_links (g.P.Paths.paths l.paths) l.entry.0 l.base (take l.number-index (links l.entry.1.bytes));
  right : AreRight (g.P.Paths.paths l.paths) l.base l.values l.notes.items;
}
