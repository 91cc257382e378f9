use Rattle.std.proofs.Common.{◌≡◌, ◌++◌, take}
use Rattle.link_check.specs.Answered.{broken_links}
use Rattle.link_check.proofs.answering.push_broken.Given as goal

abbrev pub invariant-loop-link : goal.invariant-loop-link
invariant-loop-link g l = l.list ≡ l.fn.list ++ broken_links (g.P.Paths.paths l.paths) l.from l.base (take l.link-index l.links)
