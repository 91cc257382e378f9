use Rattle.std.proofs.Common.{◌≡◌}
use Rattle.link_check.proofs.TableLaws.{unoffered_up_to}
use Rattle.link_check.proofs.page.unoffer.Given as goal

abbrev pub invariant-loop-place : goal.invariant-loop-place
invariant-loop-place l = l.pages.items ≡ unoffered_up_to l.place l.fn.pages.items
