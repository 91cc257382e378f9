use Rattle.std.proofs.Common.{◌≡◌, drop}
use Rattle.site_base.specs.View.{pairs_of}
use Rattle.page_render.specs.Layouts.{over}
use Rattle.page_render.proofs.around.put_over.Given as goal

abbrev pub invariant-loop-pair : goal.invariant-loop-pair
invariant-loop-pair l = over (pairs_of (drop l.pair-index l.pair-items)) l.under ≡ over (pairs_of l.pair-items) l.initial.under
