use Rattle.std.proofs.Common.{◌≡◌, drop}
use Rattle.site_base.specs.View.{pairs_of}
use Rattle.site_items.specs.Defaults.{set_all}
use Rattle.site_items.proofs.defaults.set_shares.Given as goal

abbrev pub invariant-loop-pair : goal.invariant-loop-pair
invariant-loop-pair l = set_all (pairs_of (drop l.pair-index l.pair-items)) l.under ≡ set_all (pairs_of l.pair-items) l.initial.under
