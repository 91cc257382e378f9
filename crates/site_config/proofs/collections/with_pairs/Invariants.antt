use Rattle.std.proofs.Common.{◌≡◌, drop}
use Rattle.std.specs.Prelude.{fold}
use Rattle.site_base.specs.Plain.{hash}
use Rattle.site_base.specs.View.{pairs_of}
use Rattle.site_config.specs.Config.{add, named}
use Rattle.site_config.specs.Seen.{HasNames}
use Rattle.site_config.proofs.collections.with_pairs.Given as goal

abbrev pub invariant-loop-pair : goal.invariant-loop-pair
invariant-loop-pair l = record { told : fold add l.made (named (hash (pairs_of (drop l.pair-index l.pair-items)))) ≡ fold add l.initial.made (named (hash (pairs_of l.pair-items))); seen : HasNames l.seen l.made }
