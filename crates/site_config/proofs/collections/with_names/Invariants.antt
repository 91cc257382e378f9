use Rattle.std.proofs.Common.{◌≡◌, drop}
use Rattle.std.specs.Prelude.{fold}
use Rattle.site_base.specs.Plain.{list}
use Rattle.site_base.specs.View.{items_of}
use Rattle.site_config.specs.Config.{add, named}
use Rattle.site_config.specs.Seen.{HasNames}
use Rattle.site_config.proofs.collections.with_names.Given as goal

abbrev pub invariant-loop-name : goal.invariant-loop-name
invariant-loop-name l = record { told : fold add l.made (named (list (items_of (drop l.name-index l.name-items)))) ≡ fold add l.initial.made (named (list (items_of l.name-items))); seen : HasNames l.seen l.made }
