use Rattle.std.proofs.Common.{◌≡◌, ◌++◌, drop}
use Rattle.site_base.specs.View.{items_of}
use Rattle.site_config.specs.Config.{texts_in}
use Rattle.site_config.proofs.names.with_texts.Given as goal

abbrev pub invariant-loop-value : goal.invariant-loop-value
invariant-loop-value l = l.names ++ texts_in (items_of (drop l.value-index l.value-items)) ≡ l.initial.names ++ texts_in (items_of l.value-items)
