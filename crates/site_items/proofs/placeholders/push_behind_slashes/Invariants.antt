use Rattle.std.proofs.Common.{◌≡◌, ◌++◌, drop}
use Rattle.site_base.specs.Plain.{key_list}
use Rattle.site_base.specs.View.{pairs_of}
use Rattle.site_items.specs.Addresses.{behind_slash}
use Rattle.site_items.proofs.placeholders.push_behind_slashes.Given as goal

abbrev pub invariant-loop-pair : goal.invariant-loop-pair
invariant-loop-pair l = l.text ++ behind_slash (key_list (pairs_of (drop l.pair-index l.names))) ≡ l.initial.text ++ behind_slash (key_list (pairs_of l.names))
