use Rattle.std.proofs.Common.{◌≡◌, length}
use Rattle.site_config.specs.Forms.{holds_number}
use Rattle.site_config.proofs.forms.holds_number.Given as goal

abbrev pub invariant-loop-rest : goal.invariant-loop-rest
invariant-loop-rest l = holds_number l.rest ≡ holds_number l.initial.rest

abbrev pub decreases-loop-rest : goal.decreases-loop-rest
decreases-loop-rest l = length l.rest
