use Rattle.std.proofs.Common.{◌≡◌, ◌==◌, drop}
use Rattle.site_text.specs.Fronts.{has_one}
use Rattle.cm_starts.proofs.texts.has_byte.Given as goal

abbrev pub invariant-loop-b : goal.invariant-loop-b
invariant-loop-b l = has_one (λ d. d == l.c) (drop l.b-index l.b-items) ≡ has_one (λ d. d == l.c) l.b-items
