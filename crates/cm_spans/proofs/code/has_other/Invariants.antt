use Rattle.std.proofs.Common.{◌≡◌, drop, not}
use Rattle.site_text.specs.Fronts.{has_one}
use Rattle.cm_spans.specs.Code.{is_blank}
use Rattle.cm_spans.proofs.code.has_other.Given as goal

abbrev pub invariant-loop-c : goal.invariant-loop-c
invariant-loop-c l = has_one (λ c. not (is_blank c)) (drop l.c-index l.text) ≡ has_one (λ c. not (is_blank c)) l.text
