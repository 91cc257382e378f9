use Rattle.std.proofs.Common.{sym, subst, ◌≤◌, length, drop}
use Rattle.std.specs.Str.{IsUtf8}
use Rattle.site_base.proofs.text.FileEnd.share.Goals as goal

pub invariant_of-result : goal.invariant_of-result
invariant_of-result c = subst (λ file. (c.self.inside.start ≤ length file) × ∥ IsUtf8 (drop c.self.inside.start file) ∥₁) (sym c.in_ok-share.ensures) c.self.invariant
