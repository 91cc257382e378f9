use Rattle.std.proofs.Common.{◌∙◌, ap, arith, sym}
use Rattle.std.specs.FinMap.{remove}
use Rattle.std.specs.Option.{option_copied}
use Rattle.site_base.specs.PathMap.{as_map}
use Rattle.site_base.specs.Places.{Files}
use Rattle.source_tree.specs.Limits.{length_or_zero, site_bytes}
use Rattle.source_tree.proofs.Sums.{length_at-le, site_bytes-remove}
use Rattle.source_tree.proofs.held.Held.total_besides.Goals as goal

pub overflow_sub-result : goal.overflow_sub-result
overflow_sub-result c =
    let there = ap length_or_zero (sym c.get.ensures ∙ ap option_copied c.in-Some.is) in
    omega (arith, there, c.len.ensures, c.self.invariant.0, length_at-le (as_map c.self.inside.files) c.args.path.now)

pub returns-in-Some-clause-is : goal.returns-in-Some-clause-is
returns-in-Some-clause-is c =
    let there = ap length_or_zero (sym c.get.ensures ∙ ap option_copied c.in-Some.is) in
    omega (arith, there, c.len.ensures, c.self.invariant.0, site_bytes-remove (as_map c.self.inside.files) c.args.path.now)
    ∙ ap (λ (m : Files). site_bytes (remove m c.args.path.now)) c.self.view_is

pub returns-in-None-clause-is : goal.returns-in-None-clause-is
returns-in-None-clause-is c =
    let none = ap length_or_zero (sym c.get.ensures ∙ ap option_copied c.in-None.is) in
    omega (arith, none, c.self.invariant.0, site_bytes-remove (as_map c.self.inside.files) c.args.path.now)
    ∙ ap (λ (m : Files). site_bytes (remove m c.args.path.now)) c.self.view_is
