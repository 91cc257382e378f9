use Rattle.std.proofs.Common.{ap, sym, ◌∙◌, length, arith}
use Rattle.front_yaml.specs.TextLines.{spaces, inside}
use Rattle.front_yaml.proofs.LineLaws.{spaces-repeated, inside-is}
use Rattle.front_yaml.proofs.text_lines.TextLine.indent.Goals as goal

pub returns-clause-value : goal.returns-clause-value
returns-clause-value c = sym (spaces-repeated c.self.inside.indent c.self.inside.rest.now c.self.invariant.0) ∙ ap (λ l. spaces l.text) c.self.view_is

pub returns-clause-small : goal.returns-clause-small
returns-clause-small c =
    let same = sym (inside-is c.self.inside.indent c.self.inside.rest.now c.self.invariant.0) ∙ ap inside c.self.view_is in
    omega (arith, c.self.invariant.1, ap length same)
