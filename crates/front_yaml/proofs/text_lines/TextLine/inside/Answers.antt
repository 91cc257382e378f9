use Rattle.std.proofs.Common.{ap, sym, ◌∙◌}
use Rattle.front_yaml.specs.TextLines.{inside}
use Rattle.front_yaml.proofs.LineLaws.{inside-is}
use Rattle.front_yaml.proofs.text_lines.TextLine.inside.Goals as goal

pub returns : goal.returns
returns c = sym (inside-is c.self.inside.indent c.self.inside.rest.now c.self.invariant.0) ∙ ap inside c.self.view_is
