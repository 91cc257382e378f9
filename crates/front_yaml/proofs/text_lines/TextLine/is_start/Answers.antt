use Rattle.std.proofs.Common.{sym, ap, ◌∙◌, drop}
use Rattle.front_yaml.specs.Yaml.{is_start_text}
use Rattle.front_yaml.proofs.LineLaws.{no_start}
use Rattle.front_yaml.proofs.text_lines.TextLine.is_start.Goals as goal

pub returns-then-indent-ne0 : goal.returns-then-indent-ne0
returns-then-indent-ne0 c = sym (no_start c.args.self.now.text (λ z. c.if-indent-ne0.true (c.indent.ensures.value ∙ z)))

pub returns : goal.returns
returns c = c.is_start_text.ensures ∙ ap is_start_text (c.inside.ensures ∙ ap (λ n. drop n c.args.self.now.text) (sym c.indent.ensures.value ∙ c.if-indent-ne0.false))
