use Rattle.std.specs.Prelude.{codes}
use Rattle.markdown_grammar.specs.Escaping.{escaped}
use Rattle.cm_print.proofs.Sequences.{prints_third}
use Rattle.cm_print.proofs.writer.Writer.push_given_class.Goals as goal

pub returns : goal.returns
returns c =
    prints_third c.args.self.now c.push.new.self c.push_text.new.self c.push-2.new.self (codes " class=\"language-") (escaped c.args.language.now) (codes "\"") c.push-2.result
    c.in_ok-push.ensures c.in_ok-push_text.ensures c.push-2.ensures
