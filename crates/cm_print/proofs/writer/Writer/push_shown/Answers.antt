use Rattle.std.proofs.Common.{List, subst, ℕ}
use Rattle.cm_print.specs.InlineTokens.{outside}
use Rattle.cm_print.specs.Writing.{Prints}
use Rattle.cm_print.proofs.WordLaws.{text_or_words}
use Rattle.cm_print.proofs.writer.Writer.push_shown.Goals as goal

pub returns-in-Text : goal.returns-in-Text
returns-in-Text c =
    subst (λ (t : List ℕ). Prints c.args.self.now c.push_text.new.self t c.push_text.result) (text_or_words outside c.args.node.now c.in-Text.text c.in-Text.is) c.push_text.ensures
