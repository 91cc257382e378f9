use Rattle.std.proofs.Common.{List, subst, ℕ}
use Rattle.std.specs.Option.{option_map}
use Rattle.cm_print.specs.InlineTokens.{described}
use Rattle.cm_print.specs.Writing.{Prints}
use Rattle.cm_print.proofs.WordLaws.{text_or_words}
use Rattle.cm_print.proofs.writer.Writer.push_described.Goals as goal

pub returns-in-Text : goal.returns-in-Text
returns-in-Text c =
    subst (λ (t : List ℕ). Prints c.args.self.now c.push_text-in-Text.new.self t c.push_text-in-Text.result)
    (text_or_words (described (option_map (λ t. t.now) c.args.title) c.args.images) c.args.node.now c.in-Text.text c.in-Text.is) c.push_text-in-Text.ensures
