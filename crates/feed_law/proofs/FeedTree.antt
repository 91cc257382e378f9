-- The tree of the feed's template.
use Rattle.std.proofs.Common.{refl}
use Rattle.site_base.specs.Recursion.{down}
use Rattle.liquid_grammar.specs.Expressions.{operand_in, operand, expression}
use Rattle.liquid_grammar.specs.Items.{tag_item, tag_words}
use Rattle.liquid_grammar.specs.Pieces.{cut_from}
use Rattle.liquid_grammar.specs.Readings.{many_after}
use Rattle.liquid_grammar.specs.Tags.{loop_at, name_len}
use Rattle.liquid_grammar.specs.Tokens.{tokens_after}
use Rattle.feed_law.specs.FeedLaws.{TreeLaw}

-- by computation
pub feed_tree : TreeLaw
unfolding cut_from down tokens_after many_after operand operand_in expression loop_at name_len tag_item tag_words
feed_tree = refl
