-- What a lazy line does to the open end: CommonMark 0.31.2, section 5.1.
use Rattle.std.specs.Prelude.{List, [], ℕ, ◌++◌, ◌∷◌}
use Rattle.markdown_grammar.specs.Blocks.{rules}
use Rattle.markdown_grammar.specs.Leaves.{paragraph}
use Rattle.markdown_grammar.specs.OpenEnds.{OpenEnd, container_open, leaf_open, none_open}

-- the open end whose paragraph has one more text
abbrev pub with_text : List ℕ → OpenEnd rules → OpenEnd rules
with_text u (none_open before) = none_open before
with_text u (leaf_open before (paragraph texts)) = leaf_open before (paragraph (texts ++ u ∷ []))
with_text u (leaf_open before s) = leaf_open before s
with_text u (container_open before k inner) = container_open before k (with_text u inner)
