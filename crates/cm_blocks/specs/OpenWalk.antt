-- An open end as a walk shows it.
use Rattle.std.specs.Prelude.{Bool, List, None, Option, Some, [], true, ◌++◌, ◌∷◌}
use Rattle.markdown_grammar.specs.Blocks.{rules}
use Rattle.markdown_grammar.specs.Extents.{has_block}
use Rattle.markdown_grammar.specs.OpenEnds.{OpenEnd, container_open, leaf_open, none_open}
use Rattle.cm_containers.specs.declared.kinds.Container.{Container}
use Rattle.cm_blocks.specs.declared.kinds.Leaf.{Leaf}
use Rattle.cm_blocks.specs.declared.kinds.Token.{Token}
use Rattle.cm_blocks.specs.declared.kinds.Token.TheVariants.{Opens}
use Rattle.cm_blocks.specs.Flat.{Flat}
use Rattle.cm_blocks.specs.Leaves.{leaf_of}
use Rattle.cm_blocks.specs.Tokens.{container_of, tokens}

abbrev pub end_tokens : OpenEnd rules → List Token
end_tokens (none_open before) = tokens before
end_tokens (leaf_open before s) = tokens before
end_tokens (container_open before k inner) = tokens before ++ Opens (container_of k) ∷ end_tokens inner

abbrev pub end_stack : OpenEnd rules → List Container
end_stack (none_open before) = []
end_stack (leaf_open before s) = []
end_stack (container_open before k inner) = container_of k ∷ end_stack inner

abbrev pub end_leaf : OpenEnd rules → Option Leaf
end_leaf (none_open before) = None
end_leaf (leaf_open before s) = Some (leaf_of s)
end_leaf (container_open before k inner) = end_leaf inner

abbrev pub end_filled : OpenEnd rules → Bool
end_filled (none_open before) = has_block before
end_filled (leaf_open before s) = true
end_filled (container_open before k inner) = end_filled inner

abbrev pub flat_of : OpenEnd rules → Flat
flat_of end = record { tokens = end_tokens end; stack = end_stack end; leaf = end_leaf end; filled = end_filled end }
