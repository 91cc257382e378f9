-- What the nodes of inlines print.
use Rattle.std.specs.Prelude.{ℕ, List, [], ◌∷◌}
use Rattle.std.specs.Option.{option_map}
use Rattle.cm_inlines.specs.Cells.{plain_tokens}
use Rattle.cm_inlines.specs.Nodes.{cells_at}
use Rattle.cm_inlines.specs.Tokens.{Token}
use Rattle.cm_inlines.specs.declared.node.Node.{Node}
use Rattle.cm_print.specs.InlineTokens as token
use Rattle.cm_print.specs.InlineTokens.{place_after, printed}
use Rattle.cm_print.specs.declared.inline_place.Place.{Place}
use Rattle.cm_print.specs.declared.inline_place.Place.TheVariants as the

abbrev pub place_of : Place → token.Place
place_of the.Outside = token.outside
place_of (the.Described title images) = token.described (option_map (λ t. t.now) title) images

abbrev pub place_behind : token.Place → List Token → token.Place
place_behind place [] = place
place_behind place (t ∷ ts) = place_behind (place_after place t) ts

abbrev pub node_tokens : Node → List Token
node_tokens n = plain_tokens (cells_at [] n)

abbrev pub node_text : token.Place → Node → List ℕ
node_text place n = printed place (node_tokens n)

abbrev pub place_behind_node : token.Place → Node → token.Place
place_behind_node place n = place_behind place (node_tokens n)

-- in how many images of a description the place is
abbrev pub images_in : Place → ℕ
images_in the.Outside = 0
images_in (the.Described title images) = images
