-- Nodes made of tokens from the last to the first, with what is known of the blocks that follow at each open level.
use Rattle.std.specs.Prelude.{Bool, List, None, Option, Some, [], false, if◌then◌else◌, length, not, reverse, true, ℕ, ◌&&◌, ◌++◌, ◌-◌, ◌==◌, ◌||◌, ◌∷◌}
use Rattle.markdown_grammar.specs.Definitions.{Definition, after_definitions, definitions}
use Rattle.markdown_grammar.specs.Fronts.{is_empty}
use Rattle.markdown_grammar.specs.Lines.{trim}
use Rattle.cm_blocks.specs.LineTexts.{unended}
use Rattle.cm_containers.specs.declared.kinds.Container.{Container}
use Rattle.cm_containers.specs.declared.kinds.Container.TheVariants.{Item, Quote}
use Rattle.cm_blocks.specs.declared.kinds.Leaf.{Leaf}
use Rattle.cm_blocks.specs.declared.kinds.Leaf.TheVariants.{Break, Fenced, Heading, Html, Indented, Paragraph, Underlined}
use Rattle.cm_blocks.specs.declared.kinds.Token.{Token}
use Rattle.cm_blocks.specs.declared.kinds.Token.TheVariants.{Blank, Closes, Holds, Opens}
use Rattle.cm_blocks.specs.declared.level.Level.{Level}
use Rattle.cm_blocks.specs.declared.node.Node.{Node}
use Rattle.cm_blocks.specs.declared.node.Node.TheVariants as node

-- the text of a paragraph behind its definitions
abbrev pub prose_of : List ℕ → List ℕ
prose_of text = trim (after_definitions (unended text))

-- the node of a leaf, or none
abbrev pub nodes_in : Leaf → List Node
nodes_in (Paragraph text) = if is_empty (prose_of text) then [] else node.Paragraph (prose_of text) ∷ []
nodes_in (Underlined level text) = node.Heading level (prose_of text) ∷ []
nodes_in (Heading level text) = node.Heading level text ∷ []
nodes_in Break = node.Break ∷ []
nodes_in (Indented text pending) = node.Code [] text ∷ []
nodes_in (Fenced i mark len info text is_closed) = node.Code info text ∷ []
nodes_in (Html kind text is_closed) = node.Html text ∷ []

-- blank lines that a leaf has read, and which are none of its own
abbrev pub reads_blank : Leaf → Bool
reads_blank (Indented text pending) = not (is_empty pending)
reads_blank _ = false

-- the definitions of a paragraph, or of one that is a heading
abbrev pub links_with : Leaf → List Definition
links_with (Paragraph text) = definitions (unended text)
links_with (Underlined level text) = definitions (unended text)
links_with _ = []

abbrev pub token_links : Token → List Definition
token_links (Holds s) = links_with s
token_links _ = []

abbrev pub links_in : List Token → List Definition
links_in [] = []
links_in (t ∷ ts) = token_links t ++ links_in ts

-- ---- levels

-- nothing follows; `start` nodes were made before
abbrev pub fresh : ℕ → Level
fresh start = record {
  start = start;
  is_empty = true;
  is_blank = false;
  ends_blank = false;
  starts_blank = false;
  has_block = false;
  is_apart = false;
  next = None;
  number = 0;
  is_loose = false;
  list_start = 0;
}

abbrev pub blank_level : Level → Level
blank_level l = record {
  start = l.start;
  is_empty = false;
  is_blank = l.is_empty;
  ends_blank = l.is_empty || l.ends_blank;
  starts_blank = true;
  has_block = l.has_block;
  is_apart = l.is_apart;
  next = l.next;
  number = l.number;
  is_loose = l.is_loose;
  list_start = l.list_start;
}

-- a leaf, or a quote
abbrev pub leaf_level : Bool → Level → Level
leaf_level blank l = record {
  start = l.start;
  is_empty = false;
  is_blank = false;
  ends_blank = if l.is_empty then blank else l.ends_blank;
  starts_blank = false;
  has_block = true;
  is_apart = ((blank || l.starts_blank) && l.has_block) || l.is_apart;
  next = None;
  number = 0;
  is_loose = false;
  list_start = 0;
}

-- an item of a kind comes next
abbrev pub is_next : ℕ → Option ℕ → Bool
is_next kind None = false
is_next kind (Some k) = k == kind

-- the last line of an item is blank, where it is more than its mark's line
abbrev pub is_open_blank : Level → Bool
is_open_blank body = not body.is_blank && body.ends_blank

-- a list is loose from an item on
abbrev pub loose_from : ℕ → Level → Level → Bool
loose_from kind body l = (body.is_apart || (is_next kind l.next && (is_open_blank body || l.starts_blank))) || (is_next kind l.next && l.is_loose)

abbrev pub item_level : (kind number : ℕ) → Level → Level → Level
item_level kind number body l = record {
  start = l.start;
  is_empty = false;
  is_blank = false;
  ends_blank = if l.is_empty then is_open_blank body else l.ends_blank;
  starts_blank = false;
  has_block = true;
  is_apart = (not (is_next kind l.next) && ((is_open_blank body || l.starts_blank) && l.has_block)) || l.is_apart;
  next = Some kind;
  number = number;
  is_loose = loose_from kind body l;
  list_start = if is_next kind l.next then l.list_start else body.start;
}

abbrev pub container_level : Container → Level → Level → Level
container_level Quote body l = leaf_level false l
container_level (Item content mark number) body l = item_level mark number body l

abbrev pub container_node : Container → ℕ → Node
container_node Quote len = node.Quote len
container_node (Item content mark number) len = node.Item len

-- the list that comes next, where one does, behind its nodes
abbrev pub list_nodes : Level → ℕ → List Node
list_nodes l count = elim l.next [ None ↦ [] | Some kind ↦ node.List kind l.number l.is_loose (count - l.list_start) ∷ [] ]

abbrev pub listed : Level → List Node → List Node
listed l ns = ns ++ list_nodes l (length ns)

-- the same where the list is whole
abbrev pub unlisted : Level → Level
unlisted l = record {
  start = l.start;
  is_empty = l.is_empty;
  is_blank = l.is_blank;
  ends_blank = l.ends_blank;
  starts_blank = l.starts_blank;
  has_block = l.has_block;
  is_apart = l.is_apart;
  next = None;
  number = l.number;
  is_loose = false;
  list_start = l.list_start;
}

-- a container is an item of the list that comes next
abbrev pub goes_with : Container → Level → Bool
goes_with Quote l = false
goes_with (Item content mark number) l = is_next mark l.next

-- ---- the nodes so far, the last first, the levels that are open, and the innermost

pub record Made : Type 0 where
  pub nodes : List Node
  pub outer : List Level
  pub level : Level

-- at the start of a container
abbrev pub box_made : Container → Made → List Level → Made
box_made k m [] = m
box_made k m (l ∷ ls) = record {
  nodes = listed m.level m.nodes ++ container_node k (length (listed m.level m.nodes) - m.level.start) ∷ [];
  outer = ls;
  level = container_level k m.level l;
}

-- at the end of a container, by whether it is an item of the list that comes next
abbrev pub box_ended : Made → Bool → Made
box_ended m true = record { nodes = m.nodes; outer = m.level ∷ m.outer; level = fresh (length m.nodes) }
box_ended m false = record { nodes = listed m.level m.nodes; outer = unlisted m.level ∷ m.outer; level = fresh (length (listed m.level m.nodes)) }

-- one token more in front
abbrev pub token_made : Token → Made → Made
token_made Blank m = record { nodes = m.nodes; outer = m.outer; level = blank_level m.level }
token_made (Holds s) m = record { nodes = listed m.level m.nodes ++ nodes_in s; outer = m.outer; level = leaf_level (reads_blank s) m.level }
token_made (Closes k) m = box_ended m (goes_with k m.level)
token_made (Opens k) m = box_made k m m.outer

-- tokens in front, the last first
abbrev pub all_made : List Token → Made → Made
all_made [] m = m
all_made (t ∷ ts) m = token_made t (all_made ts m)

abbrev pub made_start : Made
made_start = record { nodes = []; outer = []; level = fresh 0 }

-- all nodes, in order
abbrev pub made_nodes : Made → List Node
made_nodes m = reverse (listed m.level m.nodes)
