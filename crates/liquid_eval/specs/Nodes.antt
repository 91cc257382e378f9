-- The evaluation of a template: its nodes one after another, its blocks up to a hundred deep, and a text in the end. After the reference of Liquid 4 (Shopify), "Tags".
use Rattle.std.specs.Prelude.{ℕ, zero, suc, List}
use Rattle.site_base.specs.declared.faults.FaultKind.TheVariants.{Nesting}
use Rattle.site_base.specs.declared.faults.SiteFault.{SiteFault}
use Rattle.read_record.specs.Queries.{Query, Give, bind}
use Rattle.liquid_grammar.specs.declared.item.Leaf.{Leaf}
use Rattle.liquid_grammar.specs.declared.item.Leaf.TheVariants as leaves
use Rattle.liquid_grammar.specs.declared.item.Block.{Block}
use Rattle.liquid_grammar.specs.declared.item.Block.TheVariants as blocks
use Rattle.liquid_grammar.specs.Trees.{Tree, done, leaf, block, part}
use Rattle.liquid_eval.specs.declared.signal.Signal.TheVariants.{Next, Break, Continue}
use Rattle.liquid_values.specs.Places.{Place, Manner, of_body, of_excerpt, of_layout, at_line, silenced, fails}
use Rattle.liquid_values.specs.Names.{Excerpting, given, own_excerpt}
use Rattle.liquid_eval.specs.Excerpts.{excerpt}
use Rattle.liquid_tags.specs.declared.state.State.{State}
use Rattle.liquid_tags.specs.States.{nothing_yet, text_written}
use Rattle.liquid_tags.specs.Variables.{output, assigned, increment, decrement, cycle}
use Rattle.liquid_tags.specs.Branches.{branch}
use Rattle.liquid_eval.specs.Reached.{Reached, reached, onward, Enter, enter_part}
use Rattle.liquid_eval.specs.Loops.{for_block}
use Rattle.liquid_eval.specs.TableRows.{table_block}
use Rattle.liquid_eval.specs.Includes.{include, include_relative}
use Rattle.liquid_tags.specs.Links.{link, post_url}
use Rattle.liquid_eval.specs.Captures.{capture, highlight}
use Rattle.liquid_tags.specs.Blanks.{is_silent}

-- what follows a node is evaluated unless a loop ends, or goes on, there
abbrev pub follow : Reached → Query SiteFault Reached → Query SiteFault Reached
follow r next = elim r.signal [ Next ↦ next | Break ↦ Give r | Continue ↦ Give r ]

module _ (excerpts : Excerpting) (enter : Enter) where
  abbrev pub leaf_node : Place → Leaf → State → Query SiteFault Reached
  leaf_node p (leaves.Text t) s = bind (text_written p t s) onward
  leaf_node p (leaves.Output e) s = bind (output excerpts p e s) onward
  leaf_node p (leaves.Assign a) s = bind (assigned excerpts p a s) onward
  leaf_node p (leaves.Cycle tag c) s = bind (cycle excerpts p tag c s) onward
  leaf_node p (leaves.Increment x) s = bind (increment p x s) onward
  leaf_node p (leaves.Decrement x) s = bind (decrement p x s) onward
  leaf_node p leaves.Break s = Give (reached s Break)
  leaf_node p leaves.Continue s = Give (reached s Continue)
  leaf_node p (leaves.Include i) s = include enter excerpts p i s
  leaf_node p (leaves.IncludeRelative i) s = include_relative enter excerpts p i s
  leaf_node p (leaves.Link name) s = bind (link excerpts p name s) onward
  leaf_node p (leaves.PostUrl name) s = bind (post_url excerpts p name s) onward

  abbrev pub branch_node : Place → Block → Tree → State → Query SiteFault Reached
  branch_node p b parts s = bind (branch excerpts p s.assigned b parts) (λ body. enter_part enter p s body)

  abbrev pub block_node : Place → Block → Tree → State → Query SiteFault Reached
  block_node p blocks.If parts s = branch_node p blocks.If parts s
  block_node p blocks.Unless parts s = branch_node p blocks.Unless parts s
  block_node p (blocks.Case e) parts s = branch_node p (blocks.Case e) parts s
  block_node p (blocks.For l) parts s = for_block enter excerpts p l parts s
  block_node p (blocks.TableRow l) parts s = table_block enter excerpts p l parts s
  block_node p (blocks.Capture x) parts s = capture enter p x s parts
  block_node p (blocks.Highlight x) parts s = highlight enter p x s parts

  abbrev pub nodes : Place → Tree → State → Query SiteFault Reached
  nodes p done s = onward s
  nodes p (leaf line l rest) s = bind (leaf_node (at_line line p) l s) (λ r. follow r (nodes p rest r.state))
  nodes p (block line b parts rest) s = bind (block_node (silenced (is_silent b parts) (at_line line p)) b parts s) (λ r. follow r (nodes p rest r.state))
  nodes p (part line head body rest) s = nodes p rest s

-- nodes with so many levels left to enter, where an excerpt is this with as many left
module _ (excerpts : ℕ → Excerpting) where
  unfoldable pub entering : ℕ → Enter
  entering zero tag p t s = fails tag Nesting
  entering (suc n) tag p t s = nodes (excerpts n) (entering n) p t s

  -- a whole text, where so many levels may be entered
  abbrev pub evaluation_at : ℕ → Place → Tree → Query SiteFault (List ℕ)
  evaluation_at levels p t = bind (nodes (excerpts levels) (entering levels) p t nothing_yet) (λ r. Give r.state.out)

-- in an excerpt, items have the excerpts of their own
abbrev pub none_made : ℕ → Excerpting
none_made levels = own_excerpt

-- the front of an item's text is evaluated where no excerpt is made
abbrev pub excerpts_made : ℕ → Excerpting
excerpts_made levels p n = bind (excerpt (entering none_made levels) p n) given

abbrev pub excerpts_in : Manner → ℕ → Excerpting
excerpts_in of_excerpt = none_made
excerpts_in of_body = excerpts_made
excerpts_in (of_layout own content layout) = excerpts_made

-- at most a hundred blocks, includes and excerpts stand in one another
abbrev pub evaluation : Place → Tree → Query SiteFault (List ℕ)
evaluation p t = evaluation_at (excerpts_in p.manner) 100 p t
