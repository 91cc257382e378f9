-- The tree of the feed's template. After the reference of Liquid 4 (Shopify), "Tags".
use Rattle.std.specs.Prelude.{ℕ, pos, List, [], ◌∷◌, codes}
use Rattle.liquid_grammar.specs.declared.expression.Expr.{Expr}
use Rattle.liquid_grammar.specs.declared.item.Block.TheVariants as blocks
use Rattle.liquid_grammar.specs.declared.item.Leaf.TheVariants as leaves
use Rattle.liquid_grammar.specs.declared.item.Part.TheVariants.{Body}
use Rattle.liquid_grammar.specs.declared.literal.Literal.TheVariants as literals
use Rattle.liquid_grammar.specs.declared.tag.Loop.{Loop}
use Rattle.liquid_grammar.specs.declared.tag.LoopKey.TheVariants.{Limit}
use Rattle.liquid_grammar.specs.declared.tag.LoopPart.TheVariants.{Number}
use Rattle.liquid_grammar.specs.Expressions.{filter_of}
use Rattle.liquid_grammar.specs.Operands.{Operand, literal, variable, member}
use Rattle.liquid_grammar.specs.Trees.{Tree, done, leaf, block, part}

-- ---- Expressions

-- a member of the site
abbrev pub of_site : List ℕ → Operand
of_site x = member (variable (codes "site")) x

-- a member of the loop's post
abbrev pub of_post : List ℕ → Operand
of_post x = member (variable (codes "p")) x

-- `site.title | default: "" | xml_escape`
abbrev pub title : Expr
title = record { operand = of_site (codes "title"); filters = filter_of (codes "default") (literal (literals.Text []) ∷ []) ∷ filter_of (codes "xml_escape") [] ∷ [] }

-- `"/feed.xml" | absolute_url | xml_escape`
abbrev pub own_address : Expr
own_address = record { operand = literal (literals.Text (codes "/feed.xml")); filters = filter_of (codes "absolute_url") [] ∷ filter_of (codes "xml_escape") [] ∷ [] }

-- `site.posts.first.date | default: 0 | date_to_xmlschema`
abbrev pub last_update : Expr
last_update = record {
  operand = member (member (of_site (codes "posts")) (codes "first")) (codes "date");
  filters = filter_of (codes "default") (literal (literals.Int (pos 0)) ∷ []) ∷ filter_of (codes "date_to_xmlschema") [] ∷ [];
}

-- `p.title | xml_escape`
abbrev pub post_title : Expr
post_title = record { operand = of_post (codes "title"); filters = filter_of (codes "xml_escape") [] ∷ [] }

-- `p.url | absolute_url | xml_escape`
abbrev pub post_address : Expr
post_address = record { operand = of_post (codes "url"); filters = filter_of (codes "absolute_url") [] ∷ filter_of (codes "xml_escape") [] ∷ [] }

-- `p.date | date_to_xmlschema`
abbrev pub post_date : Expr
post_date = record { operand = of_post (codes "date"); filters = filter_of (codes "date_to_xmlschema") [] ∷ [] }

-- `p.content | xml_escape`
abbrev pub post_content : Expr
post_content = record { operand = of_post (codes "content"); filters = filter_of (codes "xml_escape") [] ∷ [] }

-- `p in site.posts limit:10`
abbrev pub ten_posts : Loop
ten_posts = record {
  name = codes "p";
  list = record { operand = of_site (codes "posts"); filters = [] };
  parts = Number Limit (record { operand = literal (literals.Int (pos 10)); filters = [] }) ∷ [];
}

-- ---- Nodes

abbrev pub words : ℕ → List ℕ → Tree → Tree
words line t rest = leaf line (leaves.Text t) rest

abbrev pub shown : ℕ → Expr → Tree → Tree
shown line e rest = leaf line (leaves.Output e) rest

-- what is written for each post
abbrev pub entry_nodes : Tree
entry_nodes =
    words 6 (codes "<entry><title>") (
    shown 6 post_title (
    words 6 (codes "</title><id>") (
    shown 6 post_address (
    words 6 (codes "</id><link href=\"") (
    shown 6 post_address (
    words 6 (codes "\"/><updated>") (
    shown 6 post_date (
    words 6 (codes "</updated><content type=\"html\">") (
    shown 6 post_content (
    words 6 (codes "</content></entry>\n") done))))))))))

abbrev pub loop_nodes : Tree → Tree
loop_nodes rest = block 6 (blocks.For ten_posts) (part 6 Body entry_nodes done) rest

-- what follows the site's title
abbrev pub behind_title : Tree
behind_title =
    words 3 (codes "</title>\n<id>") (
    shown 4 own_address (
    words 4 (codes "</id>\n<updated>") (
    shown 5 last_update (
    words 5 (codes "</updated>\n") (
    loop_nodes (
    words 7 (codes "</feed>\n") done))))))

abbrev pub feed_nodes : Tree
feed_nodes = words 1 (codes "<?xml version=\"1.0\" encoding=\"utf-8\"?>\n<feed xmlns=\"http://www.w3.org/2005/Atom\">\n<title>") (shown 3 title behind_title)
