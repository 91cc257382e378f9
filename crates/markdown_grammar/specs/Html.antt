-- The meaning of a text: its HTML.
use Rattle.std.specs.Char.{encode_utf8}
use Rattle.std.specs.Fmt.{digits}
use Rattle.std.specs.Prelude.{Bool, List, [], codes, false, ℕ, ◌++◌}
use Rattle.std.specs.Str.{chars}
use Rattle.site_base.specs.Lines.{lines}
use Rattle.site_base.specs.Recursion.{down}
use Rattle.caseless.specs.Caseless.{default_case_fold}
use Rattle.ucd_case.specs.CaseFolding.{full_folding}
use Rattle.ucd_case.specs.FullFoldingRows.{full_folding_rows}
use Rattle.ucd_category.specs.GeneralCategory.{general_category}
use Rattle.ucd_category.specs.GeneralCategoryRows.{general_category_rows}
use Rattle.ucd_table.specs.Rows.{value_in}
use Rattle.markdown_grammar.specs.Blocks.{Blocks, blocks, blocks_of}
use Rattle.markdown_grammar.specs.CharacterNames.{character_names}
use Rattle.markdown_grammar.specs.Containers.{block_quote, list_item}
use Rattle.markdown_grammar.specs.Definitions.{Definition, definitions}
use Rattle.markdown_grammar.specs.Emphasis.{pairs}
use Rattle.markdown_grammar.specs.Extents.{blank_line, container, leaf, no_blocks}
use Rattle.markdown_grammar.specs.HtmlStarts.{block_names, verbatim_names}
use Rattle.markdown_grammar.specs.LeafHtml.{leaf_onto}
use Rattle.markdown_grammar.specs.LinksOf.{links_of}
use Rattle.markdown_grammar.specs.ListTags.{Open, fresh_line, is_tight, list_closed, no_list, open_after, opened}
use Rattle.markdown_grammar.specs.Lists.{is_loose}
use Rattle.markdown_grammar.specs.Reading.{inlines, pieces_from}
use Rattle.markdown_grammar.specs.References.{resolved}
use Rattle.markdown_grammar.specs.Tables.{table_of}

-- the text so far, and after it the blocks
abbrev pub blocks_onto : List Definition → Bool → Open → Blocks → List ℕ → List ℕ
blocks_onto defs tight open_list no_blocks out = list_closed open_list out
blocks_onto defs tight open_list (blank_line l rest) out = blocks_onto defs tight open_list rest out
blocks_onto defs tight open_list (leaf s rest) out = blocks_onto defs tight no_list rest (leaf_onto defs tight s (list_closed open_list out))
blocks_onto defs tight open_list (container block_quote body rest) out = blocks_onto defs tight no_list rest (blocks_onto defs false no_list body (fresh_line (list_closed open_list out) ++ codes "<blockquote>\n") ++ codes "</blockquote>\n")
blocks_onto defs tight open_list (container (list_item kind number content) body rest) out =
    let now = open_after open_list kind (is_loose kind (container (list_item kind number content) body rest)) in
    blocks_onto defs tight now rest (blocks_onto defs (is_tight now) no_list body (opened open_list kind number out ++ codes "<li>") ++ codes "</li>\n")

-- the HTML of blocks
abbrev pub html_of : Blocks → List ℕ
html_of bs = blocks_onto (links_of bs) false no_list bs []

-- the HTML that a text means: its blocks, in which the definitions of the whole text are known
unfoldable pub html : List ℕ → List ℕ
unfolding down lines definitions character_names resolved block_names verbatim_names blocks blocks_of pairs pieces_from inlines table_of default_case_fold full_folding full_folding_rows general_category general_category_rows value_in chars encode_utf8 digits
html t = html_of (blocks_of t)
