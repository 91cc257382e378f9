-- Worked rows of single definitions, computed.
use Rattle.std.proofs.Common.{Bool, None, Some, [], codes, not, refl, true, ℕ, ◌&&◌, ◌||◌, ◌∷◌, ◌≡◌}
use Rattle.std.specs.List.{list_all, range_with_len}
use Rattle.markdown_grammar.specs.Blocks.{blocks_of}
use Rattle.site_text.specs.Bytes.{is_punct}
use Rattle.markdown_grammar.specs.Columns.{own_line}
use Rattle.markdown_grammar.specs.Containers.{block_quote, list_item}
use Rattle.markdown_grammar.specs.Definitions.{front_definition}
use Rattle.markdown_grammar.specs.Extents.{blank_line, container, leaf, no_blocks}
use Rattle.markdown_grammar.specs.Flanking.{in_category}
use Rattle.markdown_grammar.specs.Html.{html}
use Rattle.markdown_grammar.specs.Labels.{label_key}
use Rattle.markdown_grammar.specs.Leaves.{paragraph}
use Rattle.markdown_grammar.specs.Matching.{matched}

key : label_key (codes " A\n b ") ≡ codes "a b"
unfolding html
key = refl

defined : front_definition (codes "[a]: /u\n") ≡ Some (record { name = codes "a"; url = codes "/u"; title = None; size = 8 })
unfolding html
defined = refl

not_defined : front_definition (codes "a") ≡ None
not_defined = refl

kept : matched (block_quote ∷ list_item 45 1 2 ∷ block_quote ∷ []) (own_line 0 (codes ">\t  b")) ≡ record { kept = 2; rest = own_line 4 (codes "  b") }
unfolding html
kept = refl

quote_and_list : blocks_of (codes "> a\nb\n\n1. c\n\n   d\n")
    ≡ container block_quote (leaf (paragraph (codes "a" ∷ codes "b" ∷ [])) no_blocks) (blank_line (own_line 0 []) (container (list_item 46 1 3) (leaf (paragraph (codes "c" ∷ [])) (blank_line (own_line 0 []) (leaf (paragraph (codes "d" ∷ [])) no_blocks))) no_blocks))
unfolding html
quote_and_list = refl

-- ASCII punctuation is what the categories P and S have below 128
abbrev agree : ℕ → Bool
agree c = (is_punct c && in_category c) || (not (is_punct c) && not (in_category c))

ascii : list_all agree (range_with_len 0 128) ≡ true
unfolding html
ascii = refl
