-- What the pieces of a template say, one by one, by the tags' names. After the reference of Liquid 4 (Shopify), "Tags", and Jekyll 4's manual, "Includes" and "Liquid"; docs/PROFILE.md lists the tags that are read.
use Rattle.std.specs.Prelude.{ℕ, true, false, List, [], ◌∷◌, length, drop, take, ◌==◌, codes, if◌then◌else◌, Option, Some, None, Result, Ok, Err}
use Rattle.std.specs.Str.{bytes_eq}
use Rattle.std.specs.List.{prefix_len}
use Rattle.site_base.specs.declared.faults.FaultKind.{FaultKind}
use Rattle.site_base.specs.declared.faults.FaultKind.TheVariants.{LiquidSyntax, UnknownTag, Overflow}
use Rattle.liquid_grammar.specs.declared.piece.PieceKind.{PieceKind}
use Rattle.liquid_grammar.specs.declared.piece.PieceKind.TheVariants as kind
use Rattle.liquid_grammar.specs.declared.piece.Piece.{Piece}
use Rattle.liquid_grammar.specs.declared.condition.Condition.{Condition}
use Rattle.liquid_grammar.specs.declared.tag.LoopKind.TheVariants as loop_kind
use Rattle.liquid_grammar.specs.declared.item.Leaf.TheVariants as leaf
use Rattle.liquid_grammar.specs.declared.item.Block.TheVariants as block
use Rattle.liquid_grammar.specs.declared.item.BlockName.{BlockName}
use Rattle.liquid_grammar.specs.declared.item.BlockName.TheVariants as block_name
use Rattle.liquid_grammar.specs.declared.item.Part.TheVariants.{Body, Test, Otherwise}
use Rattle.liquid_grammar.specs.declared.item.Part.TheVariants as part
use Rattle.liquid_grammar.specs.declared.tag_kind.LeafName.{LeafName}
use Rattle.liquid_grammar.specs.declared.tag_kind.LeafName.TheVariants as leaf_name
use Rattle.liquid_grammar.specs.declared.tag_kind.PartName.{PartName}
use Rattle.liquid_grammar.specs.declared.tag_kind.PartName.TheVariants.{Else, ElsIf, When}
use Rattle.liquid_grammar.specs.declared.tag_kind.TagKind.{TagKind}
use Rattle.liquid_grammar.specs.declared.tag_kind.TagKind.TheVariants.{Opens, Ends, Turns, Leaf}
use Rattle.liquid_grammar.specs.declared.item.Item.{Item}
use Rattle.liquid_grammar.specs.declared.item.Item.TheVariants as item
use Rattle.liquid_grammar.specs.Readings.{Refusal, syntax_fault, overflow}
use Rattle.liquid_grammar.specs.Pieces.{after_white}
use Rattle.site_text.specs.Bytes.{is_name_byte, is_name_start}
use Rattle.liquid_grammar.specs.Expressions.{read_expression}
use Rattle.liquid_grammar.specs.Conditions.{read_condition}
use Rattle.liquid_grammar.specs.Tags.{read_nothing, read_name, read_assign, read_values, read_cycle, read_loop, read_include, read_path, read_language, trimmed, inside}

-- ---- Faults

abbrev pub fault_of : Refusal → FaultKind
fault_of syntax_fault = LiquidSyntax
fault_of overflow = Overflow

-- what is made of what was read, or the fault
abbrev pub made : {A : Type 0} → (A → Item) → Result A Refusal → Result Item FaultKind
made f (Ok x) = Ok (f x)
made f (Err e) = Err (fault_of e)

-- ---- Names of tags

-- what each tag is, by its word
unfoldable pub tag_words : List (List ℕ × TagKind)
tag_words =
    (codes "if", Opens block_name.If)
    ∷ (codes "endif", Ends block_name.If)
    ∷ (codes "unless", Opens block_name.Unless)
    ∷ (codes "endunless", Ends block_name.Unless)
    ∷ (codes "case", Opens block_name.Case)
    ∷ (codes "endcase", Ends block_name.Case)
    ∷ (codes "for", Opens block_name.For)
    ∷ (codes "endfor", Ends block_name.For)
    ∷ (codes "tablerow", Opens block_name.TableRow)
    ∷ (codes "endtablerow", Ends block_name.TableRow)
    ∷ (codes "capture", Opens block_name.Capture)
    ∷ (codes "endcapture", Ends block_name.Capture)
    ∷ (codes "highlight", Opens block_name.Highlight)
    ∷ (codes "endhighlight", Ends block_name.Highlight)
    ∷ (codes "raw", Opens block_name.Raw)
    ∷ (codes "endraw", Ends block_name.Raw)
    ∷ (codes "comment", Opens block_name.Comment)
    ∷ (codes "endcomment", Ends block_name.Comment)
    ∷ (codes "else", Turns Else)
    ∷ (codes "elsif", Turns ElsIf)
    ∷ (codes "when", Turns When)
    ∷ (codes "assign", Leaf leaf_name.Assign)
    ∷ (codes "cycle", Leaf leaf_name.Cycle)
    ∷ (codes "increment", Leaf leaf_name.Increment)
    ∷ (codes "decrement", Leaf leaf_name.Decrement)
    ∷ (codes "break", Leaf leaf_name.Break)
    ∷ (codes "continue", Leaf leaf_name.Continue)
    ∷ (codes "include", Leaf leaf_name.Include)
    ∷ (codes "include_relative", Leaf leaf_name.IncludeRelative)
    ∷ (codes "link", Leaf leaf_name.Link)
    ∷ (codes "post_url", Leaf leaf_name.PostUrl)
    ∷ []

abbrev pub kind_in : List (List ℕ × TagKind) → List ℕ → Option TagKind
kind_in [] name = None
kind_in (row ∷ rows) name = elim (bytes_eq name row.0) [ true ↦ Some row.1 | false ↦ kind_in rows name ]

-- ---- What tags say

abbrev pub opens_if : Condition → Item
opens_if c = item.Opens block.If (Test c)

abbrev pub opens_unless : Condition → Item
opens_unless c = item.Opens block.Unless (Test c)

abbrev pub opening : BlockName → List ℕ → Result Item FaultKind
opening block_name.If rest = made opens_if (read_condition rest)
opening block_name.Unless rest = made opens_unless (read_condition rest)
opening block_name.Case rest = made (λ e. item.Opens (block.Case e) Body) (read_expression rest)
opening block_name.For rest = made (λ l. item.Opens (block.For l) Body) (read_loop loop_kind.For rest)
opening block_name.TableRow rest = made (λ l. item.Opens (block.TableRow l) Body) (read_loop loop_kind.TableRow rest)
opening block_name.Capture rest = made (λ x. item.Opens (block.Capture x) Body) (read_name rest)
opening block_name.Highlight rest = made (λ x. item.Opens (block.Highlight x) Body) (read_language rest)
opening block_name.Raw rest = made (λ _. item.Raw) (read_nothing rest)
opening block_name.Comment rest = made (λ _. item.Comment) (read_nothing rest)

abbrev pub turning : PartName → List ℕ → Result Item FaultKind
turning Else rest = made (λ _. item.Turns Otherwise) (read_nothing rest)
turning ElsIf rest = made (λ c. item.Turns (Test c)) (read_condition rest)
turning When rest = made (λ vs. item.Turns (part.When vs)) (read_values rest)

-- a cycle has the text behind its word, too, without the white space at its ends
abbrev pub leaf_tag : LeafName → List ℕ → Result Item FaultKind
leaf_tag leaf_name.Assign rest = made (λ a. item.Leaf (leaf.Assign a)) (read_assign rest)
leaf_tag leaf_name.Cycle rest = made (λ c. item.Leaf (leaf.Cycle (trimmed rest) c)) (read_cycle rest)
leaf_tag leaf_name.Increment rest = made (λ x. item.Leaf (leaf.Increment x)) (read_name rest)
leaf_tag leaf_name.Decrement rest = made (λ x. item.Leaf (leaf.Decrement x)) (read_name rest)
leaf_tag leaf_name.Break rest = made (λ _. item.Leaf leaf.Break) (read_nothing rest)
leaf_tag leaf_name.Continue rest = made (λ _. item.Leaf leaf.Continue) (read_nothing rest)
leaf_tag leaf_name.Include rest = made (λ i. item.Leaf (leaf.Include i)) (read_include rest)
leaf_tag leaf_name.IncludeRelative rest = made (λ i. item.Leaf (leaf.IncludeRelative i)) (read_include rest)
leaf_tag leaf_name.Link rest = made (λ p. item.Leaf (leaf.Link p)) (read_path rest)
leaf_tag leaf_name.PostUrl rest = made (λ p. item.Leaf (leaf.PostUrl p)) (read_path rest)

abbrev pub said : Option TagKind → List ℕ → Result Item FaultKind
said (Some (Opens b)) rest = opening b rest
said (Some (Ends b)) rest = made (λ _. item.Ends b) (read_nothing rest)
said (Some (Turns p)) rest = turning p rest
said (Some (Leaf l)) rest = leaf_tag l rest
said None rest = Err UnknownTag

-- how many bytes at the front are a name
abbrev pub tag_name_len : List ℕ → ℕ
tag_name_len [] = 0
tag_name_len (c ∷ cs) = if is_name_start c then prefix_len is_name_byte (c ∷ cs) else 0

-- a tag without a name is none
abbrev pub tag_with : List ℕ → List ℕ → Result Item FaultKind
tag_with name rest = if length name == 0 then Err LiquidSyntax else said (kind_in tag_words name) rest

abbrev pub tag_name : List ℕ → List ℕ
tag_name text = let behind = after_white text in take (tag_name_len behind) behind

abbrev pub tag_rest : List ℕ → List ℕ
tag_rest text = let behind = after_white text in drop (tag_name_len behind) behind

-- what stands between the marks of a tag
unfoldable pub tag_item : List ℕ → Result Item FaultKind
tag_item text = tag_with (tag_name text) (tag_rest text)

-- ---- What pieces say

abbrev pub text_item : List ℕ → Item
text_item [] = item.Nothing
text_item (c ∷ cs) = item.Leaf (leaf.Text (c ∷ cs))

abbrev pub item_in : PieceKind → List ℕ → Result Item FaultKind
item_in kind.Text text = Ok (text_item text)
item_in kind.Output text = made (λ e. item.Leaf (leaf.Output e)) (read_expression text)
item_in kind.Tag text = tag_item text

abbrev pub item_of : List ℕ → Piece → Result Item FaultKind
item_of text p = item_in p.kind (inside text p.inner)
