-- What stands in tags behind their names. After the reference of Liquid 4 (Shopify), "Tags"; `include`, `link`, `post_url` and `highlight` after Jekyll 4's manual, "Includes" and "Liquid".
use Rattle.std.specs.Prelude.{ℕ, suc, ◌+◌, ◌-◌, Bool, true, false, ◌&&◌, ◌||◌, List, [], ◌∷◌, length, drop, take, count_by, nat_lt, ◌==◌, slice_range, codes, if◌then◌else◌, Option, Some, None, Result, Ok, Err, is_some}
use Rattle.std.specs.Str.{bytes_eq}
use Rattle.std.specs.List.{prefix_len, suffix_len}
use Rattle.liquid_grammar.specs.declared.piece.PieceKind.{PieceKind}
use Rattle.liquid_grammar.specs.declared.piece.PieceKind.TheVariants as kind
use Rattle.liquid_grammar.specs.declared.piece.Piece.{Piece}
use Rattle.liquid_grammar.specs.declared.piece.Span.{Span}
use Rattle.liquid_grammar.specs.declared.expression.Expr.{Expr}
use Rattle.liquid_grammar.specs.declared.expression.Parameter.{Parameter}
use Rattle.liquid_grammar.specs.declared.tag.Assign.{Assign}
use Rattle.liquid_grammar.specs.declared.tag.Cycle.{Cycle}
use Rattle.liquid_grammar.specs.declared.tag.LoopKind.{LoopKind}
use Rattle.liquid_grammar.specs.declared.tag.LoopKind.TheVariants.{For, TableRow}
use Rattle.liquid_grammar.specs.declared.tag.LoopKey.{LoopKey}
use Rattle.liquid_grammar.specs.declared.tag.LoopKey.TheVariants.{Limit, Offset, Columns}
use Rattle.liquid_grammar.specs.declared.tag.LoopPart.{LoopPart}
use Rattle.liquid_grammar.specs.declared.tag.LoopPart.TheVariants.{Reversed, Number}
use Rattle.liquid_grammar.specs.declared.tag.Loop.{Loop}
use Rattle.liquid_grammar.specs.declared.tag.NamePlace.{NamePlace}
use Rattle.liquid_grammar.specs.declared.tag.NamePlace.TheVariants.{InName, InOutput, InEnd}
use Rattle.liquid_grammar.specs.declared.tag.NamePart.{NamePart}
use Rattle.liquid_grammar.specs.declared.tag.NamePart.TheVariants as name_part
use Rattle.liquid_grammar.specs.declared.tag.Include.{Include}
use Rattle.liquid_grammar.specs.Operands.{Operand}
use Rattle.liquid_grammar.specs.Tokens.{Token}
use Rattle.liquid_grammar.specs.Readings.{Reading, ◌>>=◌, after, More, stop, one, more_of, many, Refusal, syntax_fault, reads}
use Rattle.liquid_grammar.specs.Pieces.{Cut, cut_of, begins, is_white, white_len}
use Rattle.liquid_grammar.specs.Expressions.{word_literal, is_joining, word_at, is_comma, is_colon, operand, next_argument, arguments, expression, read_expression}
use Rattle.liquid_grammar.specs.Conditions.{is_assign, read_parameters}

-- ---- Names and values

-- a word that names no variable
abbrev pub is_reserved : List ℕ → Bool
is_reserved name = is_some (word_literal name) || is_joining name

abbrev pub free_name : Option (List ℕ) → Option (List ℕ)
free_name (Some name) = if is_reserved name then None else Some name
free_name None = None

-- the name of a variable at the front
abbrev pub name_at : List Token → Option (List ℕ)
name_at ts = free_name (word_at ts)

abbrev pub is_named : List ℕ → Option (List ℕ) → Bool
is_named name (Some other) = bytes_eq other name
is_named name None = false

-- this word stands at the front
abbrev pub is_word : List ℕ → List Token → Bool
is_word name ts = is_named name (word_at ts)

-- nothing
abbrev pub nothing_more : List Token → Reading (Unit {0})
nothing_more ts = Some (tt, 0)

abbrev pub read_nothing : List ℕ → Result (Unit {0}) Refusal
read_nothing bytes = reads nothing_more bytes

abbrev pub one_name : Option (List ℕ) → Reading (List ℕ)
one_name (Some name) = Some (name, 1)
one_name None = None

-- the name of a variable
abbrev pub variable_name : List Token → Reading (List ℕ)
variable_name ts = one_name (name_at ts)

abbrev pub read_name : List ℕ → Result (List ℕ) Refusal
read_name bytes = reads variable_name bytes

-- `name = e`
abbrev pub assigned_to : Option (List ℕ) → List Token → Reading Assign
assigned_to (Some name) ts = if is_assign ts then (expression (drop 1 ts) >>= λ e. Some (record { name = name; value = e.0 }, 2 + e.1)) else None
assigned_to None ts = None

unfoldable pub assignment : List Token → Reading Assign
assignment ts = assigned_to (name_at ts) (drop 1 ts)

abbrev pub read_assign : List ℕ → Result Assign Refusal
read_assign bytes = reads assignment bytes

-- a value of a `when` after the first, behind a comma or `or`
abbrev pub next_value : List Token → More Operand
next_value ts = if is_comma ts || is_word (codes "or") ts then more_of (after 1 (operand (drop 1 ts))) else stop

abbrev pub values : List Token → Reading (List Operand)
values ts = operand ts >>= λ a. many next_value (drop a.1 ts) >>= λ others. Some (a.0 ∷ others.0, a.1 + others.1)

abbrev pub read_values : List ℕ → Result (List Operand) Refusal
read_values bytes = reads values bytes

-- ---- Cycles

-- what follows the first operand of a cycle, which is its group where a colon follows
abbrev pub cycle_end : Operand → List Token → Reading Cycle
cycle_end first ts =
    if is_colon ts then (arguments (drop 1 ts) >>= λ vs. Some (record { group = Some first; values = vs.0 }, 1 + vs.1))
    else (many next_argument ts >>= λ vs. Some (record { group = None; values = first ∷ vs.0 }, vs.1))

unfoldable pub cycle : List Token → Reading Cycle
cycle ts = operand ts >>= λ a. after a.1 (cycle_end a.0 (drop a.1 ts))

abbrev pub read_cycle : List ℕ → Result Cycle Refusal
read_cycle bytes = reads cycle bytes

-- ---- Loops

abbrev pub loop_key : List ℕ → Option LoopKey
loop_key name =
    if bytes_eq name (codes "limit") then Some Limit
    else if bytes_eq name (codes "offset") then Some Offset
    else if bytes_eq name (codes "cols") then Some Columns
    else None

-- `key:e`, without its key
abbrev pub keyed_part : Option LoopKey → List Token → More LoopPart
keyed_part (Some key) ts = if is_colon ts then more_of (expression (drop 1 ts) >>= λ e. Some (Number key e.0, 2 + e.1)) else stop
keyed_part None ts = stop

abbrev pub named_part : Option (List ℕ) → List Token → More LoopPart
named_part (Some name) ts = if bytes_eq name (codes "reversed") then one Reversed 1 else keyed_part (loop_key name) ts
named_part None ts = stop

abbrev pub next_part : List Token → More LoopPart
next_part ts = named_part (word_at ts) (drop 1 ts)

abbrev pub same_key : LoopKey → LoopKey → Bool
same_key Limit Limit = true
same_key Offset Offset = true
same_key Columns Columns = true
same_key _ _ = false

-- `reversed` is the part without a key
abbrev pub has_key : Option LoopKey → LoopPart → Bool
has_key None Reversed = true
has_key None (Number other e) = false
has_key (Some key) Reversed = false
has_key (Some key) (Number other e) = same_key key other

-- how many parts have this key
abbrev pub keys : Option LoopKey → List LoopPart → ℕ
keys key parts = count_by (has_key key) parts

-- which parts may come, and each of them once
abbrev pub fits_for : List LoopPart → Bool
fits_for parts = nat_lt (keys (Some Limit) parts) 2 && nat_lt (keys (Some Offset) parts) 2 && nat_lt (keys (Some Columns) parts) 1 && nat_lt (keys None parts) 2

abbrev pub fits_table_row : List LoopPart → Bool
fits_table_row parts = nat_lt (keys (Some Limit) parts) 2 && nat_lt (keys (Some Offset) parts) 2 && nat_lt (keys (Some Columns) parts) 2 && nat_lt (keys None parts) 1

abbrev pub fits : LoopKind → List LoopPart → Bool
fits For parts = fits_for parts
fits TableRow parts = fits_table_row parts

abbrev pub fitting : LoopKind → Loop → ℕ → Reading Loop
fitting kind l n = if fits kind l.parts then Some (l, n) else None

-- what stands after `name in`
abbrev pub loop_over : LoopKind → List ℕ → List Token → Reading Loop
loop_over kind name ts = expression ts >>= λ e. many next_part (drop e.1 ts) >>= λ ps. fitting kind (record { name = name; list = e.0; parts = ps.0 }) (e.1 + ps.1)

abbrev pub loop_named : LoopKind → Option (List ℕ) → List Token → Reading Loop
loop_named kind (Some name) ts = if is_word (codes "in") ts then after 2 (loop_over kind name (drop 1 ts)) else None
loop_named kind None ts = None

unfoldable pub loop_at : LoopKind → List Token → Reading Loop
loop_at kind ts = loop_named kind (name_at ts) (drop 1 ts)

abbrev pub read_loop : LoopKind → List ℕ → Result Loop Refusal
read_loop kind bytes = reads (loop_at kind) bytes

-- ---- Names that tags are given: texts with outputs in them

abbrev pub with_part : Result NamePart Refusal → Result (List NamePart) Refusal → Result (List NamePart) Refusal
with_part (Ok p) (Ok ps) = Ok (p ∷ ps)
with_part (Ok p) (Err e) = Err e
with_part (Err e) others = Err e

abbrev pub inside : List ℕ → Span → List ℕ
inside text s = slice_range text s.start s.end

abbrev pub output_part : Result Expr Refusal → Result NamePart Refusal
output_part (Ok e) = Ok (name_part.Output e)
output_part (Err e) = Err e

abbrev pub part_of : PieceKind → List ℕ → Result NamePart Refusal
part_of kind.Text text = Ok (name_part.Text text)
part_of kind.Output text = output_part (read_expression text)
part_of kind.Tag text = Err syntax_fault

-- the parts of these pieces of a text, where the first fault counts; a piece without an end is one
abbrev pub name_parts : List ℕ → Option ℕ → List Piece → Result (List NamePart) Refusal
name_parts text None [] = Ok []
name_parts text (Some line) [] = Err syntax_fault
name_parts text unclosed (p ∷ ps) = with_part (part_of p.kind (inside text p.inner)) (name_parts text unclosed ps)

abbrev pub parts_of_cut : List ℕ → Cut → Result (List NamePart) Refusal
parts_of_cut text c = name_parts text c.unclosed c.pieces

-- a name, which is not empty
abbrev pub read_name_parts : List ℕ → Result (List NamePart) Refusal
read_name_parts text = if length text == 0 then Err syntax_fault else parts_of_cut text (cut_of text)

-- where a name ends that runs to white space: white space in an output is no end
abbrev pub next_place : NamePlace → List ℕ → NamePlace
next_place InName text = if begins (codes "{{") text then InOutput else InName
next_place InOutput text = if begins (codes "}}") text then InEnd else InOutput
next_place InEnd text = InName

abbrev pub ends_at : NamePlace → ℕ → Bool
ends_at InName c = is_white c
ends_at InOutput c = false
ends_at InEnd c = false

unfoldable pub name_len : NamePlace → List ℕ → ℕ
name_len p [] = 0
name_len p (c ∷ cs) = if ends_at p c then 0 else suc (name_len (next_place p (c ∷ cs)) cs)

-- a text without the white space at its ends
abbrev pub trimmed : List ℕ → List ℕ
trimmed text =
    let behind = drop (white_len text) text in
    take (length behind - suffix_len is_white behind) behind

abbrev pub stripped_front : List ℕ → List ℕ
stripped_front text = drop (white_len text) text

abbrev pub include_of : Result (List NamePart) Refusal → Result (List Parameter) Refusal → Result Include Refusal
include_of (Ok file) (Ok params) = Ok (record { file = file; params = params })
include_of (Ok file) (Err e) = Err e
include_of (Err e) params = Err e

-- a name up to white space, and parameters
abbrev pub read_include : List ℕ → Result Include Refusal
read_include text =
    let behind = stripped_front text in
    let n = name_len InName behind in
    include_of (read_name_parts (take n behind)) (read_parameters (drop n behind))

-- a name alone
abbrev pub read_path : List ℕ → Result (List NamePart) Refusal
read_path text = read_name_parts (trimmed text)

abbrev pub is_black : ℕ → Bool
is_black c = if is_white c then false else true

-- the first word, of any bytes but white space
abbrev pub first_word : List ℕ → List ℕ
first_word text = let behind = stripped_front text in take (prefix_len is_black behind) behind

abbrev pub read_language : List ℕ → Result (List ℕ) Refusal
read_language text = if length (first_word text) == 0 then Err syntax_fault else Ok (first_word text)
