-- Expressions: operands, and the filters that follow them. After the reference of Liquid 4 (Shopify), "Introduction", "Types" and "Filters".
use Rattle.std.specs.Prelude.{ℕ, zero, suc, ◌+◌, pos, Bool, true, false, List, [], ◌∷◌, drop, codes, if◌then◌else◌, Option, Some, None, Result}
use Rattle.std.specs.Str.{bytes_eq}
use Rattle.liquid_grammar.specs.declared.literal.Literal.{Literal}
use Rattle.liquid_grammar.specs.declared.literal.Literal.TheVariants as literals
use Rattle.liquid_grammar.specs.declared.mark.Mark.TheVariants.{Dot, To, OpenBracket, CloseBracket, OpenRange, CloseRange, Bar, Colon, Comma}
use Rattle.liquid_grammar.specs.declared.expression.Filter.{Filter}
use Rattle.liquid_grammar.specs.declared.expression.Expr.{Expr}
use Rattle.liquid_grammar.specs.Operands.{Operand, literal, range, variable, member, index}
use Rattle.liquid_grammar.specs.Tokens.{Token, word, text, whole, large, mark}
use Rattle.liquid_grammar.specs.Readings.{Reading, ◌>>=◌, after, More, stop, wrong, one, more_of, many, Refusal, reads}

-- ---- Words

abbrev pub word_literal : List ℕ → Option Literal
word_literal name =
    if bytes_eq name (codes "nil") then Some literals.Nil
    else if bytes_eq name (codes "null") then Some literals.Nil
    else if bytes_eq name (codes "true") then Some (literals.Bool true)
    else if bytes_eq name (codes "false") then Some (literals.Bool false)
    else if bytes_eq name (codes "blank") then Some literals.Blank
    else if bytes_eq name (codes "empty") then Some literals.Empty
    else None

-- a word that stands between operands
abbrev pub is_joining : List ℕ → Bool
is_joining name =
    if bytes_eq name (codes "and") then true
    else if bytes_eq name (codes "or") then true
    else bytes_eq name (codes "contains")

-- ---- Operands

-- what starts an operand
pub data Start : Type 0 where
  starts_variable : (name : List ℕ) → Start
  starts_literal : (l : Literal) → Start
  starts_range : Start
  no_start : Start

abbrev pub word_start : List ℕ → Option Literal → Start
word_start name (Some l) = starts_literal l
word_start name None = if is_joining name then no_start else starts_variable name

-- a number that is no i64 is read as 0, and then refused
abbrev pub start_of : List Token → Start
start_of (word name ∷ rest) = word_start name (word_literal name)
start_of (text t ∷ rest) = starts_literal (literals.Text t)
start_of (whole n ∷ rest) = starts_literal (literals.Int n)
start_of (large ∷ rest) = starts_literal (literals.Int (pos 0))
start_of (mark OpenRange ∷ rest) = starts_range
start_of _ = no_start

-- what follows a variable: `.name`, `[`, a dot without a name, or something else
pub data Follow : Type 0 where
  follows_name : (name : List ℕ) → Follow
  follows_bracket : Follow
  follows_nothing : Follow
  no_follow : Follow

abbrev pub follow_of : List Token → Follow
follow_of (mark Dot ∷ word name ∷ rest) = follows_name name
follow_of (mark Dot ∷ rest) = follows_nothing
follow_of (mark OpenBracket ∷ rest) = follows_bracket
follow_of _ = no_follow

abbrev pub closes_bracket : List Token → Bool
closes_bracket (mark CloseBracket ∷ rest) = true
closes_bracket _ = false

abbrev pub closes_range : List Token → Bool
closes_range (mark CloseRange ∷ rest) = true
closes_range _ = false

abbrev pub goes_to : List Token → Bool
goes_to (mark To ∷ rest) = true
goes_to _ = false

-- a link from a variable to a member
pub data Link : Type 0 where
  named : (name : List ℕ) → Link
  at : (x : Operand) → Link

abbrev pub linked : Operand → Link → Operand
linked e (named name) = member e name
linked e (at x) = index e x

abbrev pub walk : Operand → List Link → Operand
walk e [] = e
walk e (l ∷ ls) = walk (linked e l) ls

-- the parts of operands, where `inner` reads what stands inside one more bracket
module _ (inner : List Token → Reading Operand) where
  abbrev pub bracket_end : Operand → List Token → Reading Link
  bracket_end x ts = if closes_bracket ts then Some (at x, 1) else None

  -- what stands after `[`
  abbrev pub bracket : List Token → Reading Link
  bracket ts = inner ts >>= λ x. after x.1 (bracket_end x.0 (drop x.1 ts))

  abbrev pub follow : Follow → List Token → More Link
  follow (follows_name name) ts = one (named name) 2
  follow follows_bracket ts = more_of (after 1 (bracket (drop 1 ts)))
  follow follows_nothing ts = wrong
  follow no_follow ts = stop

  abbrev pub link : List Token → More Link
  link ts = follow (follow_of ts) ts

  abbrev pub variable_at : List ℕ → List Token → Reading Operand
  variable_at name ts = many link ts >>= λ links. Some (walk (variable name) links.0, links.1)

  abbrev pub range_close : Operand → Operand → List Token → Reading Operand
  range_close a b ts = if closes_range ts then Some (range a b, 1) else None

  abbrev pub range_end : Operand → List Token → Reading Operand
  range_end a ts = if goes_to ts then (inner (drop 1 ts) >>= λ b. after (1 + b.1) (range_close a b.0 (drop b.1 (drop 1 ts)))) else None

  -- what stands after `(`
  abbrev pub range_at : List Token → Reading Operand
  range_at ts = inner ts >>= λ a. after a.1 (range_end a.0 (drop a.1 ts))

  abbrev pub operand_from : Start → List Token → Reading Operand
  operand_from (starts_variable name) rest = after 1 (variable_at name rest)
  operand_from (starts_literal l) rest = Some (literal l, 1)
  operand_from starts_range rest = after 1 (range_at rest)
  operand_from no_start rest = None

  abbrev pub operand_with : List Token → Reading Operand
  operand_with ts = operand_from (start_of ts) (drop 1 ts)

abbrev pub nothing : List Token → Reading Operand
nothing ts = None

-- an operand with at most this many open brackets
unfoldable pub operand_in : ℕ → List Token → Reading Operand
operand_in zero ts = operand_with nothing ts
operand_in (suc d) ts = operand_with (operand_in d) ts

-- an operand inside one more bracket, where this many may be open
abbrev pub operand_inside : ℕ → List Token → Reading Operand
operand_inside zero ts = None
operand_inside (suc d) ts = operand_in d ts

-- an operand
unfoldable pub operand : List Token → Reading Operand
operand ts = operand_in 100 ts

-- ---- Filters

abbrev pub is_comma : List Token → Bool
is_comma (mark Comma ∷ rest) = true
is_comma _ = false

abbrev pub is_bar : List Token → Bool
is_bar (mark Bar ∷ rest) = true
is_bar _ = false

abbrev pub is_colon : List Token → Bool
is_colon (mark Colon ∷ rest) = true
is_colon _ = false

-- the word at the front
abbrev pub word_at : List Token → Option (List ℕ)
word_at (word name ∷ rest) = Some name
word_at _ = None

abbrev pub next_argument : List Token → More Operand
next_argument ts = if is_comma ts then more_of (after 1 (operand (drop 1 ts))) else stop

-- what stands after the `:` of a filter
abbrev pub arguments : List Token → Reading (List Operand)
arguments ts = operand ts >>= λ a. many next_argument (drop a.1 ts) >>= λ others. Some (a.0 ∷ others.0, a.1 + others.1)

abbrev pub filter_of : List ℕ → List Operand → Filter
filter_of name arguments = record { name = name; arguments = arguments }

-- what follows the name of a filter: `:` and its arguments, or nothing
abbrev pub filter_end : List ℕ → List Token → Reading Filter
filter_end name ts = if is_colon ts then (arguments (drop 1 ts) >>= λ given. Some (filter_of name given.0, 1 + given.1)) else Some (filter_of name [], 0)

abbrev pub named_filter : Option (List ℕ) → List Token → More Filter
named_filter (Some name) ts = more_of (after 2 (filter_end name ts))
named_filter None ts = wrong

abbrev pub next_filter : List Token → More Filter
next_filter ts = if is_bar ts then named_filter (word_at (drop 1 ts)) (drop 2 ts) else stop

-- an operand and its filters
unfoldable pub expression : List Token → Reading Expr
expression ts = operand ts >>= λ x. many next_filter (drop x.1 ts) >>= λ fs. Some (record { operand = x.0; filters = fs.0 }, x.1 + fs.1)

-- an expression as a whole text
abbrev pub read_expression : List ℕ → Result Expr Refusal
read_expression bytes = reads expression bytes
