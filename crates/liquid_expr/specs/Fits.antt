-- What stands at the front of a text has a length within it.
use Rattle.std.specs.Prelude.{ℕ, ◌+◌, ◌<◌, ◌≤◌, Option, Some, None}
use Rattle.liquid_grammar.specs.declared.piece.Front.{Front}
use Rattle.liquid_grammar.specs.declared.piece.Front.TheVariants.{Text, Output, Tag, Raw, Comment, Unclosed}
use Rattle.liquid_grammar.specs.Pieces.{len_of}

-- it lies within a text of this length, is not empty, and has both of its marks
abbrev pub Fits : ℕ → Front → Type 0
Fits len (Text n) = (0 < n) × (n ≤ len)
Fits len (Output n) = (4 ≤ n) × (n ≤ len)
Fits len (Tag n) = (4 ≤ n) × (n ≤ len)
Fits len (Raw n m) = (4 ≤ n) × (n + m ≤ len)
Fits len (Comment n m) = (4 ≤ n) × (n + m ≤ len)
Fits len Unclosed = Unit {0}

-- its length, where it has an end
abbrev pub found_len : Front → Option ℕ
found_len Unclosed = None
found_len front = Some (len_of front)
