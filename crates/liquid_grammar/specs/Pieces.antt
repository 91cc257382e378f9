-- The pieces of a template's text: text, outputs `{{ .. }}` and tags `{% .. %}`. After the reference of Liquid 4 (Shopify), "Introduction", "Whitespace control", and "Tags" for `raw` and `comment`.
use Rattle.std.specs.Prelude.{ℕ, zero, suc, ◌+◌, ◌-◌, Bool, false, ◌&&◌, ◌||◌, List, [], ◌∷◌, ◌++◌, length, drop, take, count_by, if◌then◌else◌, ◌==◌, nat_lt, nat_eq, slice_index, max, codes, Option, Some, None, Result, Ok, Err}
use Rattle.std.specs.List.{starts_with, prefix_len, suffix_len}
use Rattle.site_base.specs.Recursion.{down}
use Rattle.liquid_grammar.specs.declared.piece.PieceKind.{PieceKind}
use Rattle.liquid_grammar.specs.declared.piece.PieceKind.TheVariants as kind
use Rattle.liquid_grammar.specs.declared.piece.Span.{Span}
use Rattle.liquid_grammar.specs.declared.piece.Piece.{Piece}
use Rattle.liquid_grammar.specs.declared.piece.Front.{Front}
use Rattle.liquid_grammar.specs.declared.piece.Front.TheVariants.{Text, Output, Tag, Raw, Comment, Unclosed}

-- the first place of a text at which what follows passes a test, or the text's length
abbrev pub first_place : (List ℕ → Bool) → List ℕ → ℕ
first_place p [] = 0
first_place p (c ∷ cs) = if p (c ∷ cs) then 0 else suc (first_place p cs)

abbrev pub begins : List ℕ → List ℕ → Bool
begins word text = starts_with nat_eq text word

-- space, tab, LF, VT, FF and CR
abbrev pub is_white : ℕ → Bool
is_white c = (c == 32) || (nat_lt 8 c && nat_lt c 14)

abbrev pub white_len : List ℕ → ℕ
white_len text = prefix_len is_white text

abbrev pub after_white : List ℕ → List ℕ
after_white text = drop (white_len text) text

-- what follows a dash, or the text itself where none stands at its front
abbrev pub after_dash : List ℕ → List ℕ
after_dash text = if begins (codes "-") text then drop 1 text else text

-- a piece starts here
abbrev pub opens : List ℕ → Bool
opens text = begins (codes "{{") text || begins (codes "{%") text

-- a tag of this one word stands at the front
abbrev pub is_tag : List ℕ → List ℕ → Bool
is_tag word text =
    let inside = after_white (after_dash (drop 2 text)) in
    begins (codes "{%") text && begins word inside && begins (codes "%}") (after_dash (after_white (drop (length word) inside)))

abbrev pub tag_place : List ℕ → List ℕ → ℕ
tag_place word text = first_place (is_tag word) text

-- ---- What stands at the front

-- a tag of this length, with what follows `raw` and `comment`: up to `endraw`, which must come, or up to `endcomment`
abbrev pub tag_at : List ℕ → ℕ → Front
tag_at text len =
    let rest = drop len text in
    let n = tag_place (codes "endraw") rest in
    if is_tag (codes "raw") text then (if nat_lt n (length rest) then Raw len n else Unclosed)
    else if is_tag (codes "comment") text then Comment len (tag_place (codes "endcomment") rest)
    else Tag len

-- an output ends at the first `}}` after its start, and a tag at the first `%}`
abbrev pub markup_at : List ℕ → Front
markup_at text =
    let inside = drop 2 text in
    let o = first_place (begins (codes "}}")) inside in
    let t = first_place (begins (codes "%}")) inside in
    if begins (codes "{{") text then (if nat_lt o (length inside) then Output (o + 4) else Unclosed)
    else (if nat_lt t (length inside) then tag_at text (t + 4) else Unclosed)

abbrev pub front_of : List ℕ → Front
front_of text =
    let n = first_place opens text in
    if nat_lt 0 n then Text n else markup_at text

abbrev pub len_of : Front → ℕ
len_of (Text n) = n
len_of (Output n) = n
len_of (Tag n) = n
len_of (Raw n m) = n + m
len_of (Comment n m) = n + m
len_of Unclosed = 0

-- ---- Dashes

-- a dash stands just inside the start of the output or tag at the front
abbrev pub has_first_dash : List ℕ → Bool
has_first_dash text = slice_index text 2 == 45

-- a dash stands just inside the end of the output or tag of this length at the front
abbrev pub has_last_dash : List ℕ → ℕ → Bool
has_last_dash text len = slice_index text (len - 3) == 45

abbrev pub span : ℕ → ℕ → Span
span a b = record { start = a; end = b }

-- where the inside of an output or tag stands
abbrev pub inside_at : ℕ → List ℕ → ℕ → Span
inside_at at text len =
    let start = at + (if has_first_dash text then 3 else 2) in
    span start (max start (at + len - (if has_last_dash text len then 3 else 2)))

-- where a text stands of which white space is stripped at its front, and at its end where a dash follows
abbrev pub stripped_at : ℕ → Bool → List ℕ → ℕ → Span
stripped_at at trims text len =
    let shown = take len text in
    let start = at + (if trims then white_len shown else 0) in
    span start (max start (at + len - (if has_first_dash (drop len text) then suffix_len is_white shown else 0)))

-- ---- The pieces

abbrev pub line_ends : List ℕ → ℕ
line_ends text = count_by (λ c. c == 10) text

-- what is left of a text: where it stands, its line, whether its first white space is stripped, and its bytes
pub record Rest : Type 0 where
  pub at : ℕ
  pub line : ℕ
  pub trims : Bool
  pub text : List ℕ

abbrev pub size : Rest → ℕ
size r = length r.text

-- the first white space after this is stripped
abbrev pub trims_after : Front → List ℕ → Bool
trims_after (Output n) text = has_last_dash text n
trims_after (Tag n) text = has_last_dash text n
trims_after (Raw n m) text = has_last_dash text n
trims_after (Comment n m) text = has_last_dash text n
trims_after _ text = false

abbrev pub past : ℕ → Bool → Rest → Rest
past n trims r = record { at = r.at + n; line = r.line + line_ends (take n r.text); trims = trims; text = drop n r.text }

abbrev pub piece : PieceKind → ℕ → Span → Rest → Piece
piece k n inner r = record { kind = k; span = span r.at (r.at + n); inner = inner; line = r.line }

abbrev pub text_piece : ℕ → Rest → Piece
text_piece n r = piece kind.Text n (stripped_at r.at r.trims r.text n) r

abbrev pub markup_piece : PieceKind → ℕ → Rest → Piece
markup_piece k n r = piece k n (inside_at r.at r.text n) r

-- raw text, where there is any
abbrev pub raw_text : ℕ → Rest → List Piece
raw_text zero r = []
raw_text (suc n) r = text_piece (suc n) r ∷ []

-- what a comment holds, of which nothing is written
abbrev pub dropped_piece : ℕ → ℕ → ℕ → Piece
dropped_piece n at line = record { kind = kind.Text; span = span at (at + n); inner = span at at; line = line }

abbrev pub dropped_text : ℕ → Rest → List Piece
dropped_text zero r = []
dropped_text (suc n) r = dropped_piece (suc n) r.at r.line ∷ []

abbrev pub pieces_of : Front → Rest → List Piece
pieces_of (Text n) r = text_piece n r ∷ []
pieces_of (Output n) r = markup_piece kind.Output n r ∷ []
pieces_of (Tag n) r = markup_piece kind.Tag n r ∷ []
pieces_of (Raw n m) r = markup_piece kind.Tag n r ∷ raw_text m (past n (has_last_dash r.text n) r)
pieces_of (Comment n m) r = markup_piece kind.Tag n r ∷ dropped_text m (past n false r)
pieces_of Unclosed r = []

-- the pieces up to the first that has no end, and the line of that one
pub record Cut : Type 0 where
  pub pieces : List Piece
  pub unclosed : Option ℕ

abbrev pub cut_is : List Piece → Option ℕ → Cut
cut_is pieces unclosed = record { pieces = pieces; unclosed = unclosed }

abbrev pub with_front : List Piece → Cut → Cut
with_front front c = cut_is (front ++ c.pieces) c.unclosed

abbrev pub then_rest : Front → (Rest → Cut) → Rest → Cut
then_rest Unclosed rest r = cut_is [] (Some r.line)
then_rest front rest r = with_front (pieces_of front r) (rest (past (len_of front) (trims_after front r.text) r))

abbrev pub cut_step : (Rest → Cut) → Rest → Cut
cut_step rest r = if length r.text == 0 then cut_is [] None else then_rest (front_of r.text) rest r

unfoldable pub cut_from : Rest → Cut
cut_from r = down size (cut_is [] None) cut_step r

-- the pieces of a text, up to the first that has no end
abbrev pub cut_of : List ℕ → Cut
cut_of text = cut_from (record { at = 0; line = 1; trims = false; text = text })

-- the pieces of a text each of whose pieces has its end, or the line of the first that has none
abbrev pub whole_cut : Cut → Result (List Piece) ℕ
whole_cut c = elim c.unclosed [ None ↦ Ok c.pieces | Some line ↦ Err line ]

abbrev pub cut : List ℕ → Result (List Piece) ℕ
cut text = whole_cut (cut_of text)
