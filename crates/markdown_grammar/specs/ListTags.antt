-- The tags around the items of a list, as they are printed.
use Rattle.std.specs.Prelude.{Bool, List, [], codes, decimal, false, if◌then◌else◌, not, reverse, ℕ, ◌++◌, ◌==◌, ◌||◌, ◌∷◌}
use Rattle.site_text.specs.Bytes.{hyphen, line_feed, plus_sign, star}
use Rattle.site_text.specs.Fronts.{first_byte}
use Rattle.markdown_grammar.specs.Fronts.{is_empty}

-- the text with a line end, unless nothing stands before on the line
abbrev pub fresh_line : List ℕ → List ℕ
fresh_line out = let last = first_byte (reverse out) in if is_empty out || (last == line_feed) then out else out ++ line_feed ∷ []

-- the list whose items are being printed
pub data Open : Type 0 where
  no_list : Open
  in_list : (kind : ℕ) → (loose : Bool) → Open

-- the kind of an item is its mark's last byte; these are bullets
abbrev pub is_bullet : ℕ → Bool
is_bullet kind = (kind == star) || ((kind == plus_sign) || (kind == hyphen))

-- the text so far, with the end tag of an open list
abbrev pub list_closed : Open → List ℕ → List ℕ
list_closed no_list out = out
list_closed (in_list kind loose) out = out ++ (if is_bullet kind then codes "</ul>\n" else codes "</ol>\n")

-- the start tag of a list
abbrev pub list_tag : ℕ → ℕ → List ℕ
list_tag kind number = if is_bullet kind then codes "<ul>\n" else if number == 1 then codes "<ol>\n" else codes "<ol start=\"" ++ (decimal number ++ codes "\">\n")

-- an item goes on the open list
abbrev pub belongs : ℕ → Open → Bool
belongs kind no_list = false
belongs kind (in_list k loose) = k == kind

-- the text so far, with the start tag of the list of an item
abbrev pub opened : Open → ℕ → ℕ → List ℕ → List ℕ
opened open_list kind number out = if belongs kind open_list then out else fresh_line (list_closed open_list out) ++ list_tag kind number

-- the list that is open behind an item
abbrev pub open_after : Open → ℕ → Bool → Open
open_after open_list kind loose = if belongs kind open_list then open_list else in_list kind loose

-- no blank line stands between blocks of the list
abbrev pub is_tight : Open → Bool
is_tight no_list = false
is_tight (in_list kind loose) = not loose
