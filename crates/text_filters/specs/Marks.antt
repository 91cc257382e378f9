-- Texts in which something else stands for some marks. After the reference of Liquid 4 (Shopify), "Filters": `escape`, `escape_once`, `newline_to_br`, `strip_newlines`; and of Jekyll 4's manual,
-- "Liquid Filters": `xml_escape`, `normalize_whitespace`.
use Rattle.std.specs.Prelude.{ℕ, zero, suc, ◌==◌, nat_lt, Bool, false, ◌&&◌, List, [], ◌∷◌, ◌++◌, drop, codes, if◌then◌else◌, Option, Some, None}
use Rattle.std.specs.Borrow.{Bor}
use Rattle.std.specs.List.{prefix_len}
use Rattle.site_base.specs.Lines.{begins_lf}
use Rattle.site_text.specs.Bytes.{is_digit, is_letter}
use Rattle.filter_base.specs.White.{is_white, begins_white}
use Rattle.text_filters.specs.declared.marks.Mark.{Mark}
use Rattle.text_filters.specs.declared.marks.Mark.TheVariants.{Escape, EscapeOnce, EscapeXml, LineBreak, LineEnd, WhiteSpace}

-- how many bytes behind the first belong to a mark, and what stands for it
abbrev pub Found : Type 0
Found = Option (ℕ × List ℕ)

-- a mark of one byte
abbrev pub single : Option (List ℕ) → Found
single (Some instead) = Some (0, instead)
single None = None

abbrev pub reference : ℕ → Option (List ℕ)
reference c =
    if c == 38 then Some (codes "&amp;")
    else if c == 60 then Some (codes "&lt;")
    else if c == 62 then Some (codes "&gt;")
    else if c == 34 then Some (codes "&quot;")
    else if c == 39 then Some (codes "&#39;")
    else None

abbrev pub escape : List ℕ → Found
escape [] = None
escape (c ∷ cs) = single (reference c)

abbrev pub begins_semicolon : List ℕ → Bool
begins_semicolon [] = false
begins_semicolon (c ∷ cs) = c == 59

-- some bytes of this kind, and `;`
abbrev pub is_run : (ℕ → Bool) → List ℕ → Bool
is_run p t = nat_lt 0 (prefix_len p t) && begins_semicolon (drop (prefix_len p t) t)

-- what follows an `&` that begins a reference: letters, or `#` and digits, and `;`
abbrev pub is_reference : List ℕ → Bool
is_reference [] = false
is_reference (c ∷ cs) = if c == 35 then is_run is_digit cs else is_run is_letter (c ∷ cs)

abbrev pub escape_once : List ℕ → Found
escape_once [] = None
escape_once (c ∷ cs) = if (c == 38) && is_reference cs then None else single (reference c)

-- all but the single quote
abbrev pub escape_xml : List ℕ → Found
escape_xml [] = None
escape_xml (c ∷ cs) = if c == 39 then None else single (reference c)

abbrev pub line_break : List ℕ → Found
line_break [] = None
line_break (c ∷ cs) = if c == 10 then Some (0, codes "<br />" ++ 10 ∷ []) else None

-- LF, and a CR with it
abbrev pub line_end : List ℕ → Found
line_end [] = None
line_end (c ∷ cs) =
    if c == 10 then Some (0, [])
    else if (c == 13) && begins_lf cs then Some (1, [])
    else None

-- the last of a run is a space
abbrev pub white_space : List ℕ → Found
white_space [] = None
white_space (c ∷ cs) = if is_white c then Some (0, if begins_white cs then [] else codes " ") else None

-- the mark at the front of a text
abbrev pub mark_at : Mark → List ℕ → Found
mark_at Escape t = escape t
mark_at EscapeOnce t = escape_once t
mark_at EscapeXml t = escape_xml t
mark_at LineBreak t = line_break t
mark_at LineEnd t = line_end t
mark_at WhiteSpace t = white_space t

-- a text from its front, of which the first bytes are passed over
unfoldable pub marked_after : Mark → ℕ → List ℕ → List ℕ
marked_after m passed [] = []
marked_after m (suc passed) (c ∷ cs) = marked_after m passed cs
marked_after m zero (c ∷ cs) = elim (mark_at m (c ∷ cs)) [ None ↦ c ∷ marked_after m zero cs | Some found ↦ found.1 ++ marked_after m found.0 cs ]

-- a text in which something else stands for each mark
abbrev pub marked : Mark → List ℕ → List ℕ
marked m t = marked_after m 0 t

-- what a call finds, by its own references
abbrev pub found_of : Option (ℕ × Bor (List ℕ)) → Found
found_of (Some x) = Some (x.0, x.1.now)
found_of None = None
