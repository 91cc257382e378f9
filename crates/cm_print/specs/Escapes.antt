-- Text as it is escaped in HTML, as in the examples of CommonMark 0.31.2; line ends in code are spaces by its section 6.1.
use Rattle.std.specs.Prelude.{ℕ, ◌==◌, Bool, false, not, ◌||◌, List, [], ◌∷◌, flat_map, if◌then◌else◌}
use Rattle.site_text.specs.Bytes.{line_feed, space}
use Rattle.site_text.specs.Urls.{escaped_byte}
use Rattle.cm_print.specs.declared.escape.Escape.{Escape}
use Rattle.cm_print.specs.declared.escape.Escape.TheVariants as escape

-- in code a line end stands for a space
abbrev pub turns : Escape → ℕ → Bool
turns escape.Text c = false
turns escape.Code c = c == line_feed

abbrev pub escape_byte : Escape → ℕ → List ℕ
escape_byte e c = if turns e c then space ∷ [] else escaped_byte c

abbrev pub escaped_as : Escape → List ℕ → List ℕ
escaped_as e t = flat_map (escape_byte e) t

-- a byte that stands for itself
abbrev pub is_plain : Escape → ℕ → Bool
is_plain e c = not (turns e c || ((c == 38) || (c == 60) || (c == 62) || (c == 34)))
