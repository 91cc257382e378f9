-- A quote before a text, as the code looks for its end.
use Rattle.std.specs.Prelude.{List, ◌≡◌, ◌<◌, ℕ, ◌==◌, length, not}
use Rattle.site_text.specs.Classes.{is_in}
use Rattle.site_text.specs.Fronts.{first_byte}
use Rattle.site_text.specs.declared.classes.Class.{Class}

-- the text begins with a byte of ASCII, and the class is that of all other bytes
pub record IsQuoted (others : Class) (t : List ℕ) : Type 0 where
  pub some : 0 < length t
  pub ascii : first_byte t < 128
  pub differ : (c : ℕ) → is_in others c ≡ not (c == first_byte t)
