-- Where a line stands, as far as what it may start depends on it: CommonMark 0.31.2, sections 4 and 5.1.
use Rattle.std.specs.Prelude.{Bool, false, true}

-- after no open paragraph; outside of the containers of an open paragraph, whose lazy line it may be; or in a paragraph, which has text beside its definitions or not
pub data Place : Type 0 where
  not_in_paragraph : Place
  beside_paragraph : Place
  in_paragraph : (has_text : Bool) → Place

-- no paragraph is open
abbrev pub is_fresh : Place → Bool
is_fresh not_in_paragraph = true
is_fresh beside_paragraph = false
is_fresh (in_paragraph b) = false
