-- The byte of a list item's mark: CommonMark 0.31.2, section 5.2.
use Rattle.std.specs.Prelude.{ℕ}
use Rattle.site_text.specs.Bytes.{full_stop, hyphen, plus_sign, right_paren, star}
use Rattle.cm_starts.specs.declared.list_marks.ListMark.{ListMark}
use Rattle.cm_starts.specs.declared.list_marks.ListMark.TheVariants.{FullStop, Hyphen, Parenthesis, Plus, Star}

abbrev pub mark_byte : ListMark → ℕ
mark_byte Hyphen = hyphen
mark_byte Plus = plus_sign
mark_byte Star = star
mark_byte FullStop = full_stop
mark_byte Parenthesis = right_paren
