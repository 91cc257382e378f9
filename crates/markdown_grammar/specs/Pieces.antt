-- The pieces of which inlines are made: CommonMark 0.31.2, section 6.
use Rattle.std.specs.Prelude.{Bool, List, if◌then◌else◌, not, ℕ, ◌&&◌, ◌==◌, ◌||◌}
use Rattle.site_text.specs.Bytes.{star}
use Rattle.markdown_grammar.specs.Flanking.{is_unicode_punct, left_flanking, right_flanking}
use Rattle.markdown_grammar.specs.Inlines.{Inlines}

-- a piece: what is finished; a run of `*` or `_`, with its length now and at first; `[` or `![`, with the text behind it, and whether it may still open a link
pub data Piece : Type 0 where
  finished : (xs : Inlines) → Piece
  delimiter_run : (mark len first : ℕ) → (opens closes : Bool) → Piece
  open_bracket : (is_image active : Bool) → (behind : List ℕ) → Piece

-- a run of a mark between two characters: what it can open and close
abbrev pub run_at : ℕ → ℕ → ℕ → ℕ → Piece
run_at mark len before after =
    let left = left_flanking before after in
    let right = right_flanking before after in
    if mark == star then delimiter_run mark len len left right
    else delimiter_run mark len len (left && (not right || is_unicode_punct before)) (right && (not left || is_unicode_punct after))
