-- Lines as one text, with a line end behind each: CommonMark 0.31.2, section 2.1.
use Rattle.std.specs.Prelude.{List, [], length, slice_index, take, ℕ, ◌++◌, ◌-◌, ◌<◌, ◌∷◌, ◌≡◌}
use Rattle.site_text.specs.Bytes.{line_feed}

-- a line with its end
abbrev pub ended : List ℕ → List ℕ
ended t = t ++ line_feed ∷ []

-- lines without the end of the last
abbrev pub unended : List ℕ → List ℕ
unended text = take (length text - 1) text

-- there is no text, or it ends with a line end
abbrev pub EndsLine : List ℕ → Type 0
EndsLine text = 0 < length text → slice_index text (length text - 1) ≡ line_feed
