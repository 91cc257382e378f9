-- Where a word stands in a line, in any case or as it is written.
use Rattle.std.specs.Prelude.{Bool, List, if◌then◌else◌, ℕ}
use Rattle.site_text.specs.Bytes.{lower, lowered}

-- a line, in lower case where case does not count
abbrev pub seen : Bool → List ℕ → List ℕ
seen folds t = if folds then lowered t else t

abbrev pub seen_byte : Bool → ℕ → ℕ
seen_byte folds c = if folds then lower c else c
