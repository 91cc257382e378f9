-- The rows of a table, taken one after another.
use Rattle.std.specs.Prelude.{List, None, Option, Some, [], ℕ, ◌==◌}
use Rattle.std.specs.Borrow.{Bor}
use Rattle.std.specs.List.{slice_split}
use Rattle.site_text.specs.Bytes.{line_feed}
use Rattle.cm_tables.specs.declared.rows.Rows.{Rows}

-- the lines of a text, if there is one
abbrev pub lines_in : Option (Bor (List ℕ)) → List (List ℕ)
lines_in None = []
lines_in (Some t) = slice_split (λ c. c == line_feed) t.now

-- the lines that are still to come
abbrev pub below : Rows → List (List ℕ)
below rows = lines_in rows.rest
