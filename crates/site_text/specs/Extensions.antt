-- Extensions of file names, and lists of them. After Jekyll 4's manual, "Configuration Options".
use Rattle.std.specs.Prelude.{ℕ, ◌==◌, Bool, false, List, [], ◌∷◌}
use Rattle.std.specs.List.{list_any, slice_split}
use Rattle.std.specs.Str.{bytes_eq}

abbrev pub is_comma : ℕ → Bool
is_comma b = b == 44

-- a `.` and one of the names between commas
abbrev pub is_listed : List ℕ → List ℕ → Bool
is_listed names [] = false
is_listed names (dot ∷ name) = list_any (bytes_eq name) (slice_split is_comma names)
