-- Segments as the code keeps them: the last one after the others.
use Rattle.std.specs.Prelude.{Bool, List, None, Option, Some, [], if◌then◌else◌, length, map, reverse, ℕ, ◌==◌, ◌||◌, ◌∷◌}
use Rattle.std.specs.Borrow.{Bor}
use Rattle.site_base.specs.Path.{is_dots}
use Rattle.site_text.specs.Bytes.{slash}
use Rattle.site_text.specs.Fronts.{begins_with}

abbrev pub shown : List (Bor (List ℕ)) → List (List ℕ)
shown segments = map (λ (s : Bor (List ℕ)). s.now) segments

abbrev pub reversed : List (Bor (List ℕ)) → List (List ℕ)
reversed segments = reverse (shown segments)

-- what is made of the rest, where a segment leads anywhere
abbrev pub kept : Bool → Option (List (List ℕ)) → Option (List (List ℕ))
kept leads rest = if leads then rest else None

-- a segment that names a folder: it is empty, `.` or `..`
abbrev pub is_folder : List ℕ → Bool
is_folder s = (length s == 0) || is_dots s

-- the `index.html` of a folder is what is named, also where no segment is left
abbrev pub has_index : Bool → List (List ℕ) → Bool
has_index is_folder segments = is_folder || (length segments == 0)

-- what stands after the base: nothing, or what begins with `/`
abbrev pub after_base : List ℕ → Option (List ℕ)
after_base rest = if (length rest == 0) || begins_with (slash ∷ []) rest then Some rest else None

abbrev pub slash_before : List ℕ → List ℕ
slash_before s = slash ∷ s
