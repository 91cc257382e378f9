-- Which paths of an output stay, though the site lacks them.
use Rattle.std.specs.Prelude.{ℕ, ◌==◌, ◌-◌, Bool, ◌||◌, ◌&&◌, List, length, take, slice_index, nat_eq, nat_lt, if◌then◌else◌}
use Rattle.std.specs.List.{list_any, starts_with}
use Rattle.std.specs.Str.{bytes_eq}

-- the path is this one, or begins with it and `/`
abbrev pub is_at_or_below : List ℕ → List ℕ → Bool
is_at_or_below path folder = bytes_eq path folder || (starts_with nat_eq path folder && (slice_index path (length folder) == 47))

-- an entry, without a `/` at its end
abbrev pub without_slash : List ℕ → List ℕ
without_slash entry = if nat_lt 0 (length entry) && (slice_index entry (length entry - 1) == 47) then take (length entry - 1) entry else entry

-- one of the entries keeps the path
abbrev pub is_kept : List (List ℕ) → List ℕ → Bool
is_kept entries path = list_any (λ entry. is_at_or_below path (without_slash entry)) entries
