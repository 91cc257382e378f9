-- What stands in front of a path in an address. After Jekyll 4's manual, "Liquid Filters": `relative_url`, `absolute_url`.
use Rattle.std.specs.Prelude.{ℕ, ◌-◌, ◌==◌, Bool, false, not, List, [], ◌∷◌, ◌++◌, length, take, slice_index, if◌then◌else◌}

-- not empty, and no `/` at the front
abbrev pub lacks_slash : List ℕ → Bool
lacks_slash [] = false
lacks_slash (c ∷ cs) = not (c == 47)

-- behind one `/`, where it is not empty
abbrev pub behind_slash : List ℕ → List ℕ
behind_slash t = if lacks_slash t then 47 ∷ t else t

-- without one `/` at its end
abbrev pub without_last_slash : List ℕ → List ℕ
without_last_slash t = if slice_index t (length t - 1) == 47 then take (length t - 1) t else t

-- a site's `url` and its `baseurl`, as they stand before a path
abbrev pub front : List ℕ → List ℕ → List ℕ
front url base = url ++ behind_slash (without_last_slash base)
