-- Titles made of the names of files, as Jekyll 4 makes them, in ASCII.
use Rattle.std.specs.Prelude.{ℕ, ◌==◌, Bool, List, [], ◌∷◌, ◌++◌, map}
use Rattle.std.specs.Char.{to_ascii_lowercase, to_ascii_uppercase}
use Rattle.std.specs.List.{slice_split}

abbrev pub is_dash : ℕ → Bool
is_dash b = b == 45

-- with the first character as an ASCII capital, and all others as small ASCII letters
abbrev pub capitalized : List ℕ → List ℕ
capitalized [] = []
capitalized (b ∷ part) = to_ascii_uppercase b ∷ map to_ascii_lowercase part

abbrev pub spaced : List (List ℕ) → List ℕ
spaced [] = []
spaced (part ∷ parts) = 32 ∷ (capitalized part ++ spaced parts)

abbrev pub joined : List (List ℕ) → List ℕ
joined [] = []
joined (part ∷ parts) = capitalized part ++ spaced parts

-- the parts between `-`, each capitalized, with a space between them
abbrev pub title : List ℕ → List ℕ
title name = joined (slice_split is_dash name)
