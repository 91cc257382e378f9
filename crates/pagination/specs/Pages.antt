-- The pages over which posts are spread, and the paths of these pages, after Jekyll 4's manual, "Pagination".
use Rattle.std.specs.Prelude.{ℕ, ◌+◌, ◌-◌, ◌/◌, ◌==◌, nat_eq, Bool, List, [], ◌∷◌, ◌++◌, drop, flat_map, codes, if◌then◌else◌}
use Rattle.std.specs.List.{slice_split, starts_with}
use Rattle.std.specs.Fmt.{decimal}
use Rattle.site_base.specs.Path.{is_absolute}

-- how many pages of this size hold the posts: the quotient, rounded up
abbrev pub page_count : ℕ → ℕ → ℕ
page_count posts per_page = (posts + (per_page - 1)) / per_page

abbrev pub is_colon : ℕ → Bool
is_colon b = b == 58

-- what stands in a path for a colon and the part of the pattern behind it: where the part begins with `num`, the digits
-- in place of `:num`, and otherwise both as they are
abbrev pub numbered : List ℕ → List ℕ → List ℕ
numbered digits part = if starts_with nat_eq part (codes "num") then digits ++ drop 3 part else 58 ∷ part

-- the first part, and the others, each behind its colon
abbrev pub joined : List ℕ → List (List ℕ) → List ℕ
joined digits [] = []
joined digits (part ∷ parts) = part ++ flat_map (numbered digits) parts

-- the pattern, with the digits in place of each `:num`
abbrev pub filled : List ℕ → List ℕ → List ℕ
filled digits pattern = joined digits (slice_split is_colon pattern)

-- `/`, where the text does not begin with one
abbrev pub missing_slash : List ℕ → List ℕ
missing_slash text = if is_absolute text then [] else codes "/"

-- the path of the page of this number
abbrev pub page_path : List ℕ → ℕ → List ℕ
page_path pattern number = missing_slash pattern ++ filled (decimal number) pattern
