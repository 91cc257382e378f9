-- The names of posts: `YYYY-MM-DD-title.EXT`, after Jekyll 4's manual, "Posts".
use Rattle.std.specs.Prelude.{ℕ, ℤ, ◌==◌, nat_lt, Bool, false, ◌&&◌, List, [], ◌∷◌, length, take, drop, Option, Some, None, option_and_then, if◌then◌else◌}
use Rattle.std.specs.Option.{option_map}
use Rattle.site_dates.specs.Moment.{read_moment}
use Rattle.site_files.specs.Names.{stem, extension}
use Rattle.site_files.specs.declared.post_name.DatedName.{DatedName}

-- what follows a `-`
abbrev pub behind_dash : List ℕ → Option (List ℕ)
behind_dash [] = None
behind_dash (b ∷ rest) = if b == 45 then Some rest else None

-- a title, with the moment of the date before it
abbrev pub with_moment : Option ℤ → List ℕ → Option (ℤ × List ℕ)
with_moment moment title = option_map (λ m. (m, title)) moment

-- the moment and the title of a name that begins with a date at this offset, and `-`
abbrev pub dated_name : ℤ → List ℕ → Option (ℤ × List ℕ)
dated_name offset name = option_and_then (with_moment (read_moment (take 10 name) offset)) (behind_dash (drop 10 name))

abbrev pub has_title : Option (ℤ × List ℕ) → Bool
has_title (Some parts) = nat_lt 0 (length parts.1)
has_title None = false

-- a date, a title and an extension, of which none is empty
abbrev pub is_post_name : ℤ → List ℕ → Bool
is_post_name offset name = has_title (dated_name offset (stem name)) && nat_lt 1 (length (extension name))

abbrev pub dated_parts : DatedName → ℤ × List ℕ
dated_parts name = (name.moment, name.title.now)
