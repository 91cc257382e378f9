-- The names of posts and the slugs of names, after the filter `slugify` of Jekyll 4's manual, "Liquid Filters".
use Rattle.std.specs.Prelude.{ℕ, Bool, List, map, flat_map}
use Rattle.std.specs.List.{list_any}
use Rattle.std.specs.Str.{bytes_eq}
use Rattle.permalinks.specs.Slug.{nonempty, slug}
use Rattle.site_base.specs.Plain.{item_list}
use Rattle.site_base.specs.Values.{value_text}
use Rattle.tag_archives.specs.declared.archive.ArchivePost.{ArchivePost}

-- the names of a post are the texts of its terms
abbrev pub names : ArchivePost → List (List ℕ)
names post = map value_text (item_list post.terms)

-- from the oldest post to the newest, and of each in its order
abbrev pub all_names : List ArchivePost → List (List ℕ)
all_names posts = flat_map names posts

-- the slugs that are not empty
abbrev pub slugs : List (List ℕ) → List (List ℕ)
slugs names = nonempty (map slug names)

abbrev pub is_of : List ℕ → List ℕ → Bool
is_of s name = bytes_eq (slug name) s

-- one of its names has the slug
abbrev pub has_slug : List ℕ → ArchivePost → Bool
has_slug s post = list_any (is_of s) (names post)
