-- Archive pages: a page for each tag or category, as the plugin jekyll-archives of Jekyll 4 makes them.
use Rattle.std.specs.Prelude.{◌≡◌, ◌⊎◌, ℕ, nat_lt, Bool, List, [], ◌∷◌, ◌++◌, length, map, codes, Result, Ok, Err, if◌then◌else◌}
use Rattle.std.specs.BTreeMap.{insert_entry}
use Rattle.std.specs.List.{list_any}
use Rattle.std.specs.Map.{values_of}
use Rattle.site_base.specs.Places.{path_cmp}
use Rattle.site_base.specs.Plain.{Plain, site_item, Items, no_items, item, onto}
use Rattle.tag_archives.specs.declared.archive.Archive.{Archive}
use Rattle.tag_archives.specs.declared.archive.ArchiveError.{ArchiveError}
use Rattle.tag_archives.specs.declared.archive.ArchiveError.TheVariants.{BadPath, TooMany, Memory}
use Rattle.tag_archives.specs.declared.archive.ArchivePost.{ArchivePost}
use Rattle.tag_archives.specs.declared.archive.ArchiveWord.{ArchiveWord}
use Rattle.tag_archives.specs.declared.archive.ArchiveWord.TheVariants.{Tag, Category}
use Rattle.tag_archives.specs.Slugs.{all_names, has_slug, is_of, slugs}

abbrev pub folder : ArchiveWord → List ℕ
folder Tag = codes "tag/"
folder Category = codes "category/"

-- where the page of a slug stands
abbrev pub page_path : ArchiveWord → List ℕ → List ℕ
page_path word s = folder word ++ (s ++ codes "/index.html")

-- each slug once, in byte order of the paths of their pages
abbrev pub by_path : ArchiveWord → List (List ℕ) → List (List ℕ × List ℕ)
by_path word [] = []
by_path word (s ∷ ss) = insert_entry path_cmp (by_path word ss) (page_path word s) s

-- the first name with the slug
abbrev pub first_name : List ℕ → List (List ℕ) → List ℕ
first_name s [] = []
first_name s (name ∷ names) = if is_of s name then name else first_name s names

-- a post as a value
abbrev pub post_item : ArchivePost → Plain
post_item post = site_item post.name.path post.name.part

-- the posts that have the slug, the newest first
abbrev pub newest_first : List ℕ → List ArchivePost → Items
newest_first s [] = no_items
newest_first s (post ∷ posts) =
    if has_slug s post then onto (newest_first s posts) (item (post_item post) no_items)
    else newest_first s posts

abbrev pub archive_of : ArchiveWord → List ArchivePost → List ℕ → Archive
archive_of word posts s = record { title = first_name s (all_names posts); slug = s; path = page_path word s; posts = newest_first s posts }

-- one for each slug that a name of some post has
abbrev pub all_archives : ArchiveWord → List ArchivePost → List Archive
all_archives word posts = map (archive_of word posts) (values_of (by_path word (slugs (all_names posts))))

-- longer than the path of a site may be
abbrev pub is_long : ArchiveWord → List ℕ → Bool
is_long word s = nat_lt 1024 (length (page_path word s))

-- archives that are not more than 100,000
abbrev pub bounded : List Archive → Result (List Archive) ArchiveError
bounded made = if nat_lt 100000 (length made) then Err TooMany else Ok made

-- the archives, where no path of a page is too long
abbrev pub archives : ArchiveWord → List ArchivePost → Result (List Archive) ArchiveError
archives word posts = if list_any (is_long word) (slugs (all_names posts)) then Err BadPath else bounded (all_archives word posts)

-- memory aside, only the error that stands in place of a value
abbrev pub IsFault : {A : Type 0} → Result A ArchiveError → ArchiveError → Type 0
IsFault found error = (error ≡ Memory) ⊎ (found ≡ Err error)
