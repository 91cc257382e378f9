-- What archives list: each post under each of its names, and nothing besides.
use Rattle.std.specs.Prelude.{◌≡◌, ℕ, ◌≤◌, Bool, true, false, not, ◌&&◌, List, [], ◌∷◌, filter, length, map, reverse}
use Rattle.std.specs.List.{AllByRecursion, list_any}
use Rattle.std.specs.Str.{bytes_eq}
use Rattle.permalinks.specs.Slug.{slug}
use Rattle.site_base.specs.Places.{PathsRise}
use Rattle.site_base.specs.Plain.{Plain, item_list}
use Rattle.tag_archives.specs.Archives.{is_long, page_path, post_item}
use Rattle.tag_archives.specs.Slugs.{has_slug}
use Rattle.tag_archives.specs.declared.archive.Archive.{Archive}
use Rattle.tag_archives.specs.declared.archive.ArchivePost.{ArchivePost}
use Rattle.tag_archives.specs.declared.archive.ArchiveWord.{ArchiveWord}

-- the slug is among these
abbrev pub is_in : List ℕ → List (List ℕ) → Bool
is_in s ss = list_any (λ t. bytes_eq t s) ss

abbrev pub is_empty : List ℕ → Bool
is_empty [] = true
is_empty (b ∷ bs) = false

-- where an archive stands, and which posts it lists
pub record IsArchive (word : ArchiveWord) (posts : List ArchivePost) (a : Archive) : Type 0 where
  -- in the folder of the word, below the slug
  pub path_is : a.path ≡ page_path word a.slug
  -- the path is no longer than a site's may be
  pub short : is_long word a.slug ≡ false
  pub titled : slug a.title ≡ a.slug
  -- the posts that have the slug, each once, the newest first
  pub newest : item_list a.posts ≡ map post_item (reverse (filter (has_slug a.slug) posts))
  -- one whose item passes a test is listed exactly where a post that has the slug is such
  pub listed : (test : Plain → Bool) → list_any test (item_list a.posts) ≡ list_any (λ post. has_slug a.slug post && test (post_item post)) posts

pub record AreArchives (word : ArchiveWord) (posts : List ArchivePost) (made : List Archive) : Type 0 where
  -- in byte order of their paths, of which no two are one
  pub rise : PathsRise (map (λ a. (a.path, a)) made)
  pub each : AllByRecursion (IsArchive word posts) made
  -- there is one of a slug exactly where the slug is not empty and some post has it
  pub there : (s : List ℕ) → is_in s (map (λ a. a.slug) made) ≡ (not (is_empty s) && list_any (has_slug s) posts)
  pub few : length made ≤ 100000
