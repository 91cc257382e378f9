-- How archives are gathered: from the newest post to the oldest, and of each post from its last term to its first, so that the
-- first name of a slug is met last, and lists grow at their ends.
use Rattle.std.specs.Prelude.{◌≡◌, ◌⊎◌, ℕ, suc, ◌==◌, Bool, true, List, [], ◌∷◌, length, map, Option, Some, None, IfSome, IsSome, Result, Ok, Err, unwrap_or, if◌then◌else◌}
use Rattle.std.specs.BTreeMap.{BTreeMap, get, insert_entry, is_at}
use Rattle.std.specs.List.{list_any}
use Rattle.std.specs.Map.{lookup}
use Rattle.permalinks.specs.Slug.{slug}
use Rattle.site_base.specs.Path.{path_refusal}
use Rattle.site_base.specs.Places.{path_cmp}
use Rattle.site_base.specs.Plain.{Plain, no_items, item, onto}
use Rattle.site_base.specs.View.{items_of}
use Rattle.site_base.specs.declared.value.Value.{Value}
use Rattle.tag_archives.specs.Archives.{by_path, first_name, is_long, newest_first, page_path}
use Rattle.tag_archives.specs.Slugs.{all_names, has_slug, slugs}
use Rattle.tag_archives.specs.declared.archive.Archive.{Archive}
use Rattle.tag_archives.specs.declared.archive.ArchiveError.{ArchiveError}
use Rattle.tag_archives.specs.declared.archive.ArchiveError.TheVariants.{BadPath, Memory}
use Rattle.tag_archives.specs.declared.archive.ArchivePost.{ArchivePost}
use Rattle.tag_archives.specs.declared.archive.ArchiveWord.{ArchiveWord}
use Rattle.tag_archives.specs.declared.group.Group.{Group}
use Rattle.tag_archives.specs.declared.page.Page.{Page}

-- the page of a slug, which the empty one has not
abbrev pub page_at : ArchiveWord → List ℕ → Option Page
page_at word [] = None
page_at word (b ∷ bs) = Some (record { slug = b ∷ bs; path = page_path word (b ∷ bs) })

abbrev pub page_of : ArchiveWord → List ℕ → Result (Option Page) ArchiveError
page_of word name = if is_long word (slug name) then Err BadPath else Ok (page_at word (slug name))

-- the pages that are kept are those of their names
abbrev pub AreKnown : ArchiveWord → BTreeMap (List ℕ) (Option Page) → Type 0
AreKnown word known = (name : List ℕ) → IfSome (get path_cmp known name) (λ page. page_of word name ≡ Ok page)

-- from the oldest post that has the slug on, how many posts there are
abbrev pub since : List ℕ → List ArchivePost → ℕ
since s [] = 0
since s (post ∷ posts) = if has_slug s post then suc (length posts) else since s posts

abbrev pub group_of : List ArchivePost → List ℕ → Group
group_of posts s = record { title = first_name s (all_names posts); slug = s; posts = newest_first s posts; since = since s posts }

-- the groups of posts by the paths of their pages
abbrev pub groups_of : ArchiveWord → List ArchivePost → List (List ℕ × Group)
groups_of word posts = map (λ e. (e.0, group_of posts e.1)) (by_path word (slugs (all_names posts)))

abbrev pub has_long : ArchiveWord → List ArchivePost → Bool
has_long word posts = list_any (is_long word) (slugs (all_names posts))

-- the post with these terms alone
abbrev pub with_terms : ArchivePost → List Value → ArchivePost
with_terms post terms = record { name = post.name; terms = items_of terms }

abbrev pub no_group : Group
no_group = record { title = []; slug = []; posts = no_items; since = 0 }

-- a group with a further post, unless this was the last
abbrev pub joined : List ℕ → List ℕ → Plain → ℕ → Group → Group
joined s name post number old = record { title = name; slug = s; posts = if old.since == number then old.posts else onto old.posts (item post no_items); since = number }

-- the group that stands at a path, or the one that would be begun
abbrev pub group_at : List ℕ → List (List ℕ × Group) → Group
group_at path groups = unwrap_or (lookup (is_at (path_cmp path)) groups) no_group

abbrev pub joined_at : Option Page → List ℕ → Plain → ℕ → List (List ℕ × Group) → List (List ℕ × Group)
joined_at None name post number groups = groups
joined_at (Some page) name post number groups = insert_entry path_cmp groups page.path (joined page.slug name post number (group_at page.path groups))

-- a name of a post besides
abbrev pub with_name : ArchiveWord → List ℕ → Plain → ℕ → List (List ℕ × Group) → List (List ℕ × Group)
with_name word name post number groups = joined_at (page_at word (slug name)) name post number groups

-- memory aside, only a text that is no path of a site is refused
abbrev pub IsNoPath : List ℕ → ArchiveError → Type 0
IsNoPath text error = (error ≡ Memory) ⊎ ((error ≡ BadPath) × IsSome (path_refusal text))

-- memory aside, only that there is a path that is too long
abbrev pub IsLongFault : Bool → ArchiveError → Type 0
IsLongFault long error = (error ≡ Memory) ⊎ ((error ≡ BadPath) × (long ≡ true))

abbrev pub archive_at : List ℕ × Group → Archive
archive_at e = record { title = e.1.title; slug = e.1.slug; path = e.0; posts = e.1.posts }
