-- What the items of a site say of its archives: each post stands in the pages of its tags and of its categories, and nothing else does.
use Rattle.std.specs.Prelude.{◌≡◌, ◌⊎◌, ℕ, Bool, true, false, List, [], ◌∷◌, ◌++◌, map}
use Rattle.std.specs.List.{AllByRecursion}
use Rattle.site_config.specs.declared.config.Config.{Config}
use Rattle.site_reader.specs.Making.{archive_page, archive_posts, asks_for}
use Rattle.site_reader.specs.declared.site.Site.{Site}
use Rattle.site_reader.specs.declared.site_item.SiteItem.{SiteItem}
use Rattle.tag_archives.specs.Archives.{folder}
use Rattle.tag_archives.specs.Listing.{AreArchives}
use Rattle.tag_archives.specs.declared.archive.Archive.{Archive}
use Rattle.tag_archives.specs.declared.archive.ArchivePost.{ArchivePost}
use Rattle.tag_archives.specs.declared.archive.ArchiveWord.{ArchiveWord}

-- it is one of these
abbrev pub IsAmong : SiteItem → List SiteItem → Type 0
IsAmong i [] = ⊥
IsAmong i (j ∷ js) = (i ≡ j) ⊎ IsAmong i js

-- where they are asked for they list each post under each of its names, and nothing besides; else there are none
abbrev pub AreAsked : Bool → ArchiveWord → List ArchivePost → List Archive → Type 0
AreAsked true word posts made = AreArchives word posts made
AreAsked false word posts made = made ≡ []

-- it was made, and stands in the folder of the word
pub record IsBelow (word : ArchiveWord) (i : SiteItem) : Type 0 where
  pub part : i.name.part ≡ 1
  pub rest : List ℕ
  pub path : i.name.path ≡ folder word ++ rest

-- the items have the archives of a word that a configuration asks for
pub record HasArchives (config : Config) (items : List SiteItem) (word : ArchiveWord) : Type 0 where
  pub made : List Archive
  pub are : AreAsked (asks_for config word) word (archive_posts word items) made
  -- the page of each is one of the items
  pub each : AllByRecursion (λ (a : Archive). IsAmong (archive_page config word a) items) made
  -- and an item that was made and stands in the folder of the word is the page of one
  pub only : AllByRecursion (λ i. IsBelow word i → IsAmong i (map (archive_page config word) made)) items

-- a site has those of tags, and those of categories
abbrev pub IsArchived : Site → Type 0
IsArchived site = (word : ArchiveWord) → HasArchives site.config site.items word
