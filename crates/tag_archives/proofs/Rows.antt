-- Worked rows: archives of a few posts.
use Rattle.std.proofs.Common.{◌≡◌, ℕ, true, false, List, [], ◌∷◌, codes, refl}
use Rattle.std.specs.Prelude.{Ok}
use Rattle.std.specs.List.{repeat}
use Rattle.std.specs.Str.{chars}
use Rattle.std.proofs.Math.Utf8.{encode}
use Rattle.ucd_category.proofs.Computing.{ucd_category}
use Rattle.site_base.specs.Plain.{Items, item, no_items, site_item, text}
use Rattle.tag_archives.specs.Archives.{archives, is_long}
use Rattle.tag_archives.specs.declared.archive.ArchivePost.{ArchivePost}
use Rattle.tag_archives.specs.declared.archive.ArchiveWord.TheVariants.{Tag, Category}

abbrev post : List ℕ → Items → ArchivePost
post path terms = record { name = record { path = path; part = 0 }; terms = terms }

abbrev older : ArchivePost
older = post (codes "a") (item (text (codes "X y")) (item (text (codes "z")) no_items))

abbrev newer : ArchivePost
newer = post (codes "b") (item (text (codes "x-y")) no_items)

abbrev listed : List ℕ → Items → Items
listed path others = item (site_item path 0) others

no_posts : archives Tag [] ≡ Ok []
no_posts = refl

two_posts : archives Tag (older ∷ newer ∷ []) ≡ Ok (
    record { title = codes "X y"; slug = codes "x-y"; path = codes "tag/x-y/index.html"; posts = listed (codes "b") (listed (codes "a") no_items) }
    ∷ record { title = codes "z"; slug = codes "z"; path = codes "tag/z/index.html"; posts = listed (codes "a") no_items } ∷ [])
unfolding chars ucd_category encode
two_posts = refl

-- names with one slug, the first of them the title; the post stands once; names without a slug have no page
one_slug : archives Category (post (codes "a") (item (text (codes "A b")) (item (text (codes "!!!")) (item (text (codes "a-b")) no_items))) ∷ []) ≡ Ok (
    record { title = codes "A b"; slug = codes "a-b"; path = codes "category/a-b/index.html"; posts = listed (codes "a") no_items } ∷ [])
unfolding chars ucd_category encode
one_slug = refl

-- the order is that of paths, where `-` stands before `/`
path_order : archives Tag (post (codes "a") (item (text (codes "a")) (item (text (codes "a-b")) no_items)) ∷ []) ≡ Ok (
    record { title = codes "a-b"; slug = codes "a-b"; path = codes "tag/a-b/index.html"; posts = listed (codes "a") no_items }
    ∷ record { title = codes "a"; slug = codes "a"; path = codes "tag/a/index.html"; posts = listed (codes "a") no_items } ∷ [])
unfolding chars ucd_category encode
path_order = refl

longest_tag : is_long Tag (repeat 1009 (97 ∷ [])) ≡ false
longest_tag = refl

long_tag : is_long Tag (repeat 1010 (97 ∷ [])) ≡ true
long_tag = refl

longest_category : is_long Category (repeat 1004 (97 ∷ [])) ≡ false
longest_category = refl

long_category : is_long Category (repeat 1005 (97 ∷ [])) ≡ true
long_category = refl
