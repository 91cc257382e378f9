-- Worked rows of what a site answers.
use Rattle.std.proofs.Common.{◌≡◌, ℕ, List, [], ◌∷◌, true, false, pos, Some, None, option_map, refl}
use Rattle.std.specs.Prelude.{codes, Option}
use Rattle.read_record.specs.Queries.{Known, Missing}
use Rattle.read_record.specs.declared.outcome.Outcome.{Outcome}
use Rattle.read_record.specs.declared.outcome.Outcome.TheVariants.{Done}
use Rattle.site_base.specs.Plain.{nil, int, text, hash, no_items, item, no_pairs, pair}
use Rattle.site_base.specs.declared.value.Value.TheVariants as value
use Rattle.site_reader.specs.declared.site_item.SiteItem.{SiteItem}
use Rattle.site_world.specs.Sights.{content_of, output_of, is_post_named, post_named, under}

abbrev post_at : List ℕ → SiteItem
post_at path = record { name = record { path = path; part = 0 }; group = 0; body = codes "body"; vars = value.Nil; url = path; dest = None; paginator = value.Nil }

-- ---- names of posts

by_its_file : is_post_named (codes "2020-01-01-a") (post_at (codes "cat/_posts/2020-01-01-a.md")) ≡ true
by_its_file = refl

below_posts_with_folders : is_post_named (codes "sub/2020-01-01-a") (post_at (codes "_posts/sub/2020-01-01-a.md")) ≡ true
below_posts_with_folders = refl

a_draft_by_its_file : is_post_named (codes "d") (post_at (codes "_drafts/d.md")) ≡ true
a_draft_by_its_file = refl

no_empty_name : is_post_named [] (post_at (codes "_drafts/d.md")) ≡ false
no_empty_name = refl

the_lowest_path : option_map (λ (i : SiteItem). i.url) (post_named (codes "a") (post_at (codes "b/_posts/a.md") ∷ post_at (codes "a/_posts/a.md") ∷ [])) ≡ Some (codes "a/_posts/a.md")
the_lowest_path = refl

-- ---- earlier and later items

abbrev known : ℕ → Option Outcome
known place = Some (Done (codes "C") (codes "O"))

abbrev unknown : ℕ → Option Outcome
unknown place = None

an_earlier_item_that_is_done : content_of 1 known (Some (0, post_at (codes "a.md"))) ≡ Known (text (codes "C"))
an_earlier_item_that_is_done = refl

an_earlier_item_that_is_not : content_of 1 unknown (Some (0, post_at (codes "a.md"))) ≡ Missing 0
an_earlier_item_that_is_not = refl

the_reader_itself : content_of 1 known (Some (1, post_at (codes "a.md"))) ≡ Known (text (codes "body"))
the_reader_itself = refl

no_output_of_a_later_item : output_of 1 known (Some (2, post_at (codes "a.md"))) ≡ Known nil
no_output_of_a_later_item = refl

-- ---- data

below_a_key : under (item (text (codes "a")) no_items) (hash (pair (codes "a") (int (pos 1)) no_pairs)) ≡ int (pos 1)
below_a_key = refl

below_what_is_no_hash : under (item (text (codes "a")) no_items) (int (pos 1)) ≡ nil
below_what_is_no_hash = refl
