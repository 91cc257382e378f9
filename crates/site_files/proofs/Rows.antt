-- Worked rows: names and places.
use Rattle.std.proofs.Common.{◌≡◌, [], codes, refl, true, false}
use Rattle.std.specs.Prelude.{Some, None, pos}
use Rattle.jiff_core.specs.Calendar.{day_count, days_from_civil, days_of_months, days_of_years}
use Rattle.site_base.specs.Plain.{nil, hash, list, text, item, no_items, pair, no_pairs}
use Rattle.site_config.specs.Config.{config}
use Rattle.site_config.specs.declared.config.Config.{Config}
use Rattle.site_files.specs.Names.{extension, file_name, folder, stem}
use Rattle.site_files.specs.PostNames.{dated_name, is_post_name}
use Rattle.site_files.specs.Places.{common_place, is_folder_of, lies_in, lies_in_posts, place_of, post_place}
use Rattle.site_files.specs.declared.place.Place.TheVariants.{Configuration, Layout, Include, Data, Post, Draft, Collection, Common, Nowhere}

abbrev bare : Config
bare = config nil

-- a collection `c`, `_pages` and `vendor` brought in, `tmp/` left out
abbrev full : Config
full = config (hash
    (pair (codes "collections") (list (item (text (codes "c")) no_items))
    (pair (codes "include") (list (item (text (codes "_pages")) (item (text (codes "vendor/bundle/keep")) no_items)))
    (pair (codes "exclude") (list (item (text (codes "tmp/")) no_items)) no_pairs))))

name_of_a_path : file_name (codes "a/b/c.tar.gz") ≡ codes "c.tar.gz"
name_of_a_path = refl

folder_of_a_path : folder (codes "a/b/c") ≡ codes "a/b"
folder_of_a_path = refl

folder_of_the_root : folder (codes "c") ≡ []
folder_of_the_root = refl

last_extension : extension (codes "c.tar.gz") ≡ codes ".gz"
last_extension = refl

hidden_file_has_none : extension (codes ".htaccess") ≡ []
hidden_file_has_none = refl

name_without_extension : stem (codes "c.tar.gz") ≡ codes "c.tar"
name_without_extension = refl

date_of_a_name : dated_name (pos 0) (codes "1970-01-02-a-b") ≡ Some (pos 86400, codes "a-b")
unfolding days_from_civil day_count days_of_years days_of_months
date_of_a_name = refl

no_such_day : dated_name (pos 0) (codes "2023-02-29-a") ≡ None
unfolding days_from_civil day_count days_of_years days_of_months
no_such_day = refl

post_without_title : is_post_name (pos 0) (codes "2020-01-01-.md") ≡ false
unfolding days_from_civil day_count days_of_years days_of_months
post_without_title = refl

post_without_extension : is_post_name (pos 0) (codes "2020-01-01-a") ≡ false
unfolding days_from_civil day_count days_of_years days_of_months
post_without_extension = refl

the_configuration : place_of bare false (codes "_config.yml") ≡ Configuration
the_configuration = refl

a_layout : place_of bare false (codes "_layouts/deep/a.html") ≡ Layout
unfolding lies_in lies_in_posts post_place common_place is_folder_of
a_layout = refl

a_hidden_layout : place_of bare false (codes "_layouts/_deep/a.html") ≡ Nowhere
unfolding lies_in lies_in_posts post_place common_place is_folder_of
a_hidden_layout = refl

an_include : place_of bare false (codes "_includes/a.html") ≡ Include
unfolding lies_in lies_in_posts post_place common_place is_folder_of
an_include = refl

a_data_file : place_of bare false (codes "_data/a.yml") ≡ Data
unfolding lies_in lies_in_posts post_place common_place is_folder_of
a_data_file = refl

a_post : place_of bare false (codes "news/_posts/2020-01-01-a.md") ≡ Post
unfolding lies_in lies_in_posts post_place common_place is_folder_of days_from_civil day_count days_of_years days_of_months
a_post = refl

a_post_without_date : place_of bare false (codes "_posts/a.md") ≡ Nowhere
unfolding lies_in lies_in_posts post_place common_place is_folder_of
a_post_without_date = refl

a_post_of_a_collection : place_of full false (codes "_c/_posts/2020-01-01-a.md") ≡ Nowhere
unfolding lies_in lies_in_posts post_place common_place is_folder_of
a_post_of_a_collection = refl

a_draft : place_of bare true (codes "_drafts/a.md") ≡ Draft
unfolding lies_in lies_in_posts post_place common_place is_folder_of
a_draft = refl

drafts_are_off : place_of bare false (codes "_drafts/a.md") ≡ Nowhere
unfolding lies_in lies_in_posts post_place common_place is_folder_of
drafts_are_off = refl

a_document : place_of full false (codes "_c/deep/a.md") ≡ Collection 1
unfolding lies_in lies_in_posts post_place common_place is_folder_of
a_document = refl

no_collection : place_of bare false (codes "_c/a.md") ≡ Nowhere
unfolding lies_in lies_in_posts post_place common_place is_folder_of
no_collection = refl

brought_in : place_of full false (codes "deep/_pages/a.md") ≡ Common
unfolding lies_in lies_in_posts post_place common_place is_folder_of
brought_in = refl

left_out : place_of full false (codes "tmp/a.md") ≡ Nowhere
unfolding lies_in lies_in_posts post_place common_place is_folder_of
left_out = refl

left_out_by_default : place_of full false (codes "vendor/bundle/a") ≡ Nowhere
unfolding lies_in lies_in_posts post_place common_place is_folder_of
left_out_by_default = refl

kept_in_what_is_left_out : place_of full false (codes "vendor/bundle/keep/a") ≡ Common
unfolding lies_in lies_in_posts post_place common_place is_folder_of
kept_in_what_is_left_out = refl

in_sight : place_of full false (codes "a/index.html") ≡ Common
unfolding lies_in lies_in_posts post_place common_place is_folder_of
in_sight = refl

backup : place_of bare false (codes "a/b.md~") ≡ Nowhere
unfolding lies_in lies_in_posts post_place common_place is_folder_of
backup = refl
