-- Worked rows: titles, posts, and which post is edited.
use Rattle.std.proofs.Common.{◌≡◌, codes, refl}
use Rattle.std.specs.Fmt.{digits}
use Rattle.site_generator.specs.Generator.{edited_bytes, edited_path, numbered_title, post_bytes, post_path, title_of}

first_title : title_of 2147483649 0 ≡ 1
first_title = refl

second_title : title_of 1 1 ≡ 1103527590
second_title = refl

third_title : title_of 1 2 ≡ 377401575
third_title = refl

path : post_path 12 ≡ codes "_posts/2020-01-01-p12.md"
unfolding digits
path = refl

post : post_bytes (numbered_title 377401575) ≡ codes "---\nlayout: base\ntitle: T377401575\n---\n*n* {{ page.title }}\n"
unfolding digits
post = refl

edited : edited_path 7 3 ≡ codes "_posts/2020-01-01-p1.md"
unfolding digits
edited = refl

edited_post : edited_bytes ≡ codes "---\nlayout: base\ntitle: U\n---\n*n* {{ page.title }}\n"
edited_post = refl
