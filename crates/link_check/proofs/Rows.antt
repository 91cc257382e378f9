-- Worked rows: the links of pages, where links lead, and which are broken.
use Rattle.std.proofs.Common.{◌≡◌, ◌||◌, Bool, List, [], codes, false, refl, true, ℕ}
use Rattle.std.specs.Prelude.{◌∷◌}
use Rattle.std.specs.Str.{bytes_eq, chars, is_utf8}
use Rattle.std.proofs.Math.Utf8.{encode}
use Rattle.site_base.specs.Recursion.{down}
use Rattle.link_check.specs.Answered.{broken_at, broken_links, is_broken}
use Rattle.link_check.specs.Links.{found, links}
use Rattle.link_check.specs.Tags.{attributes}
use Rattle.link_check.specs.Targets.{decoded, plain, target}
use Rattle.link_check.specs.declared.leading.LinkTarget.TheVariants.{Bad, Outside, Path}

-- links, in their order
two : found (codes "<p><a href=\"b.html#x\">b</a><img src='/c.png' />") ≡ codes "b.html#x" ∷ codes "/c.png" ∷ []
unfolding down found attributes is_utf8 chars encode
two = refl

several : found (codes "<a SRC=x\nhReF = y data-href=z xlink:href=w href>") ≡ codes "x" ∷ codes "y" ∷ []
unfolding down found attributes is_utf8 chars encode
several = refl

empty_value : found (codes "<a href=\"\">") ≡ [] ∷ []
unfolding down found attributes is_utf8 chars encode
empty_value = refl

slash_in_value : found (codes "<a href=a/>") ≡ codes "a/" ∷ []
unfolding down found attributes is_utf8 chars encode
slash_in_value = refl

-- a tag that does not end gives nothing, and the search goes on after its `<`
no_end : found (codes "<a href=x <b src=y>") ≡ codes "y" ∷ []
unfolding down found attributes is_utf8 chars encode
no_end = refl

no_gap : found (codes "<a href='x'src='y'>") ≡ []
unfolding down found attributes is_utf8 chars encode
no_gap = refl

no_tag : found (codes "< a href=x></a href=x><1 href=x>") ≡ []
unfolding down found attributes is_utf8 chars encode
no_tag = refl

-- comments
comment : found (codes "<!-- <a href=x> --><a href=y>") ≡ codes "y" ∷ []
unfolding down found attributes is_utf8 chars encode
comment = refl

comment_of_five : found (codes "<!--><a href=x>--><a href=y>") ≡ codes "y" ∷ []
unfolding down found attributes is_utf8 chars encode
comment_of_five = refl

open_comment : found (codes "<a href=x><!-- <a href=y>") ≡ codes "x" ∷ []
unfolding down found attributes is_utf8 chars encode
open_comment = refl

not_utf8 : links (255 ∷ codes "<a href=x>") ≡ []
unfolding down found attributes is_utf8 chars encode
not_utf8 = refl

-- targets
above : target (codes "a.html") (codes "../x") [] ≡ Bad
unfolding down plain decoded is_utf8 chars encode
above = refl

host : target (codes "a.html") (codes "//h/x") [] ≡ Outside
unfolding down plain decoded is_utf8 chars encode
host = refl

query : target (codes "a.html") (codes "?q") [] ≡ Path (codes "a.html")
unfolding down plain decoded is_utf8 chars encode
query = refl

scheme : target (codes "a.html") (codes "mailto:x") [] ≡ Outside
unfolding down plain decoded is_utf8 chars encode
scheme = refl

number_scheme : target (codes "a.html") (codes "1:x") [] ≡ Path (codes "1:x")
unfolding down plain decoded is_utf8 chars encode
number_scheme = refl

beside : target (codes "a/b.html") (codes "c%20d.html?e#f") [] ≡ Path (codes "a/c d.html")
unfolding down plain decoded is_utf8 chars encode
beside = refl

folder : target (codes "a/b.html") (codes "c/") [] ≡ Path (codes "a/c/index.html")
unfolding down plain decoded is_utf8 chars encode
folder = refl

own_folder : target (codes "a/b.html") (codes ".") [] ≡ Path (codes "a/index.html")
unfolding down plain decoded is_utf8 chars encode
own_folder = refl

folder_above : target (codes "a/b/c.html") (codes "./..//x/../y") [] ≡ Path (codes "a/y")
unfolding down plain decoded is_utf8 chars encode
folder_above = refl

root : target (codes "a/b.html") (codes "..") [] ≡ Path (codes "index.html")
unfolding down plain decoded is_utf8 chars encode
root = refl

at_base : target (codes "a.html") (codes "/base") (codes "/base") ≡ Path (codes "index.html")
unfolding down plain decoded is_utf8 chars encode
at_base = refl

below_base : target (codes "a.html") (codes "/base/x&amp;amp;.css") (codes "/base") ≡ Path (codes "x&amp;.css")
unfolding down plain decoded is_utf8 chars encode
below_base = refl

beside_base : target (codes "a.html") (codes "/basement") (codes "/base") ≡ Outside
unfolding down plain decoded is_utf8 chars encode
beside_base = refl

one_digit : target (codes "a.html") (codes "%4") [] ≡ Bad
unfolding down plain decoded is_utf8 chars encode
one_digit = refl

not_text : target (codes "a.html") (codes "%FF") [] ≡ Bad
unfolding down plain decoded is_utf8 chars encode
not_text = refl

separator : target (codes "a.html") (codes "b%2Fc") [] ≡ Path (codes "b/c")
unfolding down plain decoded is_utf8 chars encode
separator = refl

sign_of_a_name : target (codes "a.html") (codes "b%3Fc%23") [] ≡ Path (codes "b?c#")
unfolding down plain decoded is_utf8 chars encode
sign_of_a_name = refl

control : target (codes "a.html") (codes "b%0A") [] ≡ Bad
unfolding down plain decoded is_utf8 chars encode
control = refl

-- broken links, in an output of two paths
has_two : List ℕ → Bool
has_two path = bytes_eq path (codes "a.html") || bytes_eq path (codes "b/index.html")

abbrev breaks : List ℕ → Bool
breaks value = is_broken has_two (codes "a.html") value []

itself : breaks (codes "#x") ≡ false
unfolding down plain decoded is_utf8 chars encode has_two
itself = refl

with_end : breaks (codes "a") ≡ false
unfolding down plain decoded is_utf8 chars encode has_two
with_end = refl

with_index : breaks (codes "/b") ≡ false
unfolding down plain decoded is_utf8 chars encode has_two
with_index = refl

missing : breaks (codes "/c.png") ≡ true
unfolding down plain decoded is_utf8 chars encode has_two
missing = refl

nowhere : breaks (codes "../a") ≡ true
unfolding down plain decoded is_utf8 chars encode has_two
nowhere = refl

elsewhere : breaks (codes "//h/x") ≡ false
unfolding down plain decoded is_utf8 chars encode has_two
elsewhere = refl

-- the broken links of a page, before and after the one that it leads to is there
page : List ℕ
page = codes "<a href=\"b.html#x\">b</a><img src=\"/c.png\">"

alone : List ℕ → Bool
alone path = bytes_eq path (codes "a.html")

beside_it : List ℕ → Bool
beside_it path = alone path || bytes_eq path (codes "b.html")

both_broken : broken_links alone (codes "a.html") [] (links page) ≡ broken_at (codes "a.html") (codes "b.html#x") ∷ broken_at (codes "a.html") (codes "/c.png") ∷ []
unfolding down found attributes plain decoded is_utf8 chars encode page alone
both_broken = refl

one_mended : broken_links beside_it (codes "a.html") [] (links page) ≡ broken_at (codes "a.html") (codes "/c.png") ∷ []
unfolding down found attributes plain decoded is_utf8 chars encode page alone beside_it
one_mended = refl
