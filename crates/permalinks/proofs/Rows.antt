-- Worked rows: URLs, paths and slugs.
use Rattle.std.proofs.Common.{◌≡◌, [], codes, refl}
use Rattle.std.specs.Prelude.{Some, None}
use Rattle.std.specs.Str.{chars}
use Rattle.std.proofs.Math.Utf8.{encode}
use Rattle.ucd_category.proofs.Computing.{ucd_category}
use Rattle.permalinks.specs.declared.parts.UrlParts.{UrlParts}
use Rattle.permalinks.specs.Dest.{dest}
use Rattle.permalinks.specs.Slug.{slug}
use Rattle.permalinks.specs.Url.{url}

abbrev post : UrlParts
post = record { year = Some (codes "2009"); month = Some (codes "04"); day = Some (codes "29"); i_month = None; i_day = None; short_year = None; y_day = Some (codes "119"); hour = None; minute = None; second = None; title = Some (codes "slap-chop"); slug = Some (codes "slap-chop"); categories = Some []; name = None; basename = None; path = None; collection = None; output_ext = Some (codes ".html") }

by_date : url (codes "/:categories/:year/:month/:day/:title:output_ext") post ≡ Some (codes "/2009/04/29/slap-chop.html")
by_date = refl

pretty : url (codes ":year/:y_day//:title//") post ≡ Some (codes "/2009/119/slap-chop/")
pretty = refl

empty : url (codes "") post ≡ Some (codes "/")
empty = refl

unknown : url (codes "/:nope/") post ≡ None
unknown = refl

absent : url (codes "/:hour") post ≡ None
absent = refl

no_name : url (codes "/a:/b") post ≡ None
no_name = refl

folder : dest (codes "/a/") (codes ".html") ≡ codes "a/index.html"
folder = refl

root : dest (codes "/") (codes ".html") ≡ codes "index.html"
root = refl

file : dest (codes "/a.html") (codes ".html") ≡ codes "a.html"
file = refl

without_end : dest (codes "/a/b") (codes ".html") ≡ codes "a/b.html"
without_end = refl

two_words : slug (codes "A b!") ≡ codes "a-b"
unfolding chars ucd_category encode
two_words = refl

gaps : slug (codes " --x_ .Y9 ") ≡ codes "x-y9"
unfolding chars ucd_category encode
gaps = refl
