-- A worked row: a feed of one post.
use Rattle.std.proofs.Common.{◌≡◌, ◌∙◌, ap, ℕ, List, [], ◌∷◌, ◌++◌, codes, refl, rules}
use Rattle.std.specs.Prelude.{Some, pos}
use Rattle.jiff_core.specs.Calendar.{days_of_years, days_of_months, day_count, days_from_civil}
use Rattle.site_base.specs.Plain.{text}
use Rattle.site_dates.specs.Days.{day_of, ymd}
use Rattle.site_dates.specs.Moment.{read_moment}
use Rattle.site_dates.specs.Shown.{shown_on}
use Rattle.site_dates.proofs.DayCounts.{day_of_is}
use Rattle.feed_pages.specs.Feed.{Post, feed, date_text, date_or, shown_time}

new_year : day_of (pos 18262) ≡ ymd (pos 2020) 1 1
unfolding days_from_civil day_count days_of_years days_of_months
new_year = day_of_is (pos 18262) (record { year = pos 2020; month = 1; day = 1; year_in = search rules; month_in = search rules; day_in = search rules }) refl (search rules)

read : read_moment (codes "2020-01-01 00:00:00 +0000") (pos 0) ≡ Some (pos 1577836800)
unfolding days_from_civil day_count days_of_years days_of_months
read = refl

date_row : date_text (pos 0) (codes "2020-01-01 00:00:00 +0000") ≡ codes "2020-01-01T00:00:00+00:00"
date_row = ap (date_or (pos 0) (codes "2020-01-01 00:00:00 +0000")) read ∙ ap (λ date. shown_time (shown_on (pos 1577836800) (pos 0) date 0)) new_year

abbrev post : Post
post = record {
  name = record { path = codes "_posts/2020-01-01-a.md"; part = 0 };
  url = codes "/2020/01/01/a.html";
  title = text (codes "A");
  date = codes "2020-01-01 00:00:00 +0000";
  content = codes "<p>A &amp; b</p>\n";
}

row : feed (pos 0) (codes "https://e.org") (text (codes "T")) (post ∷ [])
    ≡ codes "<?xml version=\"1.0\" encoding=\"utf-8\"?>\n<feed xmlns=\"http://www.w3.org/2005/Atom\">\n<title>T</title>\n<id>https://e.org/feed.xml</id>\n<updated>2020-01-01T00:00:00+00:00</updated>\n<entry><title>A</title><id>https://e.org/2020/01/01/a.html</id><link href=\"https://e.org/2020/01/01/a.html\"/><updated>2020-01-01T00:00:00+00:00</updated><content type=\"html\">&lt;p&gt;A &amp;amp; b&lt;/p&gt;\n</content></entry>\n</feed>\n"
row =
    ap (λ (d : List ℕ).
    (codes "<?xml version=\"1.0\" encoding=\"utf-8\"?>\n<feed xmlns=\"http://www.w3.org/2005/Atom\">\n<title>T</title>\n<id>https://e.org/feed.xml</id>\n<updated>" ++ (d ++ codes "</updated>\n")) ++ ((
    (codes "<entry><title>A</title><id>https://e.org/2020/01/01/a.html</id><link href=\"https://e.org/2020/01/01/a.html\"/><updated>" ++ (d ++
    codes "</updated><content type=\"html\">&lt;p&gt;A &amp;amp; b&lt;/p&gt;\n</content></entry>\n")) ++ []) ++ codes "</feed>\n")) date_row
