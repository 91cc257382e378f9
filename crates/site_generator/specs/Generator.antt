-- The made-up site for measuring: a layout, a page that names the posts, and posts whose titles are pseudorandom numbers.
use Rattle.std.specs.Prelude.{ℕ, zero, suc, ◌+◌, ◌*◌, ◌%◌, List, ◌++◌, codes}
use Rattle.std.specs.Fmt.{decimal}
use Rattle.std.specs.FinMap.{empty, insert}
use Rattle.site_base.specs.Places.{Files}

-- the number in the next title: a linear congruence with the numbers of the C standard's example of `rand`, modulo 2^31
abbrev pub next_title : ℕ → ℕ
next_title title = (1103515245 * title + 12345) % 2147483648

-- the number in the title of a post, counted from 0, in the site of a number
abbrev pub title_of : ℕ → ℕ → ℕ
title_of number zero = number % 2147483648
title_of number (suc post) = next_title (title_of number post)

-- where a post stands, all of them on one day
abbrev pub post_path : ℕ → List ℕ
post_path post = codes "_posts/2020-01-01-p" ++ (decimal post ++ codes ".md")

-- the bytes of a post with this title
abbrev pub post_bytes : List ℕ → List ℕ
post_bytes title = codes "---\nlayout: base\ntitle: " ++ (title ++ codes "\n---\n*n* {{ page.title }}\n")

-- the title with this number
abbrev pub numbered_title : ℕ → List ℕ
numbered_title number = codes "T" ++ decimal number

abbrev pub layout_path : List ℕ
layout_path = codes "_layouts/base.html"

abbrev pub layout_bytes : List ℕ
layout_bytes = codes "<b>{{ content }}</b>\n"

abbrev pub page_path : List ℕ
page_path = codes "index.html"

abbrev pub page_bytes : List ℕ
page_bytes = codes "---\n---\n{% for p in site.posts %}{{ p.title }} {% endfor %}\n"

-- the site of a number with so many posts
abbrev pub made_site : ℕ → ℕ → Files
made_site number zero = insert (insert empty layout_path layout_bytes) page_path page_bytes
made_site number (suc posts) = insert (made_site number posts) (post_path posts) (post_bytes (numbered_title (title_of number posts)))

-- the post that the edit replaces
abbrev pub edited_path : ℕ → ℕ → List ℕ
edited_path number count = post_path (number % count)

-- it gets the title `U`
abbrev pub edited_bytes : List ℕ
edited_bytes = post_bytes (codes "U")

-- the site once it is edited
abbrev pub edited_site : ℕ → ℕ → Files
edited_site number count = insert (made_site number count) (edited_path number count) edited_bytes
