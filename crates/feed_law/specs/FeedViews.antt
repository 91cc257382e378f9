-- What the look-ups of a feed find: the site's title, its addresses and its clock, and its newest posts.
use Rattle.std.specs.Prelude.{◌≡◌, ℕ, nat_lt, nat_le, ℤ, Bool, false, List, [], ◌∷◌, ◌==◌, length, map, take, codes, Some}
use Rattle.site_base.specs.Plain.{Plain, text, list, site_item, Items, item_list}
use Rattle.site_base.specs.Values.{value_text}
use Rattle.filter_base.specs.Dates.{is_now, offset_in}
use Rattle.filter_base.specs.Limits.{most_text, most_nesting, nests}
use Rattle.filter_base.specs.Numerals.{is_digits}
use Rattle.liquid_values.specs.StrictOptions.{present}
use Rattle.permalinks.specs.Addresses.{front}
use Rattle.read_record.specs.declared.key.Key.TheVariants.{Content, SiteVar, Var}
use Rattle.read_record.specs.Queries.{View, Known}
use Rattle.site_dates.specs.Format.{format_moment}
use Rattle.std.specs.Option.{unwrap_or}
use Rattle.feed_pages.specs.Feed.{Post}

-- a date as the variable of a post has it: neither a word for the present nor digits alone
pub record IsDate (t : List ℕ) : Type 0 where
  pub some : (length t == 0) ≡ false
  pub dated : is_now t ≡ false
  pub marked : is_digits t ≡ false
  pub short : nat_lt most_text (length t) ≡ false

-- a moment as the variable of a post has it
abbrev pub date_variable : ℤ → ℤ → List ℕ
date_variable offset moment = unwrap_or (format_moment moment offset (codes "%Y-%m-%d %H:%M:%S %z")) (codes "")

-- what a view finds of a post
pub record Finds (view : View) (p : Post) : Type 0 where
  pub title : view (Var p.name (codes "title")) ≡ Known p.title
  pub titled : present p.title ≡ Some p.title
  pub url : view (Var p.name (codes "url")) ≡ Known (text p.url)
  pub rooted : (rest : List ℕ) × (p.url ≡ 47 ∷ rest)
  pub date : view (Var p.name (codes "date")) ≡ Known (text p.date)
  pub is-date : IsDate p.date
  pub content : view (Content p.name) ≡ Known (text p.content)

abbrev pub FindsAll : View → List Post → Type 0
FindsAll view [] = Unit {0}
FindsAll view (p ∷ ps) = Finds view p × FindsAll view ps

-- the value of a post
abbrev pub post_value : Post → Plain
post_value p = site_item p.name.path p.name.part

-- what stands in front of each address: the site's `url` and its `baseurl`
abbrev pub base_of : Plain → Plain → List ℕ
base_of url baseurl = front (value_text url) (value_text baseurl)

-- what a feed rests on
pub record Given : Type 0 where
  pub title : Plain
  pub url : Plain
  pub baseurl : Plain
  pub zone : Plain
  -- all posts, the newest first
  pub all : Items
  -- the first ten of them
  pub posts : List Post

pub record FeedView (view : View) (g : Given) : Type 0 where
  pub title : view (SiteVar (codes "title")) ≡ Known g.title
  pub url : view (SiteVar (codes "url")) ≡ Known g.url
  pub baseurl : view (SiteVar (codes "baseurl")) ≡ Known g.baseurl
  pub zone : view (SiteVar (codes "timezone")) ≡ Known g.zone
  pub posts : view (SiteVar (codes "posts")) ≡ Known (list g.all)
  pub first-ten : take 10 (item_list g.all) ≡ map post_value g.posts
  pub found : FindsAll view g.posts

-- the site's title nests no deeper than a value may
abbrev pub is_flat : Given → Bool
is_flat g = nat_le (nests g.title) most_nesting

-- the offset of the site's clocks
abbrev pub offset_of : Given → ℤ
offset_of g = offset_in g.zone

abbrev pub base : Given → List ℕ
base g = base_of g.url g.baseurl
