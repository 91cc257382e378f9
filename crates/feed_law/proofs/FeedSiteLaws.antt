-- What a reader finds of a site's newest posts.
use Rattle.std.proofs.Common.{◌≡◌, ◌∙◌, refl, ap, sym, subst, ℕ, zero, suc, Bool, true, false, not, ◌&&◌, List, [], ◌∷◌, codes, map, take, Option, if◌then◌else◌}
use Rattle.std.specs.Option.{unwrap_or}
use Rattle.std.specs.Str.{bytes_eq}
use Rattle.site_base.specs.Places.{Files}
use Rattle.site_base.specs.Plain.{Plain, nil, text, Pairs, no_pairs, pair, get, set, item_list, onto_pairs}
use Rattle.site_base.specs.Values.{value_text}
use Rattle.site_base.specs.View.{plain}
use Rattle.site_config.specs.Forms.{setting}
use Rattle.site_items.specs.Defaults.{set_all}
use Rattle.site_reader.specs.declared.site.Site.{Site}
use Rattle.site_reader.specs.declared.site_item.SiteItem.{SiteItem}
use Rattle.site_variables.specs.Hashes.{documents_by_name}
use Rattle.site_variables.specs.Lists.{each, named, newest_posts, pages, html_pages, documents}
use Rattle.site_variables.specs.Settings.{settings}
use Rattle.site_variables.specs.Variables.{site_variable, variables, hash_variables, label_variables}
use Rattle.site_world.specs.Sights.{placed, variable_of, content_of, done_content}
use Rattle.read_record.specs.Queries.{Known}
use Rattle.read_record.specs.declared.outcome.Outcome.{Outcome}
use Rattle.feed_law.proofs.FeedDates.{variable_dated}
use Rattle.feed_law.proofs.FeedPostLaws.{title_set, date_set}
use Rattle.feed_law.proofs.PairLaws.{other_set, same_set}
use Rattle.feed_law.specs.FeedSites.{AllRendered, IsRendered, SiteLaw, newest, post_of, sees}
use Rattle.feed_law.specs.FeedViews.{Finds, FindsAll, IsDate, date_variable, post_value}

-- ---- The variable `posts`

abbrev pub lacks : List ℕ → Pairs → Bool
lacks x no_pairs = true
lacks x (pair k v ps) = not (bytes_eq x k) && lacks x ps

-- what these pairs lack is as it was under them
pub all_set : (x : List ℕ) (ps under : Pairs) → lacks x ps ≡ true → get x (set_all ps under) ≡ get x under
all_set x no_pairs under h = refl
all_set x (pair k v ps) under h = by (bytes_eq x k) refl h (all_set x ps (set k v under))
  where
    by : (b : Bool) → bytes_eq x k ≡ b → (not b && lacks x ps) ≡ true → (lacks x ps ≡ true → get x (set_all ps (set k v under)) ≡ get x (set k v under)) → get x (set_all ps (set k v under)) ≡ get x under
    by true is h rest = cc
    by false is h rest = rest h ∙ other_set x k v is under

-- the variables that the site has of itself, behind its posts
abbrev own_others : Site → Pairs
own_others site =
    onto_pairs (pair (codes "pages") (pages site) (pair (codes "html_pages") (html_pages site) (pair (codes "documents") (documents site) no_pairs))) (onto_pairs (hash_variables site) (label_variables site))

abbrev other_variables : Site → Pairs
other_variables site = set_all (settings site.config) (set_all (documents_by_name site) site.config.all)

pub posts_are : (site : Site) → site_variable site (codes "posts") ≡ newest_posts site
unfolding variables
posts_are site =
    ap (λ (o : Option Plain). unwrap_or o nil)
    (all_set (codes "posts") (own_others site) (set (codes "posts") (newest_posts site) (other_variables site)) refl ∙ same_set (codes "posts") (newest_posts site) (other_variables site))

ten_of : (content : SiteItem → List ℕ) (n : ℕ) (is : List SiteItem) → take n (item_list (each named is)) ≡ map post_value (map (post_of content) (take n is))
ten_of content zero is = refl
ten_of content (suc n) [] = refl
ten_of content (suc n) (i ∷ is) = ap (λ (vs : List Plain). named i ∷ vs) (ten_of content n is)

-- ---- A post

module _ (files : Files) (site : Site) (reader : ℕ) (known : ℕ → Option Outcome) (content : SiteItem → List ℕ) where
  variable_found : (i : SiteItem) → IsRendered site reader known content i → (x : List ℕ) → Known (variable_of x (placed i.name site.items)) ≡ Known (setting x (plain i.vars))
  variable_found i h x = ap (λ (o : Option (ℕ × SiteItem)). Known (variable_of x o)) h.stands

  content_found : (i : SiteItem) → IsRendered site reader known content i → content_of reader known (placed i.name site.items) ≡ Known (text (content i))
  content_found i h =
      ap (content_of reader known) h.stands
      ∙ ap (λ (b : Bool). if b then done_content h.place (known h.place) else Known (text i.body)) h.before
      ∙ ap (done_content h.place) h.done

  date_is : (i : SiteItem) (h : IsRendered site reader known content i) → setting (codes "date") (plain i.vars) ≡ text (date_variable site.config.timezone h.date)
  date_is i h = date_set site.config i h.has h.document h.whole h.date h.moment

  post_found : (i : SiteItem) → IsRendered site reader known content i → Finds (sees files site reader known) (post_of content i)
  post_found i h =
      let date = date_is i h in
      record {
        title = variable_found i h (codes "title");
        titled = title_set site.config i h.has h.document h.whole;
        url = variable_found i h (codes "url") ∙ ap Known h.knows.url;
        rooted = h.rooted;
        date = variable_found i h (codes "date") ∙ ap Known (date ∙ sym (ap (λ (v : Plain). text (value_text v)) date));
        is-date = subst (λ (v : Plain). IsDate (value_text v)) (sym date) (variable_dated site.config.timezone h.date);
        content = content_found i h;
      }

  posts_found : (is : List SiteItem) → AllRendered site reader known content is → FindsAll (sees files site reader known) (map (post_of content) is)
  posts_found [] h = tt
  posts_found (i ∷ is) h = (post_found i h.0, posts_found is h.1)

pub site_law : SiteLaw
site_law files site reader known content h = record {
  title = refl;
  url = refl;
  baseurl = refl;
  zone = refl;
  posts = ap Known (posts_are site);
  first-ten = ten_of content 10 (newest site);
  found = posts_found files site reader known content (take 10 (newest site)) h;
}
