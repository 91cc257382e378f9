-- The posts of a site are rendered before the pages that are generated, of which its feed is one.
use Rattle.std.proofs.Common.{◌≡◌, ◌≢◌, ℕ, zero, suc, ◌+◌, ◌-◌, ◌<◌, Bool, true, false, cond, eqb-true, lt-ltb, List, [], ◌∷◌, ◌++◌, append_assoc, append-nil, get_or, length, length-append, reverse, take, Some, None, Result, Ok, Err, arith, refl, sym, ap, subst, ◌∙◌}
use Rattle.std.specs.Prelude.{ℤ, All, nat_lt, slice_get}
use Rattle.std.specs.FinMap.{empty}
use Rattle.std.specs.List.{AllByRecursion, position_or_len}
use Rattle.std.specs.Option.{option_and_then, option_map}
use Rattle.std.proofs.lemmas.List.{get_or-reverse, length-reverse}
use Rattle.std.proofs.lemmas.List.Elements.{All-filter, All-take, filter_passes, recursion_from_All}
use Rattle.std.proofs.lemmas.List.Sums.{position_or_len_is}
use Rattle.std.proofs.lemmas.Option.{get_or_from_slice_get, slice_get-get_or, slice_get-map, slice_get_within}
use Rattle.feed_law.specs.FeedSites.{AllRendered, IsRendered, newest}
use Rattle.memo_table.specs.Names.{same_name}
use Rattle.memo_table.specs.SameNames.{same_name-eq, same_name-refl}
use Rattle.read_record.specs.Outcomes.{Page}
use Rattle.read_record.specs.Queries.{Met, Gave, Failed, Missed, interpret}
use Rattle.read_record.specs.declared.outcome.Outcome.{Outcome}
use Rattle.read_record.specs.declared.outcome.Outcome.TheVariants.{Done}
use Rattle.render_workers.specs.Folds.{Folded, after_count, after_item, counted, fold_from, fold_of}
use Rattle.round_core.specs.Meant.{Given}
use Rattle.site_base.specs.Places.{Files}
use Rattle.site_base.specs.declared.faults.SiteFault.{SiteFault}
use Rattle.site_base.specs.declared.item_name.ItemName.{ItemName}
use Rattle.site_base.specs.declared.settings.Settings.{Settings}
use Rattle.site_dates.specs.Moment.{IsMoment}
use Rattle.site_reader.proofs.LawfulSites.{read_lawfully}
use Rattle.feed_law.proofs.Parted.{PostsFirst, group_of, posts_before_others, stands_before}
use Rattle.site_reader.proofs.Weights.{found_before}
use Rattle.site_reader.specs.Lawful.{Differ, HasVariables, IsLawful, KnowsItself}
use Rattle.site_reader.specs.Making.{generated_group}
use Rattle.site_reader.specs.Sites as sites
use Rattle.site_reader.specs.declared.site.Site.{Site}
use Rattle.site_reader.specs.declared.site_item.SiteItem.{SiteItem}
use Rattle.site_session.specs.Feeds.{content_at, content_of, own_text}
use Rattle.site_session.specs.Full.{given_of, rendered}
use Rattle.site_variables.specs.Lists.{is_in, posts}
use Rattle.site_world.specs.Sights.{fixed_bytes, item_names, placed}

-- ---- lists

module _ {A : Type 0} where
  take_front : (xs ys : List A) → take (length xs) (xs ++ ys) ≡ xs
  take_front [] ys = refl
  take_front (x ∷ xs) ys = ap (λ zs. x ∷ zs) (take_front xs ys)

  get_next : (xs ys : List A) (y : A) → slice_get (xs ++ y ∷ ys) (length xs) ≡ Some y
  get_next [] ys y = refl
  get_next (x ∷ xs) ys y = get_next xs ys y

  get_taken : (n k : ℕ) (xs : List A) → k < n → slice_get (take n xs) k ≡ slice_get xs k
  get_taken zero k xs below = absurd (omega (arith, below))
  get_taken (suc n) k [] below = refl
  get_taken (suc n) zero (x ∷ xs) below = refl
  get_taken (suc n) (suc k) (x ∷ xs) below = get_taken n k xs (omega (arith, below))

  all_reversed : (P : A → Type 0) (xs : List A) → All P xs → All P (reverse xs)
  all_reversed P xs all k d within =
      let inside : k < length xs = omega (arith, within, length-reverse xs) in
      subst P (sym (get_or-reverse xs k d inside)) (all (length xs - 1 - k) d (omega (arith, inside)))

-- ---- what a fold gives

-- an item came to its outcome, and it saw the outcomes before it
abbrev pub CameTo : Given → List Outcome → ℕ → ItemName → Type 0
CameTo g outs place name = (page : Page) × (interpret (g.sight place (slice_get (take place outs))) (g.item name) ≡ Gave page) × (slice_get outs place ≡ Some (Done page.content page.output))

-- the outcomes of the items that are left
record Left (g : Given) (names : List ItemName) (outs all : List Outcome) : Type 0 where
  left : List Outcome
  joined : outs ++ left ≡ all
  count : length left ≡ length names
  came : (place : ℕ) (name : ItemName) → slice_get names place ≡ Some name → CameTo g all (length outs + place) name

same_gave : (outs all : List Outcome) → ◌≡◌ {A = Folded} (Gave outs) (Gave all) → outs ≡ all
same_gave outs all e = cc (e)

module _ (g : Given) (name : ItemName) (names : List ItemName) (outs all : List Outcome) where
  one_more : (page : Page) → interpret (g.sight (length outs) (slice_get outs)) (g.item name) ≡ Gave page → Left g names (outs ++ Done page.content page.output ∷ []) all → Left g (name ∷ names) outs all
  one_more page is rest = record { left = one ∷ rest.left; joined = joined; count = ap suc rest.count; came = came }
    where
      one : Outcome
      one = Done page.content page.output

      joined : outs ++ one ∷ rest.left ≡ all
      joined = sym (append_assoc outs (one ∷ []) rest.left) ∙ rest.joined

      before : take (length outs) all ≡ outs
      before = ap (take (length outs)) (sym joined) ∙ take_front outs (one ∷ rest.left)

      here : CameTo g all (length outs) name
      here =
          (page, ap (λ known. interpret (g.sight (length outs) (slice_get known)) (g.item name)) before ∙ is, ap (λ os. slice_get os (length outs)) (sym joined) ∙ get_next outs rest.left one)

      came : (place : ℕ) (other : ItemName) → slice_get (name ∷ names) place ≡ Some other → CameTo g all (length outs + place) other
      came zero other there =
          let same : name ≡ other = cc (there) in
          let place : length outs ≡ length outs + 0 = omega arith in
          subst (CameTo g all (length outs + 0)) same (subst (λ k. CameTo g all k name) place here)
      came (suc place) other there =
          let next : length (outs ++ one ∷ []) + place ≡ length outs + suc place = omega (arith, length-append outs (one ∷ [])) in
          subst (λ k. CameTo g all k other) next (rest.came place other there)

  with_count : (page : Page) → interpret (g.sight (length outs) (slice_get outs)) (g.item name) ≡ Gave page → (bytes : Result ℕ SiteFault)
      → after_count bytes (Done page.content page.output) outs (fold_from g names) ≡ Gave all
      → ((n : ℕ) → fold_from g names (outs ++ Done page.content page.output ∷ []) n ≡ Gave all → Left g names (outs ++ Done page.content page.output ∷ []) all) → Left g (name ∷ names) outs all
  with_count page is (Ok n) e rest = one_more page is (rest n e)
  with_count page is (Err fault) e rest = absurd (cc (e))

  with_item : (bytes : ℕ) (met : Met SiteFault Page) → interpret (g.sight (length outs) (slice_get outs)) (g.item name) ≡ met → after_item met name outs bytes (fold_from g names) ≡ Gave all
      → ((o : Outcome) (n : ℕ) → fold_from g names (outs ++ o ∷ []) n ≡ Gave all → Left g names (outs ++ o ∷ []) all) → Left g (name ∷ names) outs all
  with_item bytes (Gave page) is e rest = with_count page is (counted (Done page.content page.output) name bytes) e (rest (Done page.content page.output))
  with_item bytes (Failed fault) is e rest = absurd (cc (e))
  with_item bytes (Missed key place) is e rest = absurd (cc (e))

fold_left : (g : Given) (names : List ItemName) (outs : List Outcome) (bytes : ℕ) (all : List Outcome) → fold_from g names outs bytes ≡ Gave all → Left g names outs all
unfolding fold_from
fold_left g [] outs bytes all e = record { left = []; joined = append-nil outs ∙ same_gave outs all e; count = refl; came = λ place name there. absurd (cc (there)) }
fold_left g (name ∷ names) outs bytes all e =
    with_item g name names outs all bytes (interpret (g.sight (length outs) (slice_get outs)) (g.item name)) refl e (λ o n. fold_left g names (outs ++ o ∷ []) n all)

-- there are as many outcomes as items, and each item came to its own
pub fold_gives : (g : Given) (fixed : ℕ) (outs : List Outcome) → fold_of g fixed ≡ Gave outs
    → (length outs ≡ length g.names) × ((place : ℕ) (name : ItemName) → slice_get g.names place ≡ Some name → CameTo g outs place name)
fold_gives g fixed outs e =
    let whole = fold_left g g.names [] fixed outs e in
    (ap length (sym whole.joined) ∙ whole.count, λ place name there. let same : 0 + place ≡ place = omega arith in subst (λ k. CameTo g outs k name) same (whole.came place name there))

-- ---- an item by its name

module _ (items : List SiteItem) (differ : Differ (λ (i : SiteItem). i.name) items) where
  module _ (place : ℕ) (item : SiteItem) (there : slice_get items place ≡ Some item) where
    abbrev is_named : SiteItem → Bool
    is_named other = same_name other.name item.name

    itself : get_or items place item ≡ item
    itself = get_or_from_slice_get items place item item there

    other_name : (a : ItemName) → a ≢ item.name → same_name a item.name ≡ false
    other_name a other = by (same_name a item.name) refl
      where
        by : (b : Bool) → same_name a item.name ≡ b → b ≡ false
        by true is = absurd (other (same_name-eq a item.name is))
        by false is = refl

    first_named : position_or_len is_named items ≡ place
    first_named =
        let within = slice_get_within items place item there in
        position_or_len_is is_named items place item (omega (arith, within))
        (λ k below. other_name (get_or items k item).name (λ same. differ k place item below within (same ∙ ap (λ (i : SiteItem). i.name) (sym itself))))
        (λ _. ap is_named itself ∙ same_name-refl item.name)

    -- it stands at its place
    pub stands : placed item.name items ≡ Some (place, item)
    stands =
        let found : cond (nat_lt place (length items)) (Some place) None ≡ Some place = ap (λ b. cond b (Some place) None) (lt-ltb place (length items) (slice_get_within items place item there)) in
        ap (option_and_then (λ k. option_map (λ i. (k, i)) (slice_get items k))) (ap (λ k. cond (nat_lt k (length items)) (Some k) None) first_named ∙ found)
        ∙ ap (option_map (λ i. (place, i))) there

-- ---- posts

module _ (files : Files) (site : Site) (outs : List Outcome) (reader : ℕ) (last : SiteItem) (lawful : IsLawful files site) (first : PostsFirst site.items)
    (fold : rendered files site ≡ Gave outs) (at : slice_get site.items reader ≡ Some last) (other : last.group ≢ 0) where
  abbrev IsDone : SiteItem → Type 0
  IsDone i = IsRendered site reader (slice_get (take reader outs)) (content_of site outs) i

  post_rendered : (place : ℕ) (i : SiteItem) → slice_get site.items place ≡ Some i → KnowsItself i → HasVariables site.config i → i.group ≡ 0 → IsDone i
  post_rendered place i there knows has post =
      let given = given_of files site empty in
      let before : place < reader = stands_before group_of site.items place reader i last there at post other first in
      let named : slice_get (item_names site) place ≡ Some i.name = slice_get-map (λ (j : SiteItem). j.name) site.items place ∙ ap (option_map (λ (j : SiteItem). j.name)) there in
      let came : CameTo given outs place i.name = (fold_gives given (fixed_bytes files site) outs fold).1 place i.name named in
      let place_is : placed i.name site.items ≡ Some (place, i) = stands site.items lawful.items_differ place i there in
      let content : content_of site outs i ≡ came.0.content = ap (content_at outs) place_is ∙ ap own_text came.2 in
      let is = has.post post in
      record {
        place = place;
        stands = place_is;
        before = lt-ltb place reader before;
        output = came.0.output;
        done = get_taken reader place outs before ∙ came.2 ∙ ap (λ bytes. Some (Done bytes came.0.output)) (sym content);
        knows = knows;
        rooted = has.rooted is.whole;
        has = has;
        document = is.document;
        whole = is.whole;
        date = is.date;
        moment = is.dated;
      }

  posts_rendered : All IsDone (posts site.items)
  posts_rendered place other inside =
      All-filter (is_in 0) (λ i. i.group ≡ 0 → IsDone i) site.items
      (λ k d within. post_rendered k (get_or site.items k d) (slice_get-get_or site.items k d within) (lawful.items_known k d within) (lawful.variables k d within)) place other inside
      (eqb-true _ 0 (filter_passes (is_in 0) site.items place other inside))

  each_rendered : (is : List SiteItem) → AllByRecursion IsDone is → AllRendered site reader (slice_get (take reader outs)) (content_of site outs) is
  each_rendered [] all = tt
  each_rendered (i ∷ is) all = (all.0, each_rendered is all.1)

  newest_rendered : AllRendered site reader (slice_get (take reader outs)) (content_of site outs) (take 10 (newest site))
  newest_rendered =
      each_rendered (take 10 (newest site)) (recursion_from_All IsDone (take 10 (newest site)) (All-take IsDone 10 (newest site) (all_reversed IsDone (posts site.items) posts_rendered)))

-- ---- a site that was read

pub site_lawful : (files : Files) (moment : ℤ) (settings : Settings) (site : Site) → IsMoment moment → sites.site files moment settings ≡ Ok site → IsLawful files site
unfolding sites.site
site_lawful files moment settings site is read =
    let config = found_before (sites.config files) (sites.site_with files moment settings) site read in
    read_lawfully files moment settings config.0 (Ok site) config.1 is config.2

-- the ten newest posts are rendered before each page that is generated
pub ten_rendered : (files : Files) (moment : ℤ) (settings : Settings) (site : Site) (outs : List Outcome) → IsMoment moment → sites.site files moment settings ≡ Ok site → rendered files site ≡ Gave outs
    → (place : ℕ) (item : SiteItem) → slice_get site.items place ≡ Some item → item.group ≡ generated_group site.config
    → AllRendered site place (slice_get (take place outs)) (content_of site outs) (take 10 (newest site))
ten_rendered files moment settings site outs is read fold place item there group =
    newest_rendered files site outs place item (site_lawful files moment settings site is read) (posts_before_others files moment settings site read) fold there (λ none. absurd (omega (arith, group, none)))
