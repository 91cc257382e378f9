-- What pagination keeps of the items of a site.
use Rattle.std.proofs.Common.{◌≡◌, ℕ, zero, suc, ◌+◌, ◌-◌, ◌*◌, ◌<◌, ◌≤◌, Bool, true, false, ◌&&◌, ltb, ltb-true, ltb-false, ◌==◌, List, [], ◌∷◌, ◌++◌, length, map, drop, take, get_or, slice_get, slice_set, if◌then◌else◌, codes, Option, Some, None, Result, Ok, Err, inl, inr, ◌⊎◌, arith, refl, sym, ap, subst, ◌∙◌}
use Rattle.std.specs.List.{AllByRecursion}
use Rattle.std.specs.Option.{option_or}
use Rattle.std.specs.Prelude.{MatchResult}
use Rattle.std.specs.Str.{bytes_eq}
use Rattle.std.proofs.Math.Nat.{div-eq_of_lt, div-lt_iff_lt-mul, div-le_of_le-mul}
use Rattle.std.proofs.lemmas.Bool.{eqb-true}
use Rattle.std.proofs.lemmas.List.{length-reverse}
use Rattle.std.proofs.lemmas.Option.{get_or_from_slice_get, slice_get-get_or, slice_get_past}
use Rattle.std.proofs.lemmas.List.Quantifiers.{position-Some}
use Rattle.site_base.specs.Chains.{◌>>=◌}
use Rattle.site_base.specs.Plain.{Items, Pairs, Plain, item, no_items, onto}
use Rattle.site_base.specs.declared.faults.SiteFault.{SiteFault}
use Rattle.site_base.specs.declared.item_name.ItemName.{ItemName}
use Rattle.site_base.specs.declared.value.Value.TheVariants as value
use Rattle.pagination.specs.Pages.{page_count, page_path}
use Rattle.permalinks.specs.Dest.{dest}
use Rattle.site_config.specs.declared.config.Config.{Config}
use Rattle.site_items.specs.Addresses.{if_path}
use Rattle.site_items.specs.Extensions.{html}
use Rattle.site_reader.specs.Found.{Found, IsFirst, in_file}
use Rattle.site_reader.specs.Paginating as paged
use Rattle.site_reader.specs.Placing.{config_path}
use Rattle.site_reader.specs.declared.paging.Paging.{Paging}
use Rattle.site_reader.specs.declared.site_error.SiteError.{SiteError}
use Rattle.site_reader.specs.declared.site_error.SiteError.TheVariants as site_error
use Rattle.site_reader.specs.declared.site_item.SiteItem.{SiteItem}
use Rattle.site_reader.proofs.Weights.{found_before, found_value}

-- ---- lists of values

pub onto_item : (is js : Items) (v : Plain) → onto (onto is (item v no_items)) js ≡ onto is (item v js)
onto_item no_items js v = refl
onto_item (item w is) js v = ap (item w) (onto_item is js v)

pub onto_nothing : (is : Items) → onto is no_items ≡ is
onto_nothing no_items = refl
onto_nothing (item w is) = ap (item w) (onto_nothing is)

-- ---- lists with an element in place of another

module _ {A : Type 0} (P : A → Type 0) where
  pub all_pushed : (xs : List A) (x : A) → AllByRecursion P xs → P x → AllByRecursion P (xs ++ x ∷ [])
  all_pushed [] x all holds = (holds, tt)
  all_pushed (y ∷ xs) x all holds = (all.0, all_pushed xs x all.1 holds)

  pub all_set : (xs : List A) (i : ℕ) (x : A) → AllByRecursion P xs → P x → AllByRecursion P (slice_set xs i x)
  all_set [] i x all holds = tt
  all_set (y ∷ xs) zero x all holds = (holds, all.1)
  all_set (y ∷ xs) (suc i) x all holds = (all.0, all_set xs i x all.1 holds)

  -- what holds of all holds of one
  pub all_get : (xs : List A) (i : ℕ) (x : A) → slice_get xs i ≡ Some x → AllByRecursion P xs → P x
  all_get [] i x e all = absurd (cc (e))
  all_get (y ∷ xs) zero x e all = subst P (some_value y x e) all.0
    where
      some_value : (y x : A) → ◌≡◌ {A = Option A} (Some y) (Some x) → y ≡ x
      some_value y x e = cc (e)
  all_get (y ∷ xs) (suc i) x e all = all_get xs i x e all.1

pub none_there : {A : Type 0} (xs : List A) (i : ℕ) → ltb i (length xs) ≡ false → slice_get xs i ≡ None
none_there xs i past = slice_get_past xs i (ltb-false i (length xs) past)

pub found_there : {A : Type 0} (xs : List A) (i : ℕ) (x : A) → ltb i (length xs) ≡ true → x ≡ get_or xs i x → slice_get xs i ≡ Some x
found_there xs i x within is = slice_get-get_or xs i x (ltb-true i (length xs) within) ∙ ap Some (sym is)

-- a name that the new element shares with the old one stays where it was
pub map_set : {A B : Type 0} (name : A → B) (xs : List A) (i : ℕ) (x y : A) → slice_get xs i ≡ Some x → name y ≡ name x → map name (slice_set xs i y) ≡ map name xs
map_set name [] i x y e same = refl
map_set name (z ∷ xs) zero x y e same = ap (λ n. n ∷ map name xs) (same ∙ cc (e))
map_set name (z ∷ xs) (suc i) x y e same = ap (λ ns. name z ∷ ns) (map_set name xs i x y e same)

-- ---- the pages one after another

-- what each page keeps, all of them keep
module _ (paging : Paging) (P : ℕ → List SiteItem → Type 0)
    (keeps : (number : ℕ) (posts : List ItemName) (items : List SiteItem) (made : SiteItem) → paged.page paging number posts ≡ Ok made → P number items → P (suc number) (items ++ made ∷ [])) where
  pub pages_keep : (more number : ℕ) (posts : List ItemName) (items made : List SiteItem) → paged.with_pages paging more number posts items ≡ Ok made → P number items → P (more + number) made
  unfolding paged.with_pages
  pages_keep zero number posts items made e holds =
      let same : number ≡ zero + number = omega arith in
      subst (λ n. P n made) same (subst (P number) (found_value items made e) holds)
  pages_keep (suc more) number posts items made e holds =
      let behind = found_before (paged.with_page paging number (take paging.per_page posts) items) (paged.with_pages paging more (suc number) (drop paging.per_page posts)) made e in
      let one = found_before (paged.page paging number (take paging.per_page posts)) _ behind.0 behind.1 in
      let here : P (suc number) behind.0 = subst (P (suc number)) (found_value (items ++ one.0 ∷ []) behind.0 one.2) (keeps number (take paging.per_page posts) items one.0 one.1 holds) in
      let same : more + suc number ≡ suc more + number = omega arith in
      subst (λ n. P n made) same (pages_keep more (suc number) (drop paging.per_page posts) behind.0 made behind.2 here)

module _ (paging : Paging) (more number : ℕ) (posts : List ItemName) (items : List SiteItem) where
  -- one more page
  pub pages_next : (own rest : List ItemName) (behind : List SiteItem) → own ≡ take paging.per_page posts → rest ≡ drop paging.per_page posts → paged.with_page paging number own items ≡ Ok behind
      → paged.with_pages paging more (number + 1) rest behind ≡ paged.with_pages paging (suc more) number posts items
  unfolding paged.with_pages
  pages_next own rest behind own_is rest_is e =
      let next : number + 1 ≡ suc number = omega arith in
      ap (λ n. paged.with_pages paging more n rest behind) next
      ∙ ap (λ r. paged.with_pages paging more (suc number) r behind) rest_is
      ∙ sym (ap (λ found. found >>= paged.with_pages paging more (suc number) (drop paging.per_page posts)) (ap (λ o. paged.with_page paging number o items) (sym own_is) ∙ e))

  -- a page with a fault is the fault of all
  stops : (f : SiteFault) → paged.with_page paging number (take paging.per_page posts) items ≡ Err f → paged.with_pages paging (suc more) number posts items ≡ Err f
  unfolding paged.with_pages
  stops f e = ap (λ found. found >>= paged.with_pages paging more (suc number) (drop paging.per_page posts)) e

  pub pages_first : (own : List ItemName) (whole : Found (List SiteItem)) (error : SiteError) → own ≡ take paging.per_page posts → IsFirst (paged.with_page paging number own items) error
      → paged.with_pages paging (suc more) number posts items ≡ whole → IsFirst whole error
  pages_first own whole site_error.Memory own_is first is = tt
  pages_first own whole (site_error.Fault f) own_is first is = sym is ∙ stops f (ap (λ o. paged.with_page paging number o items) (sym own_is) ∙ first)

-- behind the last page
pub pages_done : (paging : Paging) (more number : ℕ) (posts : List ItemName) (items : List SiteItem) (whole : Found (List SiteItem)) → more ≡ 0 → paged.with_pages paging more number posts items ≡ whole → whole ≡ Ok items
unfolding paged.with_pages
pages_done paging more number posts items whole none is = sym is ∙ ap (λ n. paged.with_pages paging n number posts items) none

-- a page that is made is one that is generated
pub page_is : (paging : Paging) (number : ℕ) (posts : List ItemName) (made : SiteItem) → paged.page paging number posts ≡ Ok made
    → (url : List ℕ) × (dest : Option (List ℕ)) × (paged.generated paging number posts url dest ≡ made)
page_is paging number posts made e =
    let path = found_before (in_file config_path (if_path (dest (paged.page_url (page_path paging.pattern number)) html))) _ made e in
    (paged.page_url (page_path paging.pattern number), path.0, found_value _ made path.2)

-- ---- how many there are

pub listed_few : (items : List SiteItem) → length (paged.listed items) ≤ length items
listed_few [] = omega arith
listed_few (i ∷ items) = by (paged.is_listed i) (listed_few items)
  where
    by : (b : Bool) → length (paged.listed items) ≤ length items → length ((if b then i.name ∷ [] else []) ++ paged.listed items) ≤ suc (length items)
    by true few = omega (arith, few)
    by false few = omega (arith, few)

pub posts_few : (items : List SiteItem) → length (paged.posts items) ≤ length items
posts_few items = omega (arith, length-reverse (paged.listed items), listed_few items)

-- a page for each post has room for all
each_has_room : (rest per_page : ℕ) → 1 ≤ per_page → suc rest + (per_page - 1) ≤ per_page * suc rest
each_has_room zero per_page least = grind (arith, least)
each_has_room (suc rest) per_page least = grind (arith, least, each_has_room rest per_page least)

-- no more pages than posts
pub pages_few : (posts per_page : ℕ) → 1 ≤ per_page → page_count posts per_page ≤ posts
pages_few zero per_page least = omega (arith, div-eq_of_lt {n = 0 + (per_page - 1)} {m = per_page} (omega (arith, least)))
pages_few (suc rest) per_page least = div-le_of_le-mul per_page {m = suc rest + (per_page - 1)} {n = suc rest} (each_has_room rest per_page least)

-- posts that fit are one page
pub one_page : (posts per_page : ℕ) → 1 ≤ posts → posts ≤ per_page → page_count posts per_page ≡ 1
one_page posts per_page some fits = by (page_count posts per_page) below above
  where
    some_per_page : 0 < per_page
    some_per_page = omega (arith, some, fits)

    below : page_count posts per_page < 2
    below = (div-lt_iff_lt-mul {k = per_page} {x = posts + (per_page - 1)} {y = 2} some_per_page).1 (omega (arith, some, fits))

    above : page_count posts per_page < 1 → ⊥
    above none = absurd (omega (arith, some, fits, (div-lt_iff_lt-mul {k = per_page} {x = posts + (per_page - 1)} {y = 1} some_per_page).0 none))

    by : (n : ℕ) → n < 2 → (n < 1 → ⊥) → n ≡ 1
    by zero lt not = absurd (not (omega arith))
    by (suc zero) lt not = refl
    by (suc (suc n)) lt not = absurd (omega (arith, lt))

-- ---- the items with their pages

-- what is known where the posts are spread
pub record IsSpread (config : Config) (read made : List SiteItem) : Type 0 where
  pub per_page : ℕ
  pub counted : config.paginate ≡ Some per_page
  pub place : ℕ
  pub template : SiteItem
  pub there : slice_get read place ≡ Some template
  pub found : paged.template_place config read ≡ Some place
  pub post : ItemName
  pub posts : List ItemName
  pub are : paged.posts read ≡ post ∷ posts
  pub spread : paged.spread (paged.paging_of config per_page template (length (post ∷ posts))) place (post ∷ posts) read ≡ Ok made

module _ (config : Config) (read made : List SiteItem) where
  abbrev Same : Type 0
  Same = (read ≡ made) ⊎ IsSpread config read made

  same : ◌≡◌ {A = Found (List SiteItem)} (Ok read) (Ok made) → Same
  same e = inl (found_value read made e)

  with_posts : (per_page : ℕ) → config.paginate ≡ Some per_page → (place : ℕ) → paged.template_place config read ≡ Some place → (template : SiteItem) → slice_get read place ≡ Some template
      → (posts : List ItemName) → paged.posts read ≡ posts → paged.spread_if config per_page place template posts read ≡ Ok made → Same
  with_posts per_page counted place found template there [] are e = same e
  with_posts per_page counted place found template there (post ∷ posts) are e =
      inr (record { per_page = per_page; counted = counted; place = place; template = template; there = there; found = found; post = post; posts = posts; are = are; spread = e })

  with_template : (per_page : ℕ) → config.paginate ≡ Some per_page → (place : ℕ) → paged.template_place config read ≡ Some place → (template : Option SiteItem) → slice_get read place ≡ template
      → paged.with_template config per_page read place template ≡ Ok made → Same
  with_template per_page counted place found None there e = same e
  with_template per_page counted place found (Some template) there e = with_posts per_page counted place found template there (paged.posts read) refl e

  with_place : (per_page : ℕ) → config.paginate ≡ Some per_page → (place : Option ℕ) → paged.template_place config read ≡ place → paged.with_place config per_page read place ≡ Ok made → Same
  with_place per_page counted None found e = same e
  with_place per_page counted (Some place) found e = with_template per_page counted place found (slice_get read place) refl e

  with_size : (per_page : Option ℕ) → config.paginate ≡ per_page → paged.with_size config read per_page ≡ Ok made → Same
  with_size None counted e = same e
  with_size (Some per_page) counted e = with_place per_page counted (paged.template_place config read) refl e

  -- either the items are as before, or the posts are spread over pages
  pub paginated_is : paged.paginated config read ≡ Ok made → Same
  paginated_is e = with_size config.paginate refl e

-- ---- the template

module _ (config : Config) (read : List SiteItem) where
  abbrev documents : ℕ
  documents = length config.collections

  group_there : (path : List ℕ) (place : ℕ) (template : SiteItem) → slice_get read place ≡ Some template → paged.page_place documents path read ≡ Some place → template.group ≡ documents
  group_there path place template there found =
      let passes = position-Some (paged.is_page_at documents path) read place template found in
      eqb-true template.group documents (first_true (template.group == documents) (bytes_eq template.name.path path)
      (subst (λ t. paged.is_page_at documents path t ≡ true) (got read place template there) passes.1))
    where
      got : (xs : List SiteItem) (i : ℕ) (x : SiteItem) → slice_get xs i ≡ Some x → get_or xs i x ≡ x
      got [] i x e = refl
      got (y ∷ xs) zero x e = cc (e)
      got (y ∷ xs) (suc i) x e = got xs i x e

      first_true : (a b : Bool) → a && b ≡ true → a ≡ true
      first_true true b e = refl
      first_true false b e = absurd (cc (e))

  -- the template is a page
  pub template_group : (place : ℕ) (template : SiteItem) → slice_get read place ≡ Some template → paged.template_place config read ≡ Some place → template.group ≡ documents
  template_group place template there found = by (paged.page_place documents (paged.index_path config.paginate_path) read) refl found
    where
      by : (first : Option ℕ) → paged.page_place documents (paged.index_path config.paginate_path) read ≡ first → option_or first (paged.page_place documents (codes "index.html") read) ≡ Some place → template.group ≡ documents
      by None is e = group_there (codes "index.html") place template there e
      by (Some other) is e = group_there (paged.index_path config.paginate_path) place template there (is ∙ e)

-- the place that is looked for first, else the other
pub template_is : (config : Config) (items : List SiteItem) (pages : ℕ) (path : List ℕ) (first : Option ℕ) → pages ≡ length config.collections → path ≡ paged.index_path config.paginate_path → first ≡ paged.page_place pages path items
    → option_or first (paged.page_place pages (codes "index.html") items) ≡ paged.template_place config items
template_is config items pages path first pages_is path_is first_is =
    ap (λ f. option_or f (paged.page_place pages (codes "index.html") items)) (first_is ∙ ap (λ p. paged.page_place pages p items) path_is)
    ∙ ap (λ n. option_or (paged.page_place n (paged.index_path config.paginate_path) items) (paged.page_place n (codes "index.html") items)) pages_is

-- ---- where the posts are spread

-- where there are none, the items are as before
pub not_spread : (config : Config) (per_page place : ℕ) (items : List SiteItem) (template : Option SiteItem) → length (paged.posts items) ≡ 0 → paged.with_template config per_page items place template ≡ Ok items
not_spread config per_page place items None none = refl
not_spread config per_page place items (Some template) none = by (paged.posts items) none
  where
    by : (posts : List ItemName) → length posts ≡ 0 → paged.spread_if config per_page place template posts items ≡ Ok items
    by [] none = refl
    by (post ∷ posts) none = absurd (omega (arith, none))

pub spread_is : (config : Config) (per_page place : ℕ) (items : List SiteItem) (template : SiteItem) (found : Option SiteItem) (paging : Paging) (count : ℕ) (own : List ItemName) → paging ≡ paged.paging_of config per_page template count
    → own ≡ paged.posts items → found ≡ Some template → 1 ≤ count → count ≡ length own → paged.spread paging place own items ≡ paged.with_template config per_page items place found
spread_is config per_page place items template found paging count own paging_is own_is found_is some count_is =
    by own (omega (arith, some, count_is)) (paging_is ∙ ap (paged.paging_of config per_page template) count_is)
    ∙ ap (λ posts. paged.spread_if config per_page place template posts items) own_is
    ∙ ap (paged.with_template config per_page items place) (sym found_is)
  where
    by : (posts : List ItemName) → 1 ≤ length posts → paging ≡ paged.paging_of config per_page template (length posts) → paged.spread paging place posts items ≡ paged.spread_if config per_page place template posts items
    by [] some is = absurd (omega (arith, some))
    by (post ∷ posts) some is = ap (λ p. paged.spread p place (post ∷ posts) items) is

-- the pages from the second on, behind the items with the first
pub spread_made : (paging : Paging) (place : ℕ) (posts own rest : List ItemName) (items vec : List SiteItem) (old new : SiteItem) (made : Pairs) → own ≡ take paging.per_page posts → rest ≡ drop paging.per_page posts
    → vec ≡ items → slice_get items place ≡ Some paging.template → old ≡ get_or vec place old → made ≡ paged.paginator paging 1 own → new ≡ record old { paginator = value.Hash made }
    → paged.spread paging place posts items ≡ paged.with_pages paging (paging.total_pages - 1) 2 rest (slice_set vec place new)
spread_made paging place posts own rest items vec old new made own_is rest_is vec_is there old_is made_is new_is =
    sym (ap (λ r. paged.with_pages paging (paging.total_pages - 1) 2 r (slice_set vec place new)) rest_is
    ∙ ap (λ xs. paged.with_pages paging (paging.total_pages - 1) 2 (drop paging.per_page posts) (slice_set xs place new)) vec_is
    ∙ ap (λ (x : SiteItem). paged.with_pages paging (paging.total_pages - 1) 2 (drop paging.per_page posts) (slice_set items place x)) first)
  where
    template : old ≡ paging.template
    template = old_is ∙ ap (λ xs. get_or xs place old) vec_is ∙ get_or_from_slice_get items place paging.template old there

    first : new ≡ paged.first_page paging posts
    first =
        new_is
        ∙ ap (λ (i : SiteItem). record i { paginator = value.Hash made }) template
        ∙ ap (λ (ps : Pairs). record paging.template { paginator = value.Hash ps }) (made_is ∙ ap (paged.paginator paging 1) own_is)

pub same_first : {A : Type 0} (found other : Found A) (error : SiteError) → found ≡ other → IsFirst other error → IsFirst found error
same_first found other error is first = subst (λ f. IsFirst f error) (sym is) first

pub same_found : {A : Type 0} (found other : Found A) (result : Result A SiteError) → found ≡ other → MatchResult result (λ made. other ≡ Ok made) (IsFirst other) → MatchResult result (λ made. found ≡ Ok made) (IsFirst found)
same_found found other result is matched = subst (λ f. MatchResult result (λ made. f ≡ Ok made) (IsFirst f)) (sym is) matched
