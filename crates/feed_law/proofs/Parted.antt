-- The posts of a site, which are its first group, stand before all its other items.
use Rattle.std.proofs.Common.{◌≡◌, ◌≢◌, ℕ, zero, suc, ◌-◌, ◌<◌, ◌≤◌, Bool, true, false, not, if◌then◌else◌, List, [], ◌∷◌, ◌++◌, length, drop, map, slice_get, slice_set, Option, Some, None, Ok, Err, Less, Equal, Greater, Ordering, ◌⊎◌, inl, inr, arith, refl, sym, ap, subst, ◌∙◌}
use Rattle.std.specs.FinMap.{entries}
use Rattle.std.specs.Prelude.{ℤ, All, filter}
use Rattle.std.specs.BTreeMap.{insert_entry}
use Rattle.std.specs.Ordering.{MatchOrdering, match_ordering, nat_cmp, ordering_then}
use Rattle.std.proofs.lemmas.Bool.{eqb-true}
use Rattle.std.proofs.lemmas.Cmp.{ranked as compared}
use Rattle.std.proofs.lemmas.List.Elements.{All-append, All-cons, All-filter, All-from_recursion, All-head, All-map, All-nil, All-tail, All-weaker, filter_passes, recursion_from_All}
use Rattle.site_base.specs.Chains.{◌>>=◌}
use Rattle.site_base.specs.Faults.{fault_at}
use Rattle.site_base.specs.Places.{Files}
use Rattle.site_base.specs.declared.faults.FaultKind.TheVariants as fault
use Rattle.site_base.specs.declared.item_name.ItemName.{ItemName}
use Rattle.site_base.specs.declared.settings.Settings.{Settings}
use Rattle.site_config.specs.declared.config.Config.{Config}
use Rattle.site_config.specs.declared.scope.Scope.{Scope}
use Rattle.site_items.specs.Defaults.{by_strength}
use Rattle.site_items.specs.Items.{item}
use Rattle.site_items.specs.declared.item.Item.{Item}
use Rattle.site_items.specs.declared.kind.Kind.{Kind}
use Rattle.site_items.specs.declared.static_file.StaticFile.{StaticFile}
use Rattle.site_reader.specs.Found.{each, in_file}
use Rattle.site_reader.specs.Generating as generating
use Rattle.site_reader.specs.Making as making
use Rattle.site_reader.specs.Neighbours.{site_items}
use Rattle.site_reader.specs.Paginating as paged
use Rattle.site_reader.specs.Placing.{File, Placed, as_item, builds_drafts, builds_future, config_path, placed}
use Rattle.site_reader.specs.Ranks.{Ranked, rank, rank_cmp, with_item}
use Rattle.site_reader.specs.Sites as sites
use Rattle.site_reader.specs.declared.site.Site.{Site}
use Rattle.site_reader.specs.declared.site_item.SiteItem.{SiteItem}
use Rattle.tag_archives.specs.Archives.{archives}
use Rattle.tag_archives.specs.declared.archive.ArchiveWord.{ArchiveWord}
use Rattle.tag_archives.specs.declared.archive.ArchiveWord.TheVariants.{Category, Tag}
use Rattle.site_reader.proofs.LawfulSites.{parts}
use Rattle.site_reader.proofs.MadeItems.{by_name_all}
use Rattle.site_reader.proofs.PageLaws.{IsSpread, page_is, pages_keep, paginated_is}
use Rattle.site_reader.proofs.Weights.{each_keeps, found_before, found_value}

-- ---- lists

-- what is of the first group stands first
abbrev pub FirstStands : {A : Type 0} → (A → ℕ) → List A → Type 0
FirstStands group [] = Unit {0}
FirstStands group (x ∷ xs) = (group x ≢ 0 → All (λ y. group y ≢ 0) xs) × FirstStands group xs

module _ {A : Type 0} (group : A → ℕ) where
  abbrev IsOther : A → Type 0
  IsOther x = group x ≢ 0

  none_first : (xs : List A) → All IsOther xs → FirstStands group xs
  none_first [] others = tt
  none_first (x ∷ xs) others = let rest = All-tail IsOther x xs others in (λ other. rest, none_first xs rest)

  -- others may follow
  joined_first : (xs ys : List A) → FirstStands group xs → All IsOther ys → FirstStands group (xs ++ ys)
  joined_first [] ys first others = none_first ys others
  joined_first (x ∷ xs) ys first others = (λ other. All-append IsOther xs ys (first.0 other) others, joined_first xs ys first.1 others)

  kept_first : (p : A → Bool) (xs : List A) → FirstStands group xs → FirstStands group (filter p xs)
  kept_first p [] first = tt
  kept_first p (x ∷ xs) first = by (p x) (kept_first p xs first.1)
    where
      by : (b : Bool) → FirstStands group (filter p xs) → FirstStands group (if b then x ∷ filter p xs else filter p xs)
      by true rest = (λ other. All-filter p IsOther xs (first.0 other), rest)
      by false rest = rest

  -- an element of the same group may take a place
  all_changed : (xs : List A) (i : ℕ) (x y : A) → slice_get xs i ≡ Some x → group y ≡ group x → All IsOther xs → All IsOther (slice_set xs i y)
  all_changed [] i x y there same others = absurd (cc (there))
  all_changed (z ∷ xs) zero x y there same others =
      let is : z ≡ x = cc (there) in
      All-cons IsOther y xs (λ none. All-head IsOther z xs others (ap group is ∙ sym same ∙ none)) (All-tail IsOther z xs others)
  all_changed (z ∷ xs) (suc i) x y there same others =
      All-cons IsOther z (slice_set xs i y) (All-head IsOther z xs others) (all_changed xs i x y there same (All-tail IsOther z xs others))

  changed_first : (xs : List A) (i : ℕ) (x y : A) → slice_get xs i ≡ Some x → group y ≡ group x → FirstStands group xs → FirstStands group (slice_set xs i y)
  changed_first [] i x y there same first = absurd (cc (there))
  changed_first (z ∷ xs) zero x y there same first =
      let is : z ≡ x = cc (there) in
      (λ other. first.0 (λ none. other (same ∙ sym (ap group is) ∙ none)), first.1)
  changed_first (z ∷ xs) (suc i) x y there same first = (λ other. all_changed xs i x y there same (first.0 other), changed_first xs i x y there same first.1)

  none_there : (xs : List A) (i : ℕ) (x : A) → slice_get xs i ≡ Some x → group x ≡ 0 → All IsOther xs → ⊥
  none_there [] i x there none others = absurd (cc (there))
  none_there (z ∷ xs) zero x there none others = let is : z ≡ x = cc (there) in All-head IsOther z xs others (ap group is ∙ none)
  none_there (z ∷ xs) (suc i) x there none others = none_there xs i x there none (All-tail IsOther z xs others)

  -- so it stands at a lower place than another
  pub stands_before : (xs : List A) (i j : ℕ) (x y : A) → slice_get xs i ≡ Some x → slice_get xs j ≡ Some y → group x ≡ 0 → group y ≢ 0 → FirstStands group xs → i < j
  stands_before [] i j x y at_i at_j none other first = absurd (cc (at_i))
  stands_before (z ∷ xs) zero zero x y at_i at_j none other first = let is : y ≡ x = cc (at_i, at_j) in absurd (other (ap group is ∙ none))
  stands_before (z ∷ xs) zero (suc j) x y at_i at_j none other first = omega arith
  stands_before (z ∷ xs) (suc i) zero x y at_i at_j none other first =
      let is : y ≡ z = cc (at_j) in
      absurd (none_there xs i x at_i none (first.0 (λ zero. other (ap group is ∙ zero))))
  stands_before (z ∷ xs) (suc i) (suc j) x y at_i at_j none other first = omega (arith, stands_before xs i j x y at_i at_j none other first.1)

-- ---- the items in the order of their ranks

-- the type of what a function takes
abbrev taken : (A B : Type 0) → (A → B) → Type 0
taken A B f = A

-- the ranks of items, whose name its crate keeps to itself
abbrev Rank : Type 0
Rank = taken _ _ rank_cmp

abbrev ranked_group : Rank × Item → ℕ
ranked_group e = e.0.group

abbrev OtherRank : Rank × Item → Type 0
OtherRank e = e.0.group ≢ 0

not_above : (m n : ℕ) (o : Ordering) → ordering_then (nat_cmp m n) o ≡ Less → m ≤ n
not_above m n o is = by (nat_cmp m n) (compared m n (nat_cmp m n) refl) is
  where
    by : (r : Ordering) → MatchOrdering r (m < n) (m ≡ n) (n < m) → ordering_then r o ≡ Less → m ≤ n
    by Less lt is = omega (arith, lt)
    by Equal same is = omega (arith, same)
    by Greater gt is = absurd (cc (is))

not_below : (m n : ℕ) (o : Ordering) → ordering_then (nat_cmp m n) o ≡ Greater → n ≤ m
not_below m n o is = by (nat_cmp m n) (compared m n (nat_cmp m n) refl) is
  where
    by : (r : Ordering) → MatchOrdering r (m < n) (m ≡ n) (n < m) → ordering_then r o ≡ Greater → n ≤ m
    by Less lt is = absurd (cc (is))
    by Equal same is = omega (arith, same)
    by Greater gt is = omega (arith, gt)

module _ (r : Rank) (made : Item) where
  others_put : (es : Ranked) → r.group ≢ 0 → All OtherRank es → All OtherRank (insert_entry rank_cmp es r made)
  others_put [] other others = All-cons OtherRank (r, made) [] other others
  others_put (e ∷ es) other others = by (rank_cmp r e.0) (others_put es other (All-tail OtherRank e es others))
    where
      by : (o : Ordering) → All OtherRank (insert_entry rank_cmp es r made) → All OtherRank (match_ordering o ((r, made) ∷ e ∷ es) ((e.0, made) ∷ es) (e ∷ insert_entry rank_cmp es r made))
      by Less rest = All-cons OtherRank (r, made) (e ∷ es) other others
      by Equal rest = All-cons OtherRank (e.0, made) es (All-head OtherRank e es others) (All-tail OtherRank e es others)
      by Greater rest = All-cons OtherRank e (insert_entry rank_cmp es r made) (All-head OtherRank e es others) rest

  put_first : (es : Ranked) → FirstStands ranked_group es → FirstStands ranked_group (insert_entry rank_cmp es r made)
  put_first [] first = (λ other. All-nil OtherRank, tt)
  put_first (e ∷ es) first = by (rank_cmp r e.0) refl (put_first es first.1)
    where
      by : (o : Ordering) → rank_cmp r e.0 ≡ o → FirstStands ranked_group (insert_entry rank_cmp es r made)
          → FirstStands ranked_group (match_ordering o ((r, made) ∷ e ∷ es) ((e.0, made) ∷ es) (e ∷ insert_entry rank_cmp es r made))
      by Less is rest = (λ other. let above : e.0.group ≢ 0 = λ none. other (omega (arith, none, not_above r.group e.0.group _ is)) in All-cons OtherRank e es above (first.0 above), first)
      by Equal is rest = first
      by Greater is rest = (λ other. others_put es (λ none. other (omega (arith, none, not_below r.group e.0.group _ is))) (first.0 other), rest)

module _ (config : Config) (scopes : List Scope) (now : ℤ) (future : Bool) where
  with_item_first : (k : Kind) (path : List ℕ) (made : Option Item) (es : Ranked) → FirstStands ranked_group es → FirstStands ranked_group (with_item config k path made es)
  with_item_first k path None es first = first
  with_item_first k path (Some made) es first = put_first (rank config k path made) made es first

  add_first : (f : File) (k : Option Kind) (made more : Ranked) → sites.add_kind config scopes now future f k made ≡ Ok more → FirstStands ranked_group made → FirstStands ranked_group more
  add_first f None made more e first = subst (FirstStands ranked_group) (found_value made more e) first
  add_first f (Some k) made more e first =
      let read = found_before (in_file f.0 (item config scopes now future k f.0 f.1)) _ more e in
      subst (FirstStands ranked_group) (found_value _ more read.2) (with_item_first k f.0 read.0 made first)

-- ---- the items of a site

abbrev pub group_of : SiteItem → ℕ
group_of i = i.group

abbrev OtherItem : SiteItem → Type 0
OtherItem i = i.group ≢ 0

-- the items with the posts before all others
abbrev pub PostsFirst : List SiteItem → Type 0
PostsFirst items = FirstStands group_of items

module _ (documents : ℕ) where
  others_seen : (before : Option Rank) (es : Ranked) → All OtherRank es → All OtherItem (site_items documents before es)
  unfolding site_items
  others_seen before [] others = All-nil OtherItem
  others_seen before (e ∷ es) others = All-cons OtherItem _ (site_items documents (Some e.0) es) (All-head OtherRank e es others) (others_seen (Some e.0) es (All-tail OtherRank e es others))

  seen_first : (before : Option Rank) (es : Ranked) → FirstStands ranked_group es → PostsFirst (site_items documents before es)
  unfolding site_items
  seen_first before [] first = tt
  seen_first before (e ∷ es) first = (λ other. others_seen (Some e.0) es (first.0 other), seen_first (Some e.0) es first.1)

read_first : (config : Config) (scopes : List Scope) (now : ℤ) (future : Bool) (files : List Placed) (read : List SiteItem) → sites.items_by scopes config now future files ≡ Ok read → PostsFirst read
read_first config scopes now future files read e =
    let ranked = found_before (each (sites.add_item config scopes now future) files []) (sites.items_in_order config) read e in
    let first : FirstStands ranked_group ranked.0 =
    each_keeps (sites.add_item config scopes now future) (FirstStands ranked_group) (λ f before more is. add_first config scopes now future f.1 (as_item f) before more is) files [] ranked.0 ranked.1 tt in
    subst PostsFirst (found_value _ read ranked.2) (seen_first (length config.collections) None ranked.0 first)

-- ---- with pages of a pagination

module _ (config : Config) (per_page : ℕ) (template : SiteItem) (count : ℕ) where
  page_first : (number : ℕ) (posts : List ItemName) (items : List SiteItem) (made : SiteItem) → paged.page (paged.paging_of config per_page template count) number posts ≡ Ok made → PostsFirst items
      → PostsFirst (items ++ made ∷ [])
  page_first number posts items made e first =
      let is = page_is (paged.paging_of config per_page template count) number posts made e in
      let other : made.group ≢ 0 = λ none. let wrong : suc (length config.collections) ≡ 0 = ap group_of is.2 ∙ none in absurd (omega (arith, wrong)) in
      joined_first group_of items (made ∷ []) first (All-cons OtherItem made [] other (All-nil OtherItem))

  pages_first : (more number : ℕ) (posts : List ItemName) (items made : List SiteItem) → paged.with_pages (paged.paging_of config per_page template count) more number posts items ≡ Ok made
      → PostsFirst items → PostsFirst made
  pages_first = pages_keep (paged.paging_of config per_page template count) (λ number items. PostsFirst items) page_first

paged_first : (config : Config) (read made : List SiteItem) → paged.paginated config read ≡ Ok made → PostsFirst read → PostsFirst made
paged_first config read made e first = by (paginated_is config read made e)
  where
    by : (read ≡ made) ⊎ IsSpread config read made → PostsFirst made
    by (inl is) = subst PostsFirst is first
    by (inr is) =
        let posts = is.post ∷ is.posts in
        let paging = paged.paging_of config is.per_page is.template (length posts) in
        pages_first config is.per_page is.template (length posts) (paging.total_pages - 1) 2 (drop is.per_page posts) (slice_set read is.place (paged.first_page paging posts)) made is.spread
        (changed_first group_of read is.place is.template (paged.first_page paging posts) is.there refl first)

-- ---- with pages that are made besides

module _ (config : Config) where
  generated_other : (items : List SiteItem) → All OtherItem (filter (making.is_generated config) items)
  generated_other items =
      All-weaker (λ i. making.is_generated config i ≡ true) OtherItem (λ i is none. absurd (omega (arith, eqb-true i.group (making.generated_group config) is, none))) (filter (making.is_generated config) items)
      (filter_passes (making.is_generated config) items)

  made_first : (items pages : List SiteItem) → PostsFirst items → All OtherItem pages → PostsFirst (making.with_made config items pages)
  made_first items [] first others = first
  made_first items (page ∷ pages) first others =
      let generated = filter (making.is_generated config) items ++ page ∷ pages in
      let other : All OtherItem generated = All-append OtherItem (filter (making.is_generated config) items) (page ∷ pages) (generated_other items) others in
      joined_first group_of (filter (λ i. not (making.is_generated config i)) items) (making.by_name generated) (kept_first group_of (λ i. not (making.is_generated config i)) items first)
      (All-from_recursion OtherItem (making.by_name generated) (by_name_all OtherItem generated (recursion_from_All OtherItem generated other)))

  word_other : (items : List SiteItem) (word : ArchiveWord) (before all : List SiteItem) → making.add_pages config items word before ≡ Ok all → All OtherItem before → All OtherItem all
  word_other items word before all e others = by (making.asks_for config word) e
    where
      by : (b : Bool) → (if b then making.word_pages config items word before else Ok before) ≡ Ok all → All OtherItem all
      by true is =
          let made = found_before (making.of_archives (archives word (making.archive_posts word items))) _ all is in
          subst (All OtherItem) (found_value _ all made.2)
          (All-append OtherItem before _ others (All-map OtherItem (making.archive_page config word) made.0 (λ place other inside none. absurd (omega (arith, none)))))
      by false is = subst (All OtherItem) (found_value before all is) others

  archives_other : (items pages : List SiteItem) → making.archive_pages config items ≡ Ok pages → All OtherItem pages
  archives_other items pages e =
      let first = found_before (making.add_pages config items Category []) (making.add_pages config items Tag) pages e in
      word_other items Tag first.0 pages first.2 (word_other items Category [] first.0 first.1 (All-nil OtherItem))

  one_other : (b : Bool) (page : SiteItem) → page.group ≢ 0 → All OtherItem (if b then page ∷ [] else [])
  one_other true page other = All-cons OtherItem page [] other (All-nil OtherItem)
  one_other false page other = All-nil OtherItem

  generated_first : (copies : List StaticFile) (items made : List SiteItem) → generating.generated config copies items ≡ Ok made → PostsFirst items → PostsFirst made
  generated_first copies items made e first = by (generating.marks_xml config) e
    where
      by : (b : Bool) → (if b then Err (fault_at fault.Config config_path) else (generating.with_archives_and_feed config items >>= λ all. Ok (generating.mapped config copies all))) ≡ Ok made → PostsFirst made
      by true is = absurd (cc (is))
      by false is =
          let fed = found_before (generating.with_archives_and_feed config items) _ made is in
          let pages = found_before (making.archive_pages config items) _ fed.0 fed.1 in
          let feed = generating.feed_pages config in
          let with_feed : PostsFirst fed.0 =
          subst PostsFirst (found_value _ fed.0 pages.2)
          (made_first items (pages.0 ++ feed) first (All-append OtherItem pages.0 feed (archives_other items pages.0 pages.1) (one_other config.make_feed (generating.feed_page config) (λ none. absurd (omega (arith, none)))))) in
          subst PostsFirst (found_value _ made fed.2)
          (made_first fed.0 (generating.sitemap_pages config copies fed.0) with_feed (one_other config.make_sitemap _ (λ none. absurd (omega (arith, none)))))

-- ---- a site that was read

placed_first : (config : Config) (now : ℤ) (future : Bool) (files : List Placed) (made : Site) → sites.placed_site config now future files ≡ Ok made → PostsFirst made.items
placed_first config now future files made e =
    let here = parts config now future files made e in
    generated_first config (sites.copies config files) here.paged made.items here.generated
    (paged_first config here.read here.paged here.with_pages (read_first config (by_strength config.defaults) now future files here.read here.items))

pub posts_before_others : (files : Files) (now : ℤ) (settings : Settings) (made : Site) → sites.site files now settings ≡ Ok made → PostsFirst made.items
unfolding sites.site
posts_before_others files now settings made e =
    let config = found_before (sites.config files) (sites.site_with files now settings) made e in
    placed_first config.0 now (builds_future config.0 settings) (map (placed config.0 (builds_drafts config.0 settings)) (entries files)) made config.2
