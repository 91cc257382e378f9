-- The archives of a site stand among its items, each once and with the posts that have its slug; and no two items have one name.
use Rattle.std.proofs.Common.{◌≡◌, ◌≢◌, ◌⊎◌, inl, inr, ℕ, suc, zero, Bool, true, false, not, ◌==◌, if◌then◌else◌, List, [], ◌∷◌, ◌++◌, codes, length, length-append, map, ◌≤◌, ◌+◌, Result, Ok, Err, Less, Equal, Greater, Ordering, arith, refl, sym, ap, subst, ◌∙◌}
use Rattle.std.specs.Prelude.{filter, fold, Option, Some, None}
use Rattle.std.specs.BTreeMap.{insert_entry}
use Rattle.std.specs.Cmp.{tied_itself}
use Rattle.std.specs.List.{AllByRecursion}
use Rattle.std.specs.Map.{values_of}
use Rattle.std.specs.Option.{unwrap_or}
use Rattle.std.specs.Ordering.{match_ordering}
use Rattle.std.proofs.lemmas.List.{length-map}
use Rattle.site_base.specs.Chains.{◌>>=◌}
use Rattle.site_base.specs.Faults.{fault_at}
use Rattle.site_base.specs.Plain.{Plain, hash, nil, no_pairs}
use Rattle.site_base.specs.declared.faults.FaultKind.TheVariants as fault
use Rattle.site_base.specs.declared.item_name.ItemName.{ItemName}
use Rattle.site_config.specs.declared.config.Config.{Config}
use Rattle.site_items.specs.Items.{addressed, page_variables, placed}
use Rattle.site_items.specs.declared.kind.Kind.TheVariants as kind
use Rattle.site_items.specs.declared.static_file.StaticFile.{StaticFile}
use Rattle.site_reader.specs.Archived.{AreAsked, HasArchives, IsAmong, IsBelow}
use Rattle.site_reader.specs.Generating.{feed_page, feed_pages, generated, listed, mapped, marks_xml, sitemap_page, sitemap_pages, with_archives_and_feed, xml_page}
use Rattle.site_reader.specs.Lawful.{HasVariables, KnowsItself}
use Rattle.site_reader.specs.Making as making
use Rattle.site_reader.specs.Neighbours.{between}
use Rattle.site_reader.specs.Placing.{config_path}
use Rattle.site_reader.specs.declared.site_item.SiteItem.{SiteItem}
use Rattle.tag_archives.specs.Archives.{archives}
use Rattle.tag_archives.specs.Listing.{IsArchive}
use Rattle.tag_archives.specs.declared.archive.Archive.{Archive}
use Rattle.tag_archives.specs.declared.archive.ArchivePost.{ArchivePost}
use Rattle.tag_archives.specs.declared.archive.ArchiveWord.{ArchiveWord}
use Rattle.tag_archives.specs.declared.archive.ArchiveWord.TheVariants.{Category, Tag}
use Rattle.tag_archives.proofs.Laws.{laws}
use Rattle.site_reader.proofs.EachLaws.{nothing_behind}
use Rattle.site_reader.proofs.NameOrder.{name_same, name_total}
use Rattle.site_reader.proofs.MadeItems.{Apart, Entries, Other, all_joined, all_kept, all_turned, by_name_all, addressed_again, items_apart, joined_apart, kept_apart, made_all, made_apart, made_few, names_apart, none_above, of_archives_is, page_has, pages_apart, put_all, told}
use Rattle.site_reader.proofs.Differing.{Distinct}
use Rattle.site_reader.proofs.VariableLaws.{Has, page_known}
use Rattle.site_reader.proofs.Weights.{found_before, found_value}

-- ---- lists

pub among_left : (i : SiteItem) (is js : List SiteItem) → IsAmong i is → IsAmong i (is ++ js)
among_left i [] js there = elim there [ ]
among_left i (x ∷ is) js (inl same) = inl same
among_left i (x ∷ is) js (inr there) = inr (among_left i is js there)

pub among_right : (i : SiteItem) (is js : List SiteItem) → IsAmong i js → IsAmong i (is ++ js)
among_right i [] js there = there
among_right i (x ∷ is) js there = inr (among_right i is js there)

pub among_kept : (p : SiteItem → Bool) (i : SiteItem) (is : List SiteItem) → p i ≡ true → IsAmong i is → IsAmong i (filter p is)
among_kept p i [] passes there = elim there [ ]
among_kept p i (x ∷ is) passes (inl same) = subst (λ b. IsAmong i (if b then x ∷ filter p is else filter p is)) (sym passes ∙ ap p same) (inl same)
among_kept p i (x ∷ is) passes (inr there) = by (p x) (among_kept p i is passes there)
  where
    by : (b : Bool) → IsAmong i (filter p is) → IsAmong i (if b then x ∷ filter p is else filter p is)
    by true rest = inr rest
    by false rest = rest

-- ---- items by their names

-- an entry is one of these
pub InEntries : ItemName → SiteItem → Entries → Type 0
InEntries n i [] = ⊥
InEntries n i (e ∷ es) = ((n ≡ e.0) × (i ≡ e.1)) ⊎ InEntries n i es

pub put_new : (n : ItemName) (i : SiteItem) (es : Entries) → InEntries n i (insert_entry making.name_cmp es n i)
unfolding InEntries
put_new n i [] = inl (refl, refl)
put_new n i (e ∷ es) = by (making.name_cmp n e.0) refl (put_new n i es)
  where
    by : (o : Ordering) → making.name_cmp n e.0 ≡ o → InEntries n i (insert_entry making.name_cmp es n i)
        → InEntries n i (match_ordering o ((n, i) ∷ e ∷ es) ((e.0, i) ∷ es) (e ∷ insert_entry making.name_cmp es n i))
    by Less tied rest = inl (refl, refl)
    by Equal tied rest = inl (name_same n e.0 tied, refl)
    by Greater tied rest = inr rest

-- what has another name stays
pub put_other : (n m : ItemName) (i j : SiteItem) (es : Entries) → m ≢ n → InEntries m j es → InEntries m j (insert_entry making.name_cmp es n i)
unfolding InEntries
put_other n m i j [] other there = elim there [ ]
put_other n m i j (e ∷ es) other there = by (making.name_cmp n e.0) refl there (put_other n m i j es other)
  where
    by : (o : Ordering) → making.name_cmp n e.0 ≡ o → ((m ≡ e.0) × (j ≡ e.1)) ⊎ InEntries m j es → (InEntries m j es → InEntries m j (insert_entry making.name_cmp es n i))
        → InEntries m j (match_ordering o ((n, i) ∷ e ∷ es) ((e.0, i) ∷ es) (e ∷ insert_entry making.name_cmp es n i))
    by Less tied there rest = inr there
    by Equal tied (inl same) rest = absurd (other (same.0 ∙ sym (name_same n e.0 tied)))
    by Equal tied (inr there) rest = inr there
    by Greater tied (inl same) rest = inl same
    by Greater tied (inr there) rest = inr (rest there)

pub all_stay : (m : ItemName) (j : SiteItem) (is : List SiteItem) (es : Entries) → AllByRecursion (λ (i : SiteItem). m ≢ i.name) is → InEntries m j es → InEntries m j (put_all es is)
all_stay m j [] es other there = there
all_stay m j (i ∷ is) es other there = all_stay m j is (insert_entry making.name_cmp es i.name i) other.1 (put_other i.name m i j es other.0 there)

-- no two have one name, so each of them is there
pub all_there : (j : SiteItem) (is : List SiteItem) (es : Entries) → Apart is → IsAmong j is → InEntries j.name j (put_all es is)
all_there j [] es apart there = elim there [ ]
all_there j (i ∷ is) es apart (inr there) = all_there j is (insert_entry making.name_cmp es i.name i) apart.1 there
all_there j (i ∷ is) es apart (inl same) =
    subst (λ (k : SiteItem). InEntries k.name k (put_all es (i ∷ is))) (sym same)
    (all_stay i.name i is (insert_entry making.name_cmp es i.name i) apart.0 (put_new i.name i es))

pub values_among : (n : ItemName) (i : SiteItem) (es : Entries) → InEntries n i es → IsAmong i (values_of es)
unfolding InEntries
values_among n i [] there = elim there [ ]
values_among n i (e ∷ es) (inl same) = inl same.1
values_among n i (e ∷ es) (inr there) = inr (values_among n i es there)

pub by_name_among : (j : SiteItem) (is : List SiteItem) → Apart is → IsAmong j is → IsAmong j (making.by_name is)
by_name_among j is apart there = values_among j.name j (put_all [] is) (all_there j is [] apart there)

-- ---- further pages

module _ (config : Config) (items pages : List SiteItem) where
  abbrev pub own_items : List SiteItem
  own_items = filter (λ i. not (making.is_generated config i)) items

  abbrev pub generated_of : List SiteItem
  generated_of = filter (making.is_generated config) items

  -- a page that is added is there
  pub page_among : (j : SiteItem) → Apart (generated_of ++ pages) → IsAmong j pages → IsAmong j (making.with_made config items pages)
  page_among j apart there = by pages apart there
    where
      by : (ps : List SiteItem) → Apart (generated_of ++ ps) → IsAmong j ps → IsAmong j (making.with_made config items ps)
      by [] apart there = elim there [ ]
      by (p ∷ ps) apart there = among_right j own_items (making.by_name (generated_of ++ p ∷ ps)) (by_name_among j (generated_of ++ p ∷ ps) apart (among_right j generated_of (p ∷ ps) there))

  -- and one that was there stays
  pub made_among : (j : SiteItem) → making.is_generated config j ≡ true → Apart (generated_of ++ pages) → IsAmong j items → IsAmong j (making.with_made config items pages)
  made_among j is apart there = by pages apart
    where
      by : (ps : List SiteItem) → Apart (generated_of ++ ps) → IsAmong j (making.with_made config items ps)
      by [] apart = there
      by (p ∷ ps) apart =
          among_right j own_items (making.by_name (generated_of ++ p ∷ ps))
          (by_name_among j (generated_of ++ p ∷ ps) apart (among_left j generated_of (p ∷ ps) (among_kept (making.is_generated config) j items is there)))

-- ---- the posts

pub posts_joined : (word : ArchiveWord) (is js : List SiteItem) → making.archive_posts word (is ++ js) ≡ making.archive_posts word is ++ making.archive_posts word js
posts_joined word [] js = refl
posts_joined word (i ∷ is) js = ap (λ rest. making.if_post word i ++ rest) (posts_joined word is js) ∙ joined (making.if_post word i) (making.archive_posts word is) (making.archive_posts word js)
  where
    joined : (xs ys zs : List ArchivePost) → xs ++ (ys ++ zs) ≡ (xs ++ ys) ++ zs
    joined [] ys zs = refl
    joined (x ∷ xs) ys zs = ap (λ r. x ∷ r) (joined xs ys zs)

pub no_group : (n : ℕ) → (0 == suc n) ≡ false
no_group n = grind (arith)

pub not_posts : (n : ℕ) → (suc n == 0) ≡ false
not_posts n = grind (arith)

module _ (config : Config) (word : ArchiveWord) where
  pub no_post : (i : SiteItem) → making.is_generated config i ≡ true → making.if_post word i ≡ []
  no_post i is = by i.group is
    where
      by : (group : ℕ) → (group == making.generated_group config) ≡ true → (if group == 0 then making.archive_post word i ∷ [] else []) ≡ []
      by zero e = let same : false ≡ true = sym (no_group (length config.collections)) ∙ e in absurd (cc (same))
      by (suc group) e = ap (λ b. if b then making.archive_post word i ∷ [] else []) (not_posts group)

  pub no_posts : (is : List SiteItem) → AllByRecursion (λ i. making.is_generated config i ≡ true) is → making.archive_posts word is ≡ []
  no_posts [] h = refl
  no_posts (i ∷ is) h = ap (λ ps. ps ++ making.archive_posts word is) (no_post i h.0) ∙ no_posts is h.1

  pub own_posts : (is : List SiteItem) → making.archive_posts word (filter (λ i. not (making.is_generated config i)) is) ≡ making.archive_posts word is
  own_posts [] = refl
  own_posts (i ∷ is) = by (making.is_generated config i) refl (own_posts is)
    where
      by : (b : Bool) → making.is_generated config i ≡ b → making.archive_posts word (filter (λ j. not (making.is_generated config j)) is) ≡ making.archive_posts word is
          → making.archive_posts word (if not b then i ∷ filter (λ j. not (making.is_generated config j)) is else filter (λ j. not (making.is_generated config j)) is) ≡ making.if_post word i ++ making.archive_posts word is
      by true e rest = rest ∙ ap (λ ps. ps ++ making.archive_posts word is) (sym (no_post i e))
      by false e rest = ap (λ ps. making.if_post word i ++ ps) rest

  pub generated_kept : (is : List SiteItem) → AllByRecursion (λ i. making.is_generated config i ≡ true) (filter (making.is_generated config) is)
  generated_kept [] = tt
  generated_kept (i ∷ is) = by (making.is_generated config i) refl (generated_kept is)
    where
      by : (b : Bool) → making.is_generated config i ≡ b → AllByRecursion (λ j. making.is_generated config j ≡ true) (filter (making.is_generated config) is)
          → AllByRecursion (λ j. making.is_generated config j ≡ true) (if b then i ∷ filter (making.is_generated config) is else filter (making.is_generated config) is)
      by true e rest = (e, rest)
      by false e rest = rest

  -- further pages are no posts
  pub same_posts : (items pages : List SiteItem) → AllByRecursion (λ i. making.is_generated config i ≡ true) pages → making.archive_posts word (making.with_made config items pages) ≡ making.archive_posts word items
  same_posts items [] h = refl
  same_posts items (p ∷ ps) h =
      let made = making.by_name (filter (making.is_generated config) items ++ p ∷ ps) in
      let own = filter (λ i. not (making.is_generated config i)) items in
      posts_joined word own made
      ∙ ap (λ ps. making.archive_posts word own ++ ps) (no_posts made (by_name_all (λ i. making.is_generated config i ≡ true) _ (all_joined (λ i. making.is_generated config i ≡ true) (filter (making.is_generated config) items) (p ∷ ps) (generated_kept items) h)))
      ∙ nothing_behind (making.archive_posts word own)
      ∙ own_posts items

-- ---- the archives of a word

-- those that are added after other pages, where they are asked for
pub record Asked (config : Config) (word : ArchiveWord) (asked : Bool) (posts : List ArchivePost) (before all : List SiteItem) : Type 0 where
  pub made : List Archive
  pub are : AreAsked asked word posts made
  pub same : before ++ map (making.archive_page config word) made ≡ all

module _ (config : Config) (word : ArchiveWord) where
  pub word_asked : (items before all : List SiteItem) → making.word_pages config items word before ≡ Ok all → Asked config word true (making.archive_posts word items) before all
  word_asked items before all e =
      let made = found_before (making.of_archives (archives word (making.archive_posts word items))) _ all e in
      record {
        made = made.0;
        are = laws word (making.archive_posts word items) made.0 (of_archives_is _ made.0 made.1);
        same = found_value _ all made.2;
      }

  pub asked : (items before all : List SiteItem) → making.add_pages config items word before ≡ Ok all → Asked config word (making.asks_for config word) (making.archive_posts word items) before all
  asked items before all e = by (making.asks_for config word) e
    where
      by : (b : Bool) → (if b then making.word_pages config items word before else Ok before) ≡ Ok all → Asked config word b (making.archive_posts word items) before all
      by true is = word_asked items before all is
      by false is = record { made = []; are = refl; same = nothing_behind before ∙ found_value before all is }

  pub apart_asked : (asked : Bool) (posts : List ArchivePost) (made : List Archive) → AreAsked asked word posts made → Apart (map (making.archive_page config word) made)
  apart_asked true posts made are = pages_apart config word made (told config word _ are.rise)
  apart_asked false posts made none = subst (λ (those : List Archive). Apart (map (making.archive_page config word) those)) (sym none) tt

  pub below_asked : (asked : Bool) (posts : List ArchivePost) (made : List Archive) → AreAsked asked word posts made → AllByRecursion (IsBelow word) (map (making.archive_page config word) made)
  below_asked true posts made are = all_below made are.each
    where
      all_below : (those : List Archive) → AllByRecursion (IsArchive word posts) those → AllByRecursion (IsBelow word) (map (making.archive_page config word) those)
      all_below [] h = tt
      all_below (a ∷ those) h = (record { part = refl; rest = a.slug ++ codes "/index.html"; path = h.0.path_is }, all_below those h.1)
  below_asked false posts made none = subst (λ (those : List Archive). AllByRecursion (IsBelow word) (map (making.archive_page config word) those)) (sym none) tt

-- ---- a page of XML

pub xml_has : (config : Config) (path body : List ℕ) → Has config (xml_page config path body)
xml_has config path body =
    let known = page_known path (47 ∷ path) no_pairs in
    let vars = page_variables path (47 ∷ path) (placed path (47 ∷ path) no_pairs) in
    let knows : KnowsItself (xml_page config path body) = record {
      path = ap (λ o. unwrap_or o nil) known.its_path;
      relative_path = ap (λ o. unwrap_or o nil) known.its_relative_path;
      url = ap (λ o. unwrap_or o nil) known.its_url;
      ext = ap (λ o. unwrap_or o nil) known.its_ext;
    } in
    let variables : HasVariables config (xml_page config path body) = record {
      kind = kind.Page;
      in_group = refl;
      address = 47 ∷ path;
      own = λ none. absurd (cc (none));
      given = no_pairs;
      moment = None;
      previous = nil;
      next = nil;
      previous_is = inl refl;
      next_is = inl refl;
      are = ap hash (sym (addressed_again path (47 ∷ path) no_pairs)) ∙ ap (λ b. hash (addressed (47 ∷ path) (between b nil nil vars))) (sym (none_above (length config.collections)));
      paginator = inl refl;
      rooted = λ none. absurd (cc (none));
      post = λ first. absurd (cc (first));
    } in
    (knows, variables)

-- ---- all pages that are made

-- it has this path, and was made
abbrev pub IsAt : List ℕ → SiteItem → Type 0
IsAt path i = i.name ≡ (record { path = path; part = 1 })

abbrev pub IsMade : Config → SiteItem → Type 0
IsMade config i = making.is_generated config i ≡ true

pub same_group : (n : ℕ) → (n == n) ≡ true
same_group n = grind (arith)

pub first_byte : List ℕ → ℕ
first_byte [] = 0
first_byte (c ∷ cs) = c

-- an archive has another path than a page at the root
pub not_below : (word : ArchiveWord) (path : List ℕ) (i j : SiteItem) → (first_byte path ≡ 102) ⊎ (first_byte path ≡ 115) → IsBelow word i → IsAt path j → Other i j
unfolding first_byte
not_below Category path i j first below at same =
    let letters : 99 ≡ first_byte path = ap first_byte (sym below.path ∙ ap (λ (n : ItemName). n.path) same ∙ ap (λ (n : ItemName). n.path) at) in by first letters
  where
    by : (first_byte path ≡ 102) ⊎ (first_byte path ≡ 115) → 99 ≡ first_byte path → ⊥
    by (inl is) letters = absurd (omega (arith, is, letters))
    by (inr is) letters = absurd (omega (arith, is, letters))
not_below Tag path i j first below at same =
    let letters : 116 ≡ first_byte path = ap first_byte (sym below.path ∙ ap (λ (n : ItemName). n.path) same ∙ ap (λ (n : ItemName). n.path) at) in by first letters
  where
    by : (first_byte path ≡ 102) ⊎ (first_byte path ≡ 115) → 116 ≡ first_byte path → ⊥
    by (inl is) letters = absurd (omega (arith, is, letters))
    by (inr is) letters = absurd (omega (arith, is, letters))

pub all_crossed : (P Q : SiteItem → Type 0) (is js : List SiteItem) → ((i j : SiteItem) → P i → Q j → Other i j) → AllByRecursion P is → AllByRecursion Q js → AllByRecursion (λ i. AllByRecursion (Other i) js) is
all_crossed P Q [] js differ h k = tt
all_crossed P Q (i ∷ is) js differ h k = (all_turned Q (Other i) js (λ j. differ i j h.0) k, all_crossed P Q is js differ h.1 k)

pub all_among : (all : List SiteItem) (is : List SiteItem) → ((i : SiteItem) → IsAmong i is → IsAmong i all) → AllByRecursion (λ i. IsAmong i all) is
all_among all [] there = tt
all_among all (i ∷ is) there = (there i (inl refl), all_among all is (λ j held. there j (inr held)))

module _ (config : Config) (copies : List StaticFile) (paged : List SiteItem) (apart : Apart paged) (parts : AllByRecursion (λ (i : SiteItem). i.name.part ≢ 1) paged) where
  pub feed_at : AllByRecursion (λ i. IsAt (codes "feed.xml") i × IsMade config i) (feed_pages config)
  feed_at = by config.make_feed
    where
      by : (b : Bool) → AllByRecursion (λ i. IsAt (codes "feed.xml") i × IsMade config i) (if b then feed_page config ∷ [] else [])
      by true = ((refl, same_group (making.generated_group config)), tt)
      by false = tt

  pub feed_apart : Apart (feed_pages config)
  feed_apart = by config.make_feed
    where
      by : (b : Bool) → Apart (if b then feed_page config ∷ [] else [])
      by true = (tt, tt)
      by false = tt

  pub map_at : (first : List SiteItem) → AllByRecursion (λ i. IsAt (codes "sitemap.xml") i × IsMade config i) (sitemap_pages config copies first)
  map_at first = by config.make_sitemap
    where
      by : (b : Bool) → AllByRecursion (λ i. IsAt (codes "sitemap.xml") i × IsMade config i) (if b then sitemap_page config (listed config first copies) ∷ [] else [])
      by true = ((refl, same_group (making.generated_group config)), tt)
      by false = tt

  pub map_apart : (first : List SiteItem) → Apart (sitemap_pages config copies first)
  map_apart first = by config.make_sitemap
    where
      by : (b : Bool) → Apart (if b then sitemap_page config (listed config first copies) ∷ [] else [])
      by true = (tt, tt)
      by false = tt

  -- the pages of the archives, with those of the feed
  module _ (categories tags : List Archive) (posts-c posts-t : List ArchivePost) (asks-c asks-t : Bool) (are-c : AreAsked asks-c Category posts-c categories) (are-t : AreAsked asks-t Tag posts-t tags) where
    abbrev pub in_categories : List SiteItem
    in_categories = map (making.archive_page config Category) categories

    abbrev pub in_tags : List SiteItem
    in_tags = map (making.archive_page config Tag) tags

    abbrev pub archives_made : List SiteItem
    archives_made = in_categories ++ in_tags

    abbrev pub pages_made : List SiteItem
    pages_made = archives_made ++ feed_pages config

    abbrev pub first_made : List SiteItem
    first_made = making.with_made config paged pages_made

    abbrev pub all_made : List SiteItem
    all_made = mapped config copies first_made

    pub below-c : AllByRecursion (IsBelow Category) in_categories
    below-c = below_asked config Category asks-c posts-c categories are-c

    pub below-t : AllByRecursion (IsBelow Tag) in_tags
    below-t = below_asked config Tag asks-t posts-t tags are-t

    pub not_first : (i j : SiteItem) → i.name.part ≢ 1 → j.name.part ≡ 1 → Other i j
    not_first i j other part same = other (ap (λ (n : ItemName). n.part) same ∙ part)

    pub folders_differ : (i j : SiteItem) → IsBelow Category i → IsBelow Tag j → Other i j
    unfolding first_byte
    folders_differ i j category tag same =
        let letters : 99 ≡ 116 = ap first_byte (sym category.path ∙ ap (λ (n : ItemName). n.path) same ∙ tag.path) in
        absurd (omega (arith, letters))

    -- of what is below a word, and of what stands at the root
    pub root_differs : (word : ArchiveWord) (path : List ℕ) → (first_byte path ≡ 102) ⊎ (first_byte path ≡ 115) → (is js : List SiteItem) → AllByRecursion (IsBelow word) is → AllByRecursion (λ i. IsAt path i × IsMade config i) js → AllByRecursion (λ i. AllByRecursion (Other i) js) is
    root_differs word path first is js below at = all_crossed (IsBelow word) (λ j. IsAt path j × IsMade config j) is js (λ i j b a. not_below word path i j first b a.0) below at

    pub first_parts : AllByRecursion (λ (i : SiteItem). i.name.part ≡ 1) pages_made
    first_parts =
        all_joined (λ (i : SiteItem). i.name.part ≡ 1) archives_made (feed_pages config)
        (all_joined (λ (i : SiteItem). i.name.part ≡ 1) in_categories in_tags
        (all_turned (IsBelow Category) (λ (i : SiteItem). i.name.part ≡ 1) in_categories (λ i b. b.part) below-c)
        (all_turned (IsBelow Tag) (λ (i : SiteItem). i.name.part ≡ 1) in_tags (λ i b. b.part) below-t))
        (all_turned (λ i. IsAt (codes "feed.xml") i × IsMade config i) (λ (i : SiteItem). i.name.part ≡ 1) (feed_pages config) (λ i at. ap (λ (n : ItemName). n.part) at.0) feed_at)

    pub pages_differ : Apart pages_made
    unfolding first_byte
    pages_differ =
        joined_apart archives_made (feed_pages config)
        (joined_apart in_categories in_tags (apart_asked config Category asks-c posts-c categories are-c) (apart_asked config Tag asks-t posts-t tags are-t)
        (all_crossed (IsBelow Category) (IsBelow Tag) in_categories in_tags folders_differ below-c below-t))
        feed_apart
        (all_joined (λ i. AllByRecursion (Other i) (feed_pages config)) in_categories in_tags
        (root_differs Category (codes "feed.xml") (inl refl) in_categories (feed_pages config) below-c feed_at)
        (root_differs Tag (codes "feed.xml") (inl refl) in_tags (feed_pages config) below-t feed_at))

    pub first_crossed : AllByRecursion (λ i. AllByRecursion (Other i) pages_made) paged
    first_crossed = all_crossed (λ (i : SiteItem). i.name.part ≢ 1) (λ (j : SiteItem). j.name.part ≡ 1) paged pages_made not_first parts first_parts

    -- no two of those that are merged have one name
    pub first_apart : Apart (generated_of config paged pages_made ++ pages_made)
    first_apart =
        joined_apart (filter (making.is_generated config) paged) pages_made (kept_apart (making.is_generated config) paged apart) pages_differ
        (all_kept (λ i. AllByRecursion (Other i) pages_made) (making.is_generated config) paged first_crossed)

    pub names_first : Apart first_made
    names_first = made_apart config paged pages_made apart first_crossed

    abbrev pub map_pages : List SiteItem
    map_pages = sitemap_pages config copies first_made

    pub map_crossed : AllByRecursion (λ i. AllByRecursion (Other i) map_pages) first_made
    unfolding first_byte
    map_crossed =
        made_all config paged pages_made (λ i. AllByRecursion (Other i) map_pages)
        (all_crossed (λ (i : SiteItem). i.name.part ≢ 1) (λ i. IsAt (codes "sitemap.xml") i × IsMade config i) paged map_pages (λ i j other at. not_first i j other (ap (λ (n : ItemName). n.part) at.0)) parts (map_at first_made))
        (all_joined (λ i. AllByRecursion (Other i) map_pages) archives_made (feed_pages config)
        (all_joined (λ i. AllByRecursion (Other i) map_pages) in_categories in_tags
        (root_differs Category (codes "sitemap.xml") (inr refl) in_categories map_pages below-c (map_at first_made))
        (root_differs Tag (codes "sitemap.xml") (inr refl) in_tags map_pages below-t (map_at first_made)))
        (all_crossed (λ i. IsAt (codes "feed.xml") i × IsMade config i) (λ i. IsAt (codes "sitemap.xml") i × IsMade config i) (feed_pages config) map_pages feed_differs feed_at (map_at first_made)))
      where
        feed_differs : (i j : SiteItem) → IsAt (codes "feed.xml") i × IsMade config i → IsAt (codes "sitemap.xml") j × IsMade config j → Other i j
        feed_differs i j feed map same =
            let letters : 102 ≡ 115 = ap first_byte (ap (λ (n : ItemName). n.path) (sym feed.0 ∙ same ∙ map.0)) in
            absurd (omega (arith, letters))

    pub map_merged : Apart (generated_of config first_made map_pages ++ map_pages)
    map_merged =
        joined_apart (filter (making.is_generated config) first_made) map_pages (kept_apart (making.is_generated config) first_made names_first) (map_apart first_made)
        (all_kept (λ i. AllByRecursion (Other i) map_pages) (making.is_generated config) first_made map_crossed)

    -- no two items have one name
    pub names_all : Apart all_made
    names_all = made_apart config first_made map_pages names_first map_crossed

    -- an archive is among the items
    pub page_there : (i : SiteItem) → IsMade config i → IsAmong i archives_made → IsAmong i all_made
    page_there i made there =
        made_among config first_made map_pages i made map_merged
        (page_among config paged pages_made i first_apart (among_left i archives_made (feed_pages config) there))

    -- what is said of each of them is said of all
    pub each_made : (P : SiteItem → Type 0) → ((i : SiteItem) → i.name.part ≢ 1 → P i) → AllByRecursion P in_categories → AllByRecursion P in_tags → ((i : SiteItem) → IsAt (codes "feed.xml") i → P i) → ((i : SiteItem) → IsAt (codes "sitemap.xml") i → P i) → AllByRecursion P all_made
    each_made P others categories tags feed map =
        made_all config first_made map_pages P
        (made_all config paged pages_made P (all_turned (λ (i : SiteItem). i.name.part ≢ 1) P paged others parts)
        (all_joined P archives_made (feed_pages config) (all_joined P in_categories in_tags categories tags)
        (all_turned (λ i. IsAt (codes "feed.xml") i × IsMade config i) P (feed_pages config) (λ i at. feed i at.0) feed_at)))
        (all_turned (λ i. IsAt (codes "sitemap.xml") i × IsMade config i) P map_pages (λ i at. map i at.0) (map_at first_made))

    -- further pages are no posts
    pub posts_stay : (word : ArchiveWord) → making.archive_posts word all_made ≡ making.archive_posts word paged
    posts_stay word =
        same_posts config word first_made map_pages (all_turned (λ i. IsAt (codes "sitemap.xml") i × IsMade config i) (IsMade config) map_pages (λ i at. at.1) (map_at first_made))
        ∙ same_posts config word paged pages_made
        (all_joined (IsMade config) archives_made (feed_pages config)
        (all_joined (IsMade config) in_categories in_tags (archives_made_so Category categories) (archives_made_so Tag tags))
        (all_turned (λ i. IsAt (codes "feed.xml") i × IsMade config i) (IsMade config) (feed_pages config) (λ i at. at.1) feed_at))
      where
        archives_made_so : (word : ArchiveWord) (those : List Archive) → AllByRecursion (IsMade config) (map (making.archive_page config word) those)
        archives_made_so word [] = tt
        archives_made_so word (a ∷ those) = (same_group (making.generated_group config), archives_made_so word those)

    pub pages_all : (word : ArchiveWord) (those : List Archive) → ((i : SiteItem) → IsAmong i (map (making.archive_page config word) those) → IsAmong i archives_made) → AllByRecursion (λ (a : Archive). IsAmong (making.archive_page config word a) all_made) those
    pages_all word [] within = tt
    pages_all word (a ∷ those) within =
        (page_there (making.archive_page config word a) (same_group (making.generated_group config)) (within (making.archive_page config word a) (inl refl)), pages_all word those (λ i held. within i (inr held)))

    pub no_root : (word : ArchiveWord) (path : List ℕ) → (first_byte path ≡ 102) ⊎ (first_byte path ≡ 115) → (i : SiteItem) → IsAt path i → IsBelow word i → ⊥
    no_root word path first i at below = not_below word path i i first below at refl

    pub few_archives : (word : ArchiveWord) (asked : Bool) (posts : List ArchivePost) (those : List Archive) → AreAsked asked word posts those → length those ≤ 100000
    few_archives word true posts those are = are.few
    few_archives word false posts those none = subst (λ (made : List Archive). length made ≤ 100000) (sym none) (omega arith)

    pub few_made : length all_made ≤ length paged + 200002
    few_made =
        omega (
          arith,
          made_few config first_made map_pages,
          made_few config paged pages_made,
          length-append archives_made (feed_pages config),
          length-append in_categories in_tags,
          length-map categories (making.archive_page config Category),
          length-map tags (making.archive_page config Tag),
          few_archives Category asks-c posts-c categories are-c,
          few_archives Tag asks-t posts-t tags are-t,
          one_feed config.make_feed,
          one_map config.make_sitemap,
        )
      where
        one_feed : (b : Bool) → length (if b then feed_page config ∷ [] else []) ≤ 1
        one_feed true = omega arith
        one_feed false = omega arith

        one_map : (b : Bool) → length (if b then sitemap_page config (listed config first_made copies) ∷ [] else []) ≤ 1
        one_map true = omega arith
        one_map false = omega arith

    pub has_made : AllByRecursion (Has config) paged → AllByRecursion (Has config) all_made
    has_made has =
        made_all config first_made map_pages (Has config)
        (made_all config paged pages_made (Has config) has
        (all_joined (Has config) archives_made (feed_pages config)
        (all_joined (Has config) in_categories in_tags (archives_have Category categories) (archives_have Tag tags))
        (feed_has config.make_feed)))
        (map_has config.make_sitemap)
      where
        archives_have : (word : ArchiveWord) (those : List Archive) → AllByRecursion (Has config) (map (making.archive_page config word) those)
        archives_have word [] = tt
        archives_have word (a ∷ those) = (page_has config word a, archives_have word those)

        feed_has : (b : Bool) → AllByRecursion (Has config) (if b then feed_page config ∷ [] else [])
        feed_has true = (xml_has config (codes "feed.xml") _, tt)
        feed_has false = tt

        map_has : (b : Bool) → AllByRecursion (Has config) (if b then sitemap_page config (listed config first_made copies) ∷ [] else [])
        map_has true = (xml_has config (codes "sitemap.xml") _, tt)
        map_has false = tt

    pub archived : (word : ArchiveWord) → asks-c ≡ making.asks_for config Category → asks-t ≡ making.asks_for config Tag → posts-c ≡ making.archive_posts Category paged → posts-t ≡ making.archive_posts Tag paged → HasArchives config all_made word
    unfolding first_byte
    archived Category asks asks' posts posts' = record {
      made = categories;
      are = subst (λ (a : Bool). AreAsked a Category (making.archive_posts Category all_made) categories) asks (subst (λ (ps : List ArchivePost). AreAsked asks-c Category ps categories) (posts ∙ sym (posts_stay Category)) are-c);
      each = pages_all Category categories (λ i held. among_left i in_categories in_tags held);
      only = each_made (λ i. IsBelow Category i → IsAmong i in_categories)
          (λ i other below. absurd (other below.part))
          (all_turned (λ i. IsAmong i in_categories) (λ i. IsBelow Category i → IsAmong i in_categories) in_categories (λ i there below. there) (all_among in_categories in_categories (λ i there. there)))
          (all_turned (IsBelow Tag) (λ i. IsBelow Category i → IsAmong i in_categories) in_tags (λ i tag below. absurd (folders_differ i i below tag refl)) below-t)
          (λ i at below. absurd (no_root Category (codes "feed.xml") (inl refl) i at below))
          (λ i at below. absurd (no_root Category (codes "sitemap.xml") (inr refl) i at below));
    }
    archived Tag asks asks' posts posts' = record {
      made = tags;
      are = subst (λ (a : Bool). AreAsked a Tag (making.archive_posts Tag all_made) tags) asks' (subst (λ (ps : List ArchivePost). AreAsked asks-t Tag ps tags) (posts' ∙ sym (posts_stay Tag)) are-t);
      each = pages_all Tag tags (λ i held. among_right i in_categories in_tags held);
      only = each_made (λ i. IsBelow Tag i → IsAmong i in_tags)
          (λ i other below. absurd (other below.part))
          (all_turned (IsBelow Category) (λ i. IsBelow Tag i → IsAmong i in_tags) in_categories (λ i category below. absurd (folders_differ i i category below refl)) below-c)
          (all_turned (λ i. IsAmong i in_tags) (λ i. IsBelow Tag i → IsAmong i in_tags) in_tags (λ i there below. there) (all_among in_tags in_tags (λ i there. there)))
          (λ i at below. absurd (no_root Tag (codes "feed.xml") (inl refl) i at below))
          (λ i at below. absurd (no_root Tag (codes "sitemap.xml") (inr refl) i at below));
    }

-- what is said of the items with all pages that are made besides
pub record AreGenerated (config : Config) (paged made : List SiteItem) : Type 0 where
  pub few : length made ≤ length paged + 200002
  pub apart : Distinct (map (λ (i : SiteItem). i.name) made)
  pub has : AllByRecursion (Has config) made
  pub archives : (word : ArchiveWord) → HasArchives config made word

pub generated_items : (config : Config) (copies : List StaticFile) (paged made : List SiteItem) → Distinct (map (λ (i : SiteItem). i.name) paged) → AllByRecursion (λ (i : SiteItem). i.name.part ≢ 1) paged → AllByRecursion (Has config) paged
    → generated config copies paged ≡ Ok made → AreGenerated config paged made
generated_items config copies paged made apart parts has e = by (marks_xml config) e
  where
    by : (b : Bool) → (if b then Err (fault_at fault.Config config_path) else (with_archives_and_feed config paged >>= λ all. Ok (mapped config copies all))) ≡ Ok made → AreGenerated config paged made
    by true e = absurd (cc (e))
    by false e =
        let first = found_before (with_archives_and_feed config paged) (λ all. Ok (mapped config copies all)) made e in
        let pages = found_before (making.archive_pages config paged) (λ ps. Ok (making.with_made config paged (ps ++ feed_pages config))) first.0 first.1 in
        let before = found_before (making.add_pages config paged Category []) (making.add_pages config paged Tag) pages.0 pages.1 in
        let c = asked config Category paged [] before.0 before.1 in
        let t = asked config Tag paged before.0 pages.0 before.2 in
        let names = items_apart paged apart in
        let both : map (making.archive_page config Category) c.made ++ map (making.archive_page config Tag) t.made ≡ pages.0 =
        ap (λ ps. ps ++ map (making.archive_page config Tag) t.made) c.same ∙ t.same in
        let whole : all_made config copies paged names parts c.made t.made _ _ _ _ c.are t.are ≡ made =
        ap (λ ps. mapped config copies (making.with_made config paged (ps ++ feed_pages config))) both
        ∙ ap (mapped config copies) (found_value _ first.0 pages.2) ∙ found_value _ made first.2 in
        subst (AreGenerated config paged) whole (record {
          few = few_made config copies paged names parts c.made t.made _ _ _ _ c.are t.are;
          apart = names_apart _ (names_all config copies paged names parts c.made t.made _ _ _ _ c.are t.are);
          has = has_made config copies paged names parts c.made t.made _ _ _ _ c.are t.are has;
          archives = λ word. archived config copies paged names parts c.made t.made _ _ _ _ c.are t.are word refl refl refl refl;
        })
