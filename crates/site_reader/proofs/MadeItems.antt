-- What is said of the items of a site holds of them with their archives too.
use Rattle.std.proofs.Common.{◌≡◌, ◌≢◌, ℕ, zero, suc, ◌+◌, ◌≤◌, nat_lt, Bool, true, false, not, if◌then◌else◌, List, [], ◌∷◌, ◌++◌, codes, length, length-append, map, Option, Some, None, Result, Ok, Err, Less, Equal, Greater, Ordering, is_lt, inl, arith, refl, sym, ap, subst, ◌∙◌}
use Rattle.std.specs.Prelude.{T, ◌&&◌, filter, fold}
use Rattle.std.specs.BTreeMap.{insert_entry}
use Rattle.std.specs.Cmp.{tied_itself}
use Rattle.std.specs.Cmp.Lexicographic.{nat_list_cmp_total}
use Rattle.std.specs.FinMap.Entries.{below_all, is_sorted}
use Rattle.std.specs.List.{AllByRecursion}
use Rattle.std.specs.Map.{keys_of, values_of}
use Rattle.std.specs.Option.{unwrap_or}
use Rattle.std.specs.Ordering.{match_ordering}
use Rattle.std.specs.Str.{bytes_eq}
use Rattle.std.proofs.lemmas.List.{length-map}
use Rattle.site_base.specs.Places.{path_cmp}
use Rattle.site_base.specs.Plain.{Pairs, Plain, get, hash, nil, no_pairs, pair, set, text}
use Rattle.site_base.specs.declared.item_name.ItemName.{ItemName}
use Rattle.site_config.specs.declared.config.Config.{Config}
use Rattle.site_files.specs.Names.{file_name}
use Rattle.site_items.specs.Items.{addressed, folder_of, page_variables, placed}
use Rattle.site_items.specs.declared.kind.Kind.TheVariants as kind
use Rattle.site_reader.specs.Lawful.{HasVariables, KnowsItself}
use Rattle.site_reader.specs.Making as making
use Rattle.site_reader.specs.Neighbours.{between}
use Rattle.site_reader.specs.declared.site_item.SiteItem.{SiteItem}
use Rattle.tag_archives.specs.Archives.{archives, folder}
use Rattle.tag_archives.specs.declared.archive.Archive.{Archive}
use Rattle.tag_archives.specs.declared.archive.ArchiveError.{ArchiveError}
use Rattle.tag_archives.specs.declared.archive.ArchivePost.{ArchivePost}
use Rattle.tag_archives.specs.declared.archive.ArchiveWord.{ArchiveWord}
use Rattle.tag_archives.specs.declared.archive.ArchiveWord.TheVariants.{Category, Tag}
use Rattle.tag_archives.specs.Listing.{AreArchives, IsArchive}
use Rattle.tag_archives.proofs.Laws.{laws}
use Rattle.site_reader.proofs.Collected.{stays_sorted}
use Rattle.site_reader.proofs.Differing.{Distinct}
use Rattle.site_reader.proofs.EachLaws.{nothing_behind}
use Rattle.site_reader.proofs.NameOrder.{name_same, name_total}
use Rattle.site_reader.proofs.VariableLaws.{Has, page_known, same_set}
use Rattle.site_reader.proofs.Weights.{found_before, found_value}

abbrev pub name_of : SiteItem → ItemName
name_of i = i.name

-- ---- lists

module _ {A : Type 0} where
  pub all_joined : (P : A → Type 0) (xs ys : List A) → AllByRecursion P xs → AllByRecursion P ys → AllByRecursion P (xs ++ ys)
  all_joined P [] ys h k = k
  all_joined P (x ∷ xs) ys h k = (h.0, all_joined P xs ys h.1 k)

  pub all_turned : (P Q : A → Type 0) (xs : List A) → ((x : A) → P x → Q x) → AllByRecursion P xs → AllByRecursion Q xs
  all_turned P Q [] to h = tt
  all_turned P Q (x ∷ xs) to h = (to x h.0, all_turned P Q xs to h.1)

  all_both : (P Q : A → Type 0) (xs : List A) → AllByRecursion P xs → AllByRecursion Q xs → AllByRecursion (λ x. P x × Q x) xs
  all_both P Q [] h k = tt
  all_both P Q (x ∷ xs) h k = ((h.0, k.0), all_both P Q xs h.1 k.1)

  pub all_kept : (P : A → Type 0) (p : A → Bool) (xs : List A) → AllByRecursion P xs → AllByRecursion P (filter p xs)
  all_kept P p [] h = tt
  all_kept P p (x ∷ xs) h = by (p x) (all_kept P p xs h.1)
    where
      by : (b : Bool) → AllByRecursion P (filter p xs) → AllByRecursion P (if b then x ∷ filter p xs else filter p xs)
      by true rest = (h.0, rest)
      by false rest = rest

  -- what is parted is no more than before
  parted_few : (p : A → Bool) (xs : List A) → length (filter (λ x. not (p x)) xs) + length (filter p xs) ≡ length xs
  parted_few p [] = refl
  parted_few p (x ∷ xs) = by (p x) (parted_few p xs)
    where
      by : (b : Bool) → length (filter (λ y. not (p y)) xs) + length (filter p xs) ≡ length xs
          → length (if not b then x ∷ filter (λ y. not (p y)) xs else filter (λ y. not (p y)) xs) + length (if b then x ∷ filter p xs else filter p xs) ≡ suc (length xs)
      by true rest = omega (arith, rest)
      by false rest = omega (arith, rest)

-- ---- items of which no two have one name

abbrev pub Other : SiteItem → SiteItem → Type 0
Other i j = i.name ≢ j.name

abbrev pub Apart : List SiteItem → Type 0
Apart [] = Unit {0}
Apart (i ∷ is) = AllByRecursion (Other i) is × Apart is

other_items : (n : ItemName) (is : List SiteItem) → AllByRecursion (λ m. n ≢ m) (map name_of is) → AllByRecursion (λ (j : SiteItem). n ≢ j.name) is
other_items n [] h = tt
other_items n (i ∷ is) h = (h.0, other_items n is h.1)

other_names : (n : ItemName) (is : List SiteItem) → AllByRecursion (λ (j : SiteItem). n ≢ j.name) is → AllByRecursion (λ m. n ≢ m) (map name_of is)
other_names n [] h = tt
other_names n (i ∷ is) h = (h.0, other_names n is h.1)

pub items_apart : (is : List SiteItem) → Distinct (map name_of is) → Apart is
items_apart [] h = tt
items_apart (i ∷ is) h = (other_items i.name is h.0, items_apart is h.1)

pub names_apart : (is : List SiteItem) → Apart is → Distinct (map name_of is)
names_apart [] h = tt
names_apart (i ∷ is) h = (other_names i.name is h.0, names_apart is h.1)

pub joined_apart : (is js : List SiteItem) → Apart is → Apart js → AllByRecursion (λ i. AllByRecursion (Other i) js) is → Apart (is ++ js)
joined_apart [] js h k cross = k
joined_apart (i ∷ is) js h k cross = (all_joined (Other i) is js h.0 cross.0, joined_apart is js h.1 k cross.1)

module _ (p : SiteItem → Bool) where
  pub kept_apart : (is : List SiteItem) → Apart is → Apart (filter p is)
  kept_apart [] h = tt
  kept_apart (i ∷ is) h = by (p i) (kept_apart is h.1)
    where
      by : (b : Bool) → Apart (filter p is) → Apart (if b then i ∷ filter p is else filter p is)
      by true rest = (all_kept (Other i) p is h.0, rest)
      by false rest = rest

  -- those that are parted from each other have other names
  parted_apart : (is : List SiteItem) → Apart is → AllByRecursion (λ i. AllByRecursion (Other i) (filter p is)) (filter (λ i. not (p i)) is)
  parted_apart [] h = tt
  parted_apart (i ∷ is) h = by (p i) (parted_apart is h.1)
    where
      turned : AllByRecursion (λ j. Other j i) (filter (λ j. not (p j)) is)
      turned = all_kept (λ j. Other j i) (λ j. not (p j)) is (all_turned (Other i) (λ j. Other j i) is (λ j other same. other (sym same)) h.0)

      by : (b : Bool) → AllByRecursion (λ j. AllByRecursion (Other j) (filter p is)) (filter (λ j. not (p j)) is)
          → AllByRecursion (λ j. AllByRecursion (Other j) (if b then i ∷ filter p is else filter p is)) (if not b then i ∷ filter (λ j. not (p j)) is else filter (λ j. not (p j)) is)
      by true rest = all_both (λ j. Other j i) (λ j. AllByRecursion (Other j) (filter p is)) (filter (λ j. not (p j)) is) turned rest
      by false rest = (all_kept (Other i) p is h.0, rest)

-- ---- items by their names

abbrev pub Entries : Type 0
Entries = List (ItemName × SiteItem)

abbrev pub put_all : Entries → List SiteItem → Entries
put_all es is = fold (λ made e. insert_entry making.name_cmp made e.0 e.1) es (map making.named is)

module _ (P : ItemName × SiteItem → Type 0) (alike : (n m : ItemName) (i : SiteItem) → n ≡ m → P (n, i) → P (m, i)) where
  put_keeps : (n : ItemName) (i : SiteItem) (es : Entries) → P (n, i) → AllByRecursion P es → AllByRecursion P (insert_entry making.name_cmp es n i)
  put_keeps n i [] holds h = (holds, tt)
  put_keeps n i (e ∷ es) holds h = by (making.name_cmp n e.0) refl (put_keeps n i es holds h.1)
    where
      by : (o : Ordering) → making.name_cmp n e.0 ≡ o → AllByRecursion P (insert_entry making.name_cmp es n i)
          → AllByRecursion P (match_ordering o ((n, i) ∷ e ∷ es) ((e.0, i) ∷ es) (e ∷ insert_entry making.name_cmp es n i))
      by Less is rest = (holds, h)
      by Equal is rest = (alike n e.0 i (name_same n e.0 is) holds, h.1)
      by Greater is rest = (h.0, rest)

  all_put : (is : List SiteItem) (es : Entries) → AllByRecursion (λ i. P (i.name, i)) is → AllByRecursion P es → AllByRecursion P (put_all es is)
  all_put [] es h k = k
  all_put (i ∷ is) es h k = all_put is (insert_entry making.name_cmp es i.name i) h.1 (put_keeps i.name i es h.0 k)

all_values : (P : SiteItem → Type 0) (es : Entries) → AllByRecursion (λ e. P e.1) es → AllByRecursion P (values_of es)
all_values P [] h = tt
all_values P (e ∷ es) h = (h.0, all_values P es h.1)

-- what holds of items holds of them by their names
pub by_name_all : (P : SiteItem → Type 0) (is : List SiteItem) → AllByRecursion P is → AllByRecursion P (making.by_name is)
by_name_all P is h = all_values P (put_all [] is) (all_put (λ e. P e.1) (λ n m i same holds. holds) is [] h tt)

keys_are : (es : Entries) → AllByRecursion (λ e. e.1.name ≡ e.0) es → map name_of (values_of es) ≡ keys_of es
keys_are [] h = refl
keys_are (e ∷ es) h = λ i. h.0 i ∷ keys_are es h.1 i

own_names : (is : List SiteItem) → AllByRecursion (λ (i : SiteItem). i.name ≡ i.name) is
own_names [] = tt
own_names (i ∷ is) = (refl, own_names is)

halves : (a b : Bool) → T (a && b) → T a × T b
halves true b h = (tt, h)
halves false b h = absurd h

not_below : (n m : ItemName) → T (is_lt (making.name_cmp n m)) → n ≢ m
not_below n m lt same = subst (λ o. T (is_lt o)) (ap (making.name_cmp n) (sym same) ∙ tied_itself name_total n) lt

below_apart : (n : ItemName) (es : Entries) → T (below_all making.name_cmp n es) → AllByRecursion (λ m. n ≢ m) (keys_of es)
below_apart n [] h = tt
below_apart n (e ∷ es) h = let both = halves (is_lt (making.name_cmp n e.0)) _ h in (not_below n e.0 both.0, below_apart n es both.1)

sorted_apart : (es : Entries) → T (is_sorted making.name_cmp es) → Distinct (keys_of es)
sorted_apart [] h = tt
sorted_apart (e ∷ es) h = let both = halves (below_all making.name_cmp e.0 es) _ h in (below_apart e.0 es both.0, sorted_apart es both.1)

by_name_apart : (is : List SiteItem) → Apart (making.by_name is)
by_name_apart is =
    let es = put_all [] is in
    items_apart (values_of es)
    (subst Distinct (sym (keys_are es (all_put (λ e. e.1.name ≡ e.0) (λ n m i same is. is ∙ same) is [] (own_names is) tt)))
    (sorted_apart es (stays_sorted name_total [] (map making.named is) tt)))

put_few : (n : ItemName) (i : SiteItem) (es : Entries) → length (insert_entry making.name_cmp es n i) ≤ suc (length es)
put_few n i [] = omega arith
put_few n i (e ∷ es) = by (making.name_cmp n e.0) (put_few n i es)
  where
    by : (o : Ordering) → length (insert_entry making.name_cmp es n i) ≤ suc (length es)
        → length (match_ordering o ((n, i) ∷ e ∷ es) ((e.0, i) ∷ es) (e ∷ insert_entry making.name_cmp es n i)) ≤ suc (suc (length es))
    by Less rest = omega arith
    by Equal rest = omega arith
    by Greater rest = omega (arith, rest)

all_few : (is : List SiteItem) (es : Entries) → length (put_all es is) ≤ length es + length is
all_few [] es = omega arith
all_few (i ∷ is) es = omega (arith, all_few is (insert_entry making.name_cmp es i.name i), put_few i.name i es)

values_few : (es : Entries) → length (values_of es) ≡ length es
values_few [] = refl
values_few (e ∷ es) = ap suc (values_few es)

by_name_few : (is : List SiteItem) → length (making.by_name is) ≤ length is
by_name_few is = omega (arith, values_few (put_all [] is), all_few is [])

-- ---- items with further pages

module _ (config : Config) (items pages : List SiteItem) where
  abbrev own : List SiteItem
  own = filter (λ i. not (making.is_generated config i)) items

  abbrev generated : List SiteItem
  generated = filter (making.is_generated config) items

  pub made_few : length (making.with_made config items pages) ≤ length items + length pages
  made_few = by pages
    where
      by : (ps : List SiteItem) → length (making.with_made config items ps) ≤ length items + length ps
      by [] = omega arith
      by (p ∷ ps) =
          omega (
            arith,
            length-append own (making.by_name (generated ++ p ∷ ps)),
            by_name_few (generated ++ p ∷ ps),
            length-append generated (p ∷ ps),
            parted_few (making.is_generated config) items,
          )

  pub made_all : (P : SiteItem → Type 0) → AllByRecursion P items → AllByRecursion P pages → AllByRecursion P (making.with_made config items pages)
  made_all P h k = by pages k
    where
      by : (ps : List SiteItem) → AllByRecursion P ps → AllByRecursion P (making.with_made config items ps)
      by [] k = h
      by (p ∷ ps) k =
          all_joined P own (making.by_name (generated ++ p ∷ ps)) (all_kept P (λ i. not (making.is_generated config i)) items h)
          (by_name_all P (generated ++ p ∷ ps) (all_joined P generated (p ∷ ps) (all_kept P (making.is_generated config) items h) k))

  pub made_apart : Apart items → AllByRecursion (λ i. AllByRecursion (Other i) pages) items → Apart (making.with_made config items pages)
  made_apart apart cross = by pages cross
    where
      by : (ps : List SiteItem) → AllByRecursion (λ i. AllByRecursion (Other i) ps) items → Apart (making.with_made config items ps)
      by [] cross = apart
      by (p ∷ ps) cross =
          joined_apart own (making.by_name (generated ++ p ∷ ps)) (kept_apart (λ i. not (making.is_generated config i)) items apart) (by_name_apart (generated ++ p ∷ ps))
          (all_turned (λ i. AllByRecursion (Other i) generated × AllByRecursion (Other i) (p ∷ ps)) (λ i. AllByRecursion (Other i) (making.by_name (generated ++ p ∷ ps))) own
          (λ i h. by_name_all (Other i) (generated ++ p ∷ ps) (all_joined (Other i) generated (p ∷ ps) h.0 h.1))
          (all_both (λ i. AllByRecursion (Other i) generated) (λ i. AllByRecursion (Other i) (p ∷ ps)) own
          (parted_apart (making.is_generated config) items apart)
          (all_kept (λ i. AllByRecursion (Other i) (p ∷ ps)) (λ i. not (making.is_generated config i)) items cross)))

-- where there are further pages
pub some_made : (config : Config) (items pages : List SiteItem) → (length pages ≡ 0 → ⊥) → making.merged config items pages ≡ making.with_made config items pages
some_made config items [] some = absurd (some refl)
some_made config items (page ∷ pages) some = refl

-- ---- a page

set_again : (key : List ℕ) (v : Plain) (vars : Pairs) → get key vars ≡ Some v → set key v vars ≡ vars
set_again key v no_pairs e = absurd (cc (e))
set_again key v (pair k w vars) e = by (bytes_eq key k) e (set_again key v vars)
  where
    by : (b : Bool) → (if b then Some w else get key vars) ≡ Some v → (get key vars ≡ Some v → set key v vars ≡ vars) → (if b then pair k v vars else pair k w (set key v vars)) ≡ pair k w vars
    by true e rest = let same : w ≡ v = cc (e) in ap (λ u. pair k u vars) (sym same)
    by false e rest = ap (pair k w) (rest e)

-- a page that tells its address tells it again
pub addressed_again : (path url : List ℕ) (given : Pairs) → addressed url (page_variables path url (placed path url given)) ≡ page_variables path url (placed path url given)
addressed_again path url given =
    let vars = page_variables path url (placed path url given) in
    let named = set (codes "name") (text (file_name path)) (placed path url given) in
    ap (set (codes "dir") (text (folder_of url))) (set_again (codes "url") (text url) vars (page_known path url given).its_url)
    ∙ set_again (codes "dir") (text (folder_of url)) vars (same_set (codes "dir") (text (folder_of url)) named)

pub none_above : (n : ℕ) → nat_lt (suc n) n ≡ false
none_above n = grind (arith)

module _ (config : Config) (word : ArchiveWord) where
  pub page_has : (a : Archive) → Has config (making.archive_page config word a)
  page_has a =
      let url = making.archive_url word a.slug in
      let given = making.with_layout config.archive_layout (making.about_archive word a) in
      let known = page_known a.path url given in
      let vars = page_variables a.path url (placed a.path url given) in
      let knows : KnowsItself (making.archive_page config word a) = record {
        path = ap (λ o. unwrap_or o nil) known.its_path;
        relative_path = ap (λ o. unwrap_or o nil) known.its_relative_path;
        url = ap (λ o. unwrap_or o nil) known.its_url;
        ext = ap (λ o. unwrap_or o nil) known.its_ext;
      } in
      let variables : HasVariables config (making.archive_page config word a) = record {
        kind = kind.Page;
        in_group = refl;
        address = url;
        own = λ none. absurd (cc (none));
        given = given;
        moment = None;
        previous = nil;
        next = nil;
        previous_is = inl refl;
        next_is = inl refl;
        are = ap hash (sym (addressed_again a.path url given)) ∙ ap (λ b. hash (addressed url (between b nil nil vars))) (sym (none_above (length config.collections)));
        paginator = inl refl;
        rooted = λ none. absurd (cc (none));
        post = λ first. absurd (cc (first));
      } in
      (knows, variables)

-- ---- the pages of a word

pub of_archives_is : (found : Result (List Archive) ArchiveError) (made : List Archive) → making.of_archives found ≡ Ok made → found ≡ Ok made
of_archives_is (Ok x) made e = ap Ok (found_value x made e)
of_archives_is (Err error) made e = absurd (cc (e))

module _ (config : Config) (word : ArchiveWord) where
  abbrev page : Archive → SiteItem
  page a = making.archive_page config word a

  path_below : (p q : List ℕ) → T (is_lt (path_cmp p q)) → p ≢ q
  path_below p q lt same = subst (λ o. T (is_lt o)) (ap (path_cmp p) (sym same) ∙ tied_itself nat_list_cmp_total p) lt

  above_others : (a : Archive) (made : List Archive) → T (below_all path_cmp a.path (map (λ b. (b.path, b)) made)) → AllByRecursion (Other (page a)) (map page made)
  above_others a [] h = tt
  above_others a (b ∷ made) h =
      let both = halves (is_lt (path_cmp a.path b.path)) _ h in
      (λ same. path_below a.path b.path both.0 (ap (λ (n : ItemName). n.path) same), above_others a made both.1)

  pub pages_apart : (made : List Archive) → T (is_sorted path_cmp (map (λ b. (b.path, b)) made)) → Apart (map page made)
  pages_apart [] h = tt
  pages_apart (a ∷ made) h =
      let both = halves (below_all path_cmp a.path (map (λ b. (b.path, b)) made)) _ h in
      (above_others a made both.0, pages_apart made both.1)

  pub told : (b : Bool) → b ≡ true → T b
  told true e = tt
  told false e = absurd (cc (e))
