-- What holds of the archives of posts.
use Rattle.std.proofs.Common.{◌≡◌, ◌∙◌, refl, ap, sym, subst, ℕ, ◌≤◌, Bool, true, false, cond, not, ◌&&◌, ◌||◌, List, [], ◌∷◌, ◌++◌, length, map, reverse, nat_lt, Some, None, arith}
use Rattle.std.specs.Prelude.{IfOk, MatchResult, Result, Ok, Err, T, is_some}
use Rattle.std.specs.FinMap.{find, is_sorted}
use Rattle.std.specs.BTreeMap.{insert_entry}
use Rattle.std.specs.List.{AllByRecursion, filter, list_any}
use Rattle.std.specs.Map.{values_of}
use Rattle.std.specs.Ordering.{match_ordering}
use Rattle.std.specs.Str.{bytes_eq}
use Rattle.std.specs.declared.cmp.Ordering.{Ordering}
use Rattle.std.specs.declared.cmp.Ordering.TheVariants.{Less, Equal, Greater}
use Rattle.std.proofs.lemmas.Bool.Decides.{nat_tests}
use Rattle.std.proofs.lemmas.List.{map-append, reverse-append}
use Rattle.std.proofs.lemmas.List.Folds.{list_any-append}
use Rattle.permalinks.specs.Slug.{slug}
use Rattle.site_base.specs.Places.{path_cmp, same_path}
use Rattle.site_base.specs.Plain.{Plain, Items, no_items, item, item_list, onto}
use Rattle.tag_archives.specs.Archives.{IsFault, all_archives, archive_of, archives, by_path, first_name, is_long, newest_first, page_path, post_item}
use Rattle.tag_archives.specs.Listing.{AreArchives, IsArchive, is_empty, is_in}
use Rattle.tag_archives.specs.Slugs.{all_names, has_slug, is_of, slugs}
use Rattle.tag_archives.specs.declared.archive.Archive.{Archive}
use Rattle.tag_archives.specs.declared.archive.ArchiveError.{ArchiveError}
use Rattle.tag_archives.specs.declared.archive.ArchiveError.TheVariants.{BadPath, TooMany}
use Rattle.tag_archives.specs.declared.archive.ArchivePost.{ArchivePost}
use Rattle.tag_archives.specs.declared.archive.ArchiveWord.{ArchiveWord}
use Rattle.tag_archives.proofs.EntryLaws.{is_sorted_mapped, mapped, same_paths}
use Rattle.tag_archives.proofs.GatheringLaws.{AreShaped, shaped}
use Rattle.tag_archives.proofs.PathLaws.{either, empty_in, in_slugs, itself, found_by_path, one_slug, same_bytes, same_page, slug_found, sorted_by_path}

-- ---- the posts of a slug

items_onto : (xs ys : Items) → item_list (onto xs ys) ≡ item_list xs ++ item_list ys
items_onto no_items ys = refl
items_onto (item v xs) ys = ap (λ l. v ∷ l) (items_onto xs ys)

newest_is : (s : List ℕ) (posts : List ArchivePost) → item_list (newest_first s posts) ≡ map post_item (reverse (filter (has_slug s) posts))
newest_is s [] = refl
newest_is s (post ∷ posts) = by (has_slug s post) (newest_is s posts)
  where
    by : (b : Bool) → item_list (newest_first s posts) ≡ map post_item (reverse (filter (has_slug s) posts))
        → item_list (cond b (onto (newest_first s posts) (item (post_item post) no_items)) (newest_first s posts)) ≡ map post_item (reverse (cond b (post ∷ filter (has_slug s) posts) (filter (has_slug s) posts)))
    by true h = items_onto (newest_first s posts) (item (post_item post) no_items) ∙ ap (λ l. l ++ post_item post ∷ []) h ∙ sym (map-append post_item (reverse (filter (has_slug s) posts)) (post ∷ []))
        ∙ ap (map post_item) (sym (reverse-append (post ∷ []) (filter (has_slug s) posts)))
    by false h = h

or_false : (b : Bool) → (b || false) ≡ b
or_false true = refl
or_false false = refl

turned : (a b : Bool) → (a || b) ≡ (b || a)
turned true true = refl
turned true false = refl
turned false b = sym (or_false b)

listed_is : (s : List ℕ) (posts : List ArchivePost) (test : Plain → Bool) → list_any test (item_list (newest_first s posts)) ≡ list_any (λ post. has_slug s post && test (post_item post)) posts
listed_is s [] test = refl
listed_is s (post ∷ posts) test = by (has_slug s post) (listed_is s posts test)
  where
    by : (b : Bool) → list_any test (item_list (newest_first s posts)) ≡ list_any (λ post. has_slug s post && test (post_item post)) posts
        → list_any test (item_list (cond b (onto (newest_first s posts) (item (post_item post) no_items)) (newest_first s posts))) ≡ ((b && test (post_item post)) || list_any (λ post. has_slug s post && test (post_item post)) posts)
    by true h =
        ap (list_any test) (items_onto (newest_first s posts) (item (post_item post) no_items)) ∙ list_any-append test (item_list (newest_first s posts)) (post_item post ∷ [])
        ∙ ap (λ c. list_any test (item_list (newest_first s posts)) || c) (or_false (test (post_item post)))
        ∙ turned (list_any test (item_list (newest_first s posts))) (test (post_item post)) ∙ ap (λ c. test (post_item post) || c) h
    by false h = h

-- ---- slugs that some post has

named : (s : List ℕ) (names : List (List ℕ)) → list_any (is_of s) names ≡ true → slug (first_name s names) ≡ s
named s [] e = absurd (cc (e))
named s (n ∷ names) e = by (is_of s n) refl e (named s names)
  where
    by : (b : Bool) → is_of s n ≡ b → (b || list_any (is_of s) names) ≡ true → (list_any (is_of s) names ≡ true → slug (first_name s names) ≡ s) → slug (cond b n (first_name s names)) ≡ s
    by true f e later = same_bytes (slug n) s f
    by false f e later = later e

some_name : (s : List ℕ) (posts : List ArchivePost) → list_any (is_of s) (all_names posts) ≡ list_any (has_slug s) posts
some_name s [] = refl
some_name s (post ∷ posts) = list_any-append (is_of s) _ (all_names posts) ∙ ap (λ b. has_slug s post || b) (some_name s posts)

in_names : (s : List ℕ) (names : List (List ℕ)) → is_in s (slugs names) ≡ (not (is_empty s) && list_any (is_of s) names)
in_names [] names = empty_in (map slug names)
in_names (b ∷ bs) names = in_slugs b bs names

right : (a b : Bool) → (a && b) ≡ true → b ≡ true
right true b e = e
right false b e = absurd (cc (e))

-- what each of these slugs has, each of those in order has
kept_by_path : (P : List ℕ → Type 0) (word : ArchiveWord) (s : List ℕ) (es : List (List ℕ × List ℕ)) → P s → AllByRecursion (λ e. P e.1) es → AllByRecursion (λ e. P e.1) (insert_entry path_cmp es (page_path word s) s)
kept_by_path P word s [] p h = (p, tt)
kept_by_path P word s (e ∷ es) p h = by (path_cmp (page_path word s) e.0) (kept_by_path P word s es p h.1)
  where
    by : (r : Ordering) → AllByRecursion (λ e. P e.1) (insert_entry path_cmp es (page_path word s) s)
        → AllByRecursion (λ e. P e.1) (match_ordering r ((page_path word s, s) ∷ e ∷ es) ((e.0, s) ∷ es) (e ∷ insert_entry path_cmp es (page_path word s) s))
    by Less later = (p, h)
    by Equal later = (p, h.1)
    by Greater later = (h.0, later)

all_by_path : (P : List ℕ → Type 0) (word : ArchiveWord) (ss : List (List ℕ)) → ((s : List ℕ) → is_in s ss ≡ true → P s) → AllByRecursion (λ e. P e.1) (by_path word ss)
all_by_path P word [] h = tt
all_by_path P word (s ∷ ss) h = kept_by_path P word s (by_path word ss) (h s (rw (itself s) refl)) (all_by_path P word ss (λ t e. h t (either (bytes_eq s t) (is_in t ss) e)))

halves : (a b : Bool) → (a || b) ≡ false → (a ≡ false) × (b ≡ false)
halves true b e = absurd (cc (e))
halves false b e = (refl, e)

short_in : (word : ArchiveWord) (s : List ℕ) (ss : List (List ℕ)) → list_any (is_long word) ss ≡ false → is_in s ss ≡ true → is_long word s ≡ false
short_in word s [] e i = absurd (cc (i))
short_in word s (t ∷ ss) e i = by (bytes_eq t s) refl i (halves (is_long word t) (list_any (is_long word) ss) e) (short_in word s ss)
  where
    by : (b : Bool) → bytes_eq t s ≡ b → (b || is_in s ss) ≡ true → (is_long word t ≡ false) × (list_any (is_long word) ss ≡ false) → (list_any (is_long word) ss ≡ false → is_in s ss ≡ true → is_long word s ≡ false) → is_long word s ≡ false
    by true f i h later = ap (is_long word) (sym (same_bytes t s f)) ∙ h.0
    by false f i h later = later h.1 i

-- ---- the laws

told : (b : Bool) → T b → b ≡ true
told true h = refl
told false h = absurd h

module _ (word : ArchiveWord) (posts : List ArchivePost) where
  abbrev some_slugs : List (List ℕ)
  some_slugs = slugs (all_names posts)

  archive_is : (s : List ℕ) → list_any (is_long word) some_slugs ≡ false → is_in s some_slugs ≡ true → IsArchive word posts (archive_of word posts s)
  archive_is s short i = record {
    path_is = refl;
    short = short_in word s some_slugs short i;
    titled = named s (all_names posts) (right (not (is_empty s)) (list_any (is_of s) (all_names posts)) (sym (in_names s (all_names posts)) ∙ i));
    newest = newest_is s posts;
    listed = listed_is s posts;
  }

  each_of : (es : List (List ℕ × List ℕ)) → AllByRecursion (λ e. IsArchive word posts (archive_of word posts e.1)) es → AllByRecursion (IsArchive word posts) (map (archive_of word posts) (values_of es))
  each_of [] h = tt
  each_of (e ∷ es) h = (h.0, each_of es h.1)

  paired : (es : List (List ℕ × List ℕ)) → AreShaped word es → map (λ a. (a.path, a)) (map (archive_of word posts) (values_of es)) ≡ mapped (archive_of word posts) es
  paired [] h = refl
  paired (e ∷ es) h = λ i. (sym h.0 i, archive_of word posts e.1) ∷ paired es h.1 i

  by_value : (s : List ℕ) (es : List (List ℕ × List ℕ)) → AreShaped word es → is_in s (map (λ a. a.slug) (map (archive_of word posts) (values_of es))) ≡ is_some (find path_cmp (page_path word s) es)
  by_value s [] h = refl
  by_value s (e ∷ es) h = by (bytes_eq e.1 s) (by_value s es h.1) ∙ ap (λ b. is_some (cond b (Some e.1) (find path_cmp (page_path word s) es))) (sym (same_page word s e.1) ∙ ap (same_path (page_path word s)) (sym h.0))
    where
      by : (b : Bool) → is_in s (map (λ a. a.slug) (map (archive_of word posts) (values_of es))) ≡ is_some (find path_cmp (page_path word s) es)
          → (b || is_in s (map (λ a. a.slug) (map (archive_of word posts) (values_of es)))) ≡ is_some (cond b (Some e.1) (find path_cmp (page_path word s) es))
      by true later = refl
      by false later = later

  found_some : (s : List ℕ) (b : Bool) → is_some (cond b (Some s) None) ≡ b
  found_some s true = refl
  found_some s false = refl

  are_archives : list_any (is_long word) some_slugs ≡ false → length (all_archives word posts) ≤ 100000 → AreArchives word posts (all_archives word posts)
  are_archives short le =
      let es = by_path word some_slugs in
      let shapes = shaped word some_slugs in
      record {
        rise = ap (is_sorted path_cmp) (paired es shapes) ∙ is_sorted_mapped (archive_of word posts) es ∙ told (is_sorted path_cmp es) (sorted_by_path word some_slugs);
        each = each_of es (all_by_path (λ s. IsArchive word posts (archive_of word posts s)) word some_slugs (λ s i. archive_is s short i));
        there = λ s.
            by_value s es shapes ∙ ap is_some (found_by_path word (page_path word s) some_slugs ∙ slug_found word s some_slugs) ∙ found_some s (is_in s some_slugs)
            ∙ in_names s (all_names posts) ∙ ap (λ b. not (is_empty s) && b) (some_name s posts);
        few = le;
      }

  -- archives have all of this
  pub laws : (made : List Archive) → archives word posts ≡ Ok made → AreArchives word posts made
  laws made is = by (list_any (is_long word) some_slugs) refl (nat_lt 100000 (length (all_archives word posts))) refl is
    where
      by : (b : Bool) → list_any (is_long word) some_slugs ≡ b → (c : Bool) → nat_lt 100000 (length (all_archives word posts)) ≡ c
          → cond b (Err BadPath) (cond c (Err TooMany) (Ok (all_archives word posts))) ≡ Ok made → AreArchives word posts made
      by true e c f is = absurd (cc (is))
      by false e true f is = absurd (cc (is))
      by false e false f is =
          let same : all_archives word posts ≡ made = cc (is) in
          subst (AreArchives word posts) same (are_archives e (grind (arith, nat_tests, f)))

-- ---- paths that are too long

module _ (p : List ℕ → Bool) (word : ArchiveWord) where
  twice : (a b : Bool) → (a || b) ≡ (a || (a || b))
  twice true b = refl
  twice false b = refl

  swapped : (a b c : Bool) → (a || (b || c)) ≡ (b || (a || c))
  swapped true true c = refl
  swapped true false c = refl
  swapped false b c = refl

  some_inserted : (s : List ℕ) (es : List (List ℕ × List ℕ)) → AreShaped word es → list_any p (values_of (insert_entry path_cmp es (page_path word s) s)) ≡ (p s || list_any p (values_of es))
  some_inserted s [] h = refl
  some_inserted s (e ∷ es) h = by (path_cmp (page_path word s) e.0) refl (some_inserted s es h.1)
    where
      by : (r : Ordering) → path_cmp (page_path word s) e.0 ≡ r → list_any p (values_of (insert_entry path_cmp es (page_path word s) s)) ≡ (p s || list_any p (values_of es))
          → list_any p (values_of (match_ordering r ((page_path word s, s) ∷ e ∷ es) ((e.0, s) ∷ es) (e ∷ insert_entry path_cmp es (page_path word s) s))) ≡ (p s || (p e.1 || list_any p (values_of es)))
      by Less t later = refl
      by Equal t later =
          let same : s ≡ e.1 = one_slug word s e.1 (same_paths (page_path word s) e.0 t ∙ h.0) in
          twice (p s) (list_any p (values_of es)) ∙ ap (λ u. p s || (p u || list_any p (values_of es))) same
      by Greater t later = ap (λ b. p e.1 || b) later ∙ swapped (p e.1) (p s) (list_any p (values_of es))

  some_by_path : (ss : List (List ℕ)) → list_any p (values_of (by_path word ss)) ≡ list_any p ss
  some_by_path [] = refl
  some_by_path (s ∷ ss) = some_inserted s (by_path word ss) (shaped word ss) ∙ ap (λ b. p s || b) (some_by_path ss)

module _ (word : ArchiveWord) (posts : List ArchivePost) where
  some_archive : (ss : List (List ℕ)) → list_any (λ a. nat_lt 1024 (length a.path)) (map (archive_of word posts) ss) ≡ list_any (is_long word) ss
  some_archive [] = refl
  some_archive (s ∷ ss) = ap (λ b. is_long word s || b) (some_archive ss)

  -- a slug is too long exactly where the path of an archive is
  pub long_is : list_any (is_long word) (slugs (all_names posts)) ≡ list_any (λ a. nat_lt 1024 (length a.path)) (all_archives word posts)
  long_is = sym (some_archive (values_of (by_path word (slugs (all_names posts)))) ∙ some_by_path (is_long word) word (slugs (all_names posts)))

  -- what is answered has it, where it is answered by the definition
  pub are_listed : (result : Result (List Archive) ArchiveError) → MatchResult result (λ made. archives word posts ≡ Ok made) (IsFault (archives word posts)) → IfOk result (AreArchives word posts)
  are_listed (Ok made) is = laws word posts made is
  are_listed (Err error) is = tt
