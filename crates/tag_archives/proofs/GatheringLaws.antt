-- How groups are gathered, term by term and post by post, and the archives that they make.
use Rattle.std.proofs.Common.{◌≡◌, ◌∙◌, refl, ap, sym, subst, ℕ, zero, suc, ◌+◌, ◌<◌, Bool, true, false, cond, ◌||◌, List, [], ◌∷◌, ◌++◌, length, drop, drop-cons, get_or, map, add-one, inl, inr}
use Rattle.std.specs.Prelude.{Result, Ok, Err, MatchResult}
use Rattle.std.specs.BTreeMap.{insert_entry}
use Rattle.std.specs.List.{AllByRecursion, list_any}
use Rattle.std.specs.Map.{values_of}
use Rattle.std.specs.Ordering.{match_ordering}
use Rattle.std.specs.declared.cmp.Ordering.{Ordering}
use Rattle.std.specs.declared.cmp.Ordering.TheVariants.{Less, Equal, Greater}
use Rattle.std.proofs.lemmas.List.Folds.{list_any-append}
use Rattle.permalinks.specs.Slug.{nonempty, slug}
use Rattle.site_base.specs.Places.{path_cmp}
use Rattle.site_base.specs.Plain.{Items}
use Rattle.site_base.specs.Values.{value_text}
use Rattle.site_base.specs.View.{items_of, plain}
use Rattle.site_base.specs.declared.value.Value.{Value}
use Rattle.tag_archives.specs.Archives.{all_archives, archive_of, archives, bounded, by_path, IsFault, is_long, page_path, post_item}
use Rattle.tag_archives.specs.Gathering.{IsLongFault, archive_at, group_of, groups_of, has_long, with_name, with_terms}
use Rattle.tag_archives.specs.Slugs.{all_names, names, slugs}
use Rattle.tag_archives.specs.declared.archive.Archive.{Archive}
use Rattle.tag_archives.specs.declared.archive.ArchiveError.{ArchiveError}
use Rattle.tag_archives.specs.declared.archive.ArchiveError.TheVariants.{BadPath}
use Rattle.tag_archives.specs.declared.archive.ArchivePost.{ArchivePost}
use Rattle.tag_archives.specs.declared.archive.ArchiveWord.{ArchiveWord}
use Rattle.tag_archives.specs.declared.archive.ArchiveWord.TheVariants.{Tag, Category}
use Rattle.tag_archives.specs.declared.group.Group.{Group}
use Rattle.tag_archives.proofs.EntryLaws.{same_paths}
use Rattle.tag_archives.proofs.GroupLaws.{long_name, name_added}
use Rattle.tag_archives.proofs.PathLaws.{either}

-- what stands before a place, and what from it on
pub one_before : {A : Type 0} (xs : List A) (p n : ℕ) (x : A) → p + 1 ≡ n → p < length xs → x ≡ get_or xs p x → drop p xs ≡ x ∷ drop n xs
one_before xs p n x next lt is = drop-cons xs p x lt ∙ ap (λ y. y ∷ drop (suc p) xs) (sym is) ∙ ap (λ m. x ∷ drop m xs) (sym (add-one p) ∙ next)

-- ---- a term more

pub term_added : (word : ArchiveWord) (post : ArchivePost) (more : List Value) (x : Value) (terms : List Value) (newer : List ArchivePost) (number : ℕ) (old new : List (List ℕ × Group))
    → more ≡ x ∷ terms → number ≡ suc (length newer) → has_long word (with_terms post terms ∷ newer) ≡ false → old ≡ groups_of word (with_terms post terms ∷ newer)
    → is_long word (slug (value_text (plain x))) ≡ false → new ≡ with_name word (value_text (plain x)) (post_item post) number old
    → (has_long word (with_terms post more ∷ newer) ≡ false) × (new ≡ groups_of word (with_terms post more ∷ newer))
term_added word post more x terms newer number old new front since short was fits is =
    let name = value_text (plain x) in (
      ap (λ ts. has_long word (with_terms post ts ∷ newer)) front ∙ long_name post.name (plain x) (items_of terms) newer word ∙ (rw (fits) short),
      is ∙ ap (λ m. with_name word name (post_item post) m old) since ∙ ap (with_name word name (post_item post) (suc (length newer))) was
          ∙ name_added post.name (plain x) (items_of terms) newer word ∙ ap (λ ts. groups_of word (with_terms post ts ∷ newer)) (sym front),
    )

first : (a b : Bool) → a ≡ true → (a || b) ≡ true
first true b e = refl
first false b e = absurd (cc (e))

long_terms : (word : ArchiveWord) (post : ArchivePost) (newer : List ArchivePost) (terms : List Value) (p : ℕ) → has_long word (with_terms post (drop p terms) ∷ newer) ≡ true → has_long word (with_terms post terms ∷ newer) ≡ true
long_terms word post newer terms zero e = e
long_terms word post newer [] (suc p) e = e
long_terms word post newer (x ∷ terms) (suc p) e =
    long_name post.name (plain x) (items_of terms) newer word ∙ either (is_long word (slug (value_text (plain x)))) (has_long word (with_terms post terms ∷ newer)) (long_terms word post newer terms p e)

pub term_long : (word : ArchiveWord) (post : ArchivePost) (all : List Value) (p : ℕ) (x : Value) (terms : List Value) (newer : List ArchivePost) (error : ArchiveError)
    → drop p all ≡ x ∷ terms → items_of all ≡ post.terms → IsLongFault (is_long word (slug (value_text (plain x)))) error → IsLongFault (has_long word (post ∷ newer)) error
term_long word post all p x terms newer error front whole (inl m) = inl m
term_long word post all p x terms newer error front whole (inr e) =
    let here : has_long word (with_terms post (drop p all) ∷ newer) ≡ true =
    ap (λ ts. has_long word (with_terms post ts ∷ newer)) front ∙ long_name post.name (plain x) (items_of terms) newer word ∙ first (is_long word (slug (value_text (plain x)))) (has_long word (with_terms post terms ∷ newer)) e.1 in
    inr (e.0, ap (λ (is : Items). has_long word (record { name = post.name; terms = is } ∷ newer)) (sym whole) ∙ long_terms word post newer all p here)

-- ---- a post more

is_long_name : ArchiveWord → List ℕ → Bool
is_long_name word name = is_long word (slug name)

long_names : (word : ArchiveWord) (ns : List (List ℕ)) → list_any (is_long word) (slugs ns) ≡ list_any (is_long_name word) ns
unfolding is_long_name
long_names word [] = refl
long_names word (n ∷ ns) = by (slug n) (long_names word ns)
  where
    short : (w : ArchiveWord) → is_long w [] ≡ false
    short Tag = refl
    short Category = refl

    by : (s : List ℕ) → list_any (is_long word) (slugs ns) ≡ list_any (is_long_name word) ns → list_any (is_long word) (nonempty (s ∷ map slug ns)) ≡ (is_long word s || list_any (is_long_name word) ns)
    by [] later = later ∙ ap (λ b. b || list_any (is_long_name word) ns) (sym (short word))
    by (b ∷ bs) later = ap (λ c. is_long word (b ∷ bs) || c) later

long_posts : (word : ArchiveWord) (posts : List ArchivePost) (p : ℕ) → has_long word (drop p posts) ≡ true → has_long word posts ≡ true
long_posts word posts zero e = e
long_posts word [] (suc p) e = e
long_posts word (post ∷ posts) (suc p) e =
    long_names word (names post ++ all_names posts) ∙ list_any-append (is_long_name word) (names post) (all_names posts)
    ∙ either (list_any (is_long_name word) (names post)) (list_any (is_long_name word) (all_names posts)) (sym (long_names word (all_names posts)) ∙ long_posts word posts p e)

pub post_long : (word : ArchiveWord) (posts : List ArchivePost) (p : ℕ) (ahead : List ArchivePost) (error : ArchiveError)
    → drop p posts ≡ ahead → IsLongFault (has_long word ahead) error → IsLongFault (has_long word posts) error
post_long word posts p ahead error front (inl m) = inl m
post_long word posts p ahead error front (inr e) = inr (e.0, long_posts word posts p (ap (has_long word) front ∙ e.1))

-- ---- the archives of groups

abbrev pub AreShaped : ArchiveWord → List (List ℕ × List ℕ) → Type 0
AreShaped word es = AllByRecursion (λ e. e.0 ≡ page_path word e.1) es

shaped_inserted : (word : ArchiveWord) (s : List ℕ) (es : List (List ℕ × List ℕ)) → AreShaped word es → AreShaped word (insert_entry path_cmp es (page_path word s) s)
shaped_inserted word s [] h = (refl, tt)
shaped_inserted word s (e ∷ es) h = by (path_cmp (page_path word s) e.0) refl (shaped_inserted word s es h.1)
  where
    by : (r : Ordering) → path_cmp (page_path word s) e.0 ≡ r → AreShaped word (insert_entry path_cmp es (page_path word s) s)
        → AreShaped word (match_ordering r ((page_path word s, s) ∷ e ∷ es) ((e.0, s) ∷ es) (e ∷ insert_entry path_cmp es (page_path word s) s))
    by Less p later = (refl, h)
    by Equal p later = (sym (same_paths (page_path word s) e.0 p), h.1)
    by Greater p later = (h.0, later)

pub shaped : (word : ArchiveWord) (ss : List (List ℕ)) → AreShaped word (by_path word ss)
shaped word [] = tt
shaped word (s ∷ ss) = shaped_inserted word s (by_path word ss) (shaped word ss)

archives_by : (word : ArchiveWord) (posts : List ArchivePost) (es : List (List ℕ × List ℕ)) → AreShaped word es → map archive_at (map (λ e. (e.0, group_of posts e.1)) es) ≡ map (archive_of word posts) (values_of es)
archives_by word posts [] h = refl
archives_by word posts (e ∷ es) h = λ i. archive_at (h.0 i, group_of posts e.1) ∷ archives_by word posts es h.1 i

pub archives_made : (word : ArchiveWord) (posts : List ArchivePost) (groups : List (List ℕ × Group)) → has_long word posts ≡ false → groups ≡ groups_of word posts → bounded (map archive_at groups) ≡ archives word posts
archives_made word posts groups short is =
    ap (λ gs. bounded (map archive_at gs)) is ∙ ap bounded (archives_by word posts (by_path word (slugs (all_names posts))) (shaped word (slugs (all_names posts))))
    ∙ ap (λ b. cond b (Err BadPath) (bounded (all_archives word posts))) (sym short)

pub made_within : (word : ArchiveWord) (posts : List ArchivePost) (result made : Result (List Archive) ArchiveError) → made ≡ archives word posts
    → MatchResult result (λ list. made ≡ Ok list) (IsFault made) → MatchResult result (λ list. archives word posts ≡ Ok list) (IsFault (archives word posts))
made_within word posts result made is h = subst (λ m. MatchResult result (λ list. m ≡ Ok list) (IsFault m)) is h
