-- The paths of pages: why one is refused, and what is found under one.
use Rattle.std.proofs.Common.{◌≡◌, ◌∙◌, refl, ap, sym, subst, ℕ, Bool, true, false, cond, ◌||◌, ◌==◌, List, [], ◌∷◌, ◌++◌, length, map, codes, Option, Some, None, arith, inl, inr}
use Rattle.std.specs.Prelude.{IsSome, Ok, Err, IsTrue, T, unwrap_or}
use Rattle.std.specs.FinMap.{find, is_sorted}
use Rattle.std.specs.List.{list_any, onto_first}
use Rattle.std.specs.Str.{bytes_eq}
use Rattle.std.proofs.lemmas.Bool.Decides.{nat_tests}
use Rattle.std.proofs.lemmas.List.Folds.{list_any-append}
use Rattle.std.proofs.lemmas.Slice.Eq.{bytes_eq-Decides}
use Rattle.std.proofs.lemmas.List.{append_cancel_left, append_cancel_right}
use Rattle.permalinks.specs.Slug.{nonempty, slug}
use Rattle.site_base.specs.Path.{has_control, has_dots, has_empty_segment, is_absolute, is_control, is_dots, path_refusal, segments}
use Rattle.site_base.specs.Places.{path_cmp, same_path}
use Rattle.site_base.specs.declared.path.PathError.TheVariants.{Empty, Absolute, DotSegment, EmptySegment, Control, Long}
use Rattle.tag_archives.specs.Archives.{IsFault, by_path, folder, is_long, page_path}
use Rattle.tag_archives.specs.Gathering.{IsNoPath, page_at, page_of}
use Rattle.tag_archives.specs.Listing.{is_in}
use Rattle.tag_archives.specs.Slugs.{is_of, slugs}
use Rattle.tag_archives.specs.declared.archive.ArchiveError.{ArchiveError}
use Rattle.tag_archives.specs.declared.archive.ArchiveError.TheVariants.{BadPath}
use Rattle.tag_archives.specs.declared.archive.ArchiveWord.{ArchiveWord}
use Rattle.tag_archives.specs.declared.archive.ArchiveWord.TheVariants.{Tag, Category}
use Rattle.tag_archives.proofs.EntryLaws.{found_inserted, same_path_ties, sorted_inserted, tied_paths}
use Rattle.tag_archives.proofs.SlugLaws.{has_odd, slug_clean}

record Clean (b : ℕ) : Type 0 where
  slash : (b == 47) ≡ false
  dot : (b == 46) ≡ false
  control : is_control b ≡ false

record Each (b : ℕ) (bs : List ℕ) : Type 0 where
  first : Clean b
  others : has_odd bs ≡ false

tests : (x y z w : Bool) → ((x || (y || z)) || w) ≡ false → ((x ≡ false) × (y ≡ false) × (z ≡ false) × (w ≡ false))
tests false false false false e = (refl, refl, refl, refl)
tests true y z w e = absurd (cc (e))
tests false true z w e = absurd (cc (e))
tests false false true w e = absurd (cc (e))
tests false false false true e = absurd (cc (e))

each : (b : ℕ) (bs : List ℕ) → has_odd (b ∷ bs) ≡ false → Each b bs
each b bs e = let t = tests (b == 47) (b == 46) (is_control b) (has_odd bs) e in record { first = record { slash = t.0; dot = t.1; control = t.2 }; others = t.3 }

-- a text without `/` before one
cut_at_slash : (s rest : List ℕ) → has_odd s ≡ false → segments (s ++ 47 ∷ rest) ≡ s ∷ segments rest
cut_at_slash [] rest e = refl
cut_at_slash (b ∷ bs) rest e =
    let t = each b bs e in
    let later = cut_at_slash bs rest t.others in
    rw (t.first.slash) (ap (onto_first b) later)

no_control : (s : List ℕ) → has_odd s ≡ false → has_control s ≡ false
no_control [] e = refl
no_control (b ∷ bs) e = let t = each b bs e in rw (t.first.control) (no_control bs t.others)

no_dots : (b : ℕ) (bs : List ℕ) → has_odd (b ∷ bs) ≡ false → is_dots (b ∷ bs) ≡ false
no_dots b bs e = let t = each b bs e in rw (t.first.dot) refl

-- ---- why the path of a page is refused

abbrev page_name : List ℕ
page_name = codes "index.html"

front_cut : (word : ArchiveWord) (s : List ℕ) → has_odd s ≡ false → (n : List ℕ) × (segments (page_path word s) ≡ n ∷ s ∷ page_name ∷ []) × (is_dots n ≡ false) × ((length n == 0) ≡ false)
front_cut Tag s e = (codes "tag", cut_at_slash (codes "tag") (s ++ codes "/index.html") refl ∙ ap (λ t. codes "tag" ∷ t) (cut_at_slash s page_name e), refl, refl)
front_cut Category s e = (codes "category", cut_at_slash (codes "category") (s ++ codes "/index.html") refl ∙ ap (λ t. codes "category" ∷ t) (cut_at_slash s page_name e), refl, refl)

full_front : (word : ArchiveWord) (s : List ℕ) → (length (page_path word s) == 0) ≡ false
full_front Tag s = grind (arith, nat_tests)
full_front Category s = grind (arith, nat_tests)

relative_front : (word : ArchiveWord) (s : List ℕ) → is_absolute (page_path word s) ≡ false
relative_front Tag s = refl
relative_front Category s = refl

controlled : (word : ArchiveWord) (s : List ℕ) → has_odd s ≡ false → has_control (page_path word s) ≡ false
controlled Tag s e = list_any-append is_control s (codes "/index.html") ∙ ap (λ b. b || has_control (codes "/index.html")) (no_control s e)
controlled Category s e = list_any-append is_control s (codes "/index.html") ∙ ap (λ b. b || has_control (codes "/index.html")) (no_control s e)

full_slug : (b : ℕ) (bs : List ℕ) → (length (b ∷ bs) == 0) ≡ false
full_slug b bs = grind (arith, nat_tests)

chain : (v w x y z l : Bool) → v ≡ false → w ≡ false → x ≡ false → y ≡ false → z ≡ false
    → cond v (Some Empty) (cond w (Some Absolute) (cond x (Some DotSegment) (cond y (Some EmptySegment) (cond z (Some Control) (cond l (Some Long) None))))) ≡ cond l (Some Long) None
chain v w x y z l e f g h i = rw (e, f, g, h, i) refl

-- only the length of a slug can be wrong
pub refusal_is : (word : ArchiveWord) (b : ℕ) (bs : List ℕ) → has_odd (b ∷ bs) ≡ false → path_refusal (page_path word (b ∷ bs)) ≡ cond (is_long word (b ∷ bs)) (Some Long) None
refusal_is word b bs e =
    let s = b ∷ bs in let text = page_path word s in
    let cut = front_cut word s e in
    let dots : has_dots text ≡ false = ap (list_any is_dots) cut.1 ∙ (rw (cut.2, no_dots b bs e) refl) in
    let empty : has_empty_segment text ≡ false = ap (list_any (λ t. length t == 0)) cut.1 ∙ (rw (cut.3, full_slug b bs) refl) in
    chain (length text == 0) (is_absolute text) (has_dots text) (has_empty_segment text) (has_control text) (is_long word s) (full_front word s) (relative_front word s) dots empty (controlled word s e)

of_slug : (word : ArchiveWord) (s : List ℕ) (error : ArchiveError) → has_odd s ≡ false → ¬ (length s ≡ 0) → IsNoPath (page_path word s) error → IsFault (cond (is_long word s) (Err BadPath) (Ok (page_at word s))) error
of_slug word [] error e full bad = absurd (full refl)
of_slug word (b ∷ bs) error e full (inl m) = inl m
of_slug word (b ∷ bs) error e full (inr bad) = inr (by (is_long word (b ∷ bs)) (subst IsSome (refusal_is word b bs e) bad.1))
  where
    by : (l : Bool) → IsSome (cond l (Some Long) None) → cond l (Err BadPath) (Ok (page_at word (b ∷ bs))) ≡ Err error
    by true some = ap (λ x. Err x) (sym bad.0)
    by false some = absurd (cc (some))

-- a slug whose page has no path
pub refused : (word : ArchiveWord) (name s text : List ℕ) (empty : Bool) (error : ArchiveError)
    → s ≡ slug name → (length s ≡ 0 → IsTrue empty) → empty ≡ false → text ≡ page_path word s → IsNoPath text error → IsFault (page_of word name) error
refused word name s text empty error is told full made bad =
    of_slug word (slug name) error (slug_clean name) (λ z. let t : false ≡ true = sym full ∙ told (ap length is ∙ z) in absurd (cc (t))) (subst (λ t. IsNoPath t error) (made ∙ ap (page_path word) is) bad)

-- ---- what is found under the path of a page

-- pages of different slugs have different paths
pub one_slug : (word : ArchiveWord) (s t : List ℕ) → page_path word s ≡ page_path word t → s ≡ t
one_slug word s t e = append_cancel_right s t (codes "/index.html") (append_cancel_left (folder word) (s ++ codes "/index.html") (t ++ codes "/index.html") e)

-- the slug whose page has this path
abbrev pub slug_at : ArchiveWord → List ℕ → List (List ℕ) → Option (List ℕ)
slug_at word q [] = None
slug_at word q (s ∷ ss) = cond (same_path q (page_path word s)) (Some s) (slug_at word q ss)

pub found_by_path : (word : ArchiveWord) (q : List ℕ) (ss : List (List ℕ)) → find path_cmp q (by_path word ss) ≡ slug_at word q ss
found_by_path word q [] = refl
found_by_path word q (s ∷ ss) = found_inserted q (page_path word s) s (by_path word ss) ∙ ap (cond (same_path q (page_path word s)) (Some s)) (found_by_path word q ss)

pub sorted_by_path : (word : ArchiveWord) (ss : List (List ℕ)) → T (is_sorted path_cmp (by_path word ss))
sorted_by_path word [] = tt
sorted_by_path word (s ∷ ss) = sorted_inserted (page_path word s) s (by_path word ss) (sorted_by_path word ss)

pub same_bytes : (s t : List ℕ) → bytes_eq s t ≡ true → s ≡ t
same_bytes s t e = (bytes_eq-Decides s t).0 e

pub itself : (s : List ℕ) → bytes_eq s s ≡ true
itself s = (bytes_eq-Decides s s).1 refl

pub either : (a b : Bool) → b ≡ true → (a || b) ≡ true
either true b e = refl
either false b e = e

-- what is found has the path, and is one of the slugs
pub path_found : (word : ArchiveWord) (q u : List ℕ) (ss : List (List ℕ)) → slug_at word q ss ≡ Some u → (q ≡ page_path word u) × (is_in u ss ≡ true)
path_found word q u [] e = absurd (cc (e))
path_found word q u (s ∷ ss) e = by (same_path q (page_path word s)) refl e (path_found word q u ss)
  where
    by : (b : Bool) → same_path q (page_path word s) ≡ b → cond b (Some s) (slug_at word q ss) ≡ Some u → (slug_at word q ss ≡ Some u → (q ≡ page_path word u) × (is_in u ss ≡ true)) → (q ≡ page_path word u) × (is_in u (s ∷ ss) ≡ true)
    by true t f later =
        let same : s ≡ u = ap (λ o. unwrap_or o s) f in
        let here : bytes_eq s u ≡ true = ap (bytes_eq s) (sym same) ∙ itself s in
        (tied_paths q (page_path word s) t ∙ ap (page_path word) same, rw here refl)
    by false t f later = let l = later f in (l.0, either (bytes_eq s u) (is_in u ss) l.1)

pub same_page : (word : ArchiveWord) (s t : List ℕ) → same_path (page_path word s) (page_path word t) ≡ bytes_eq t s
same_page word s t = by (bytes_eq t s) refl (same_path (page_path word s) (page_path word t)) refl
  where
    by : (a : Bool) → bytes_eq t s ≡ a → (b : Bool) → same_path (page_path word s) (page_path word t) ≡ b → b ≡ a
    by true e true f = refl
    by true e false f = sym f ∙ (rw (same_bytes t s e, same_path_ties (page_path word s)) refl)
    by false e true f = sym (itself s) ∙ ap (λ u. bytes_eq u s) (one_slug word s t (tied_paths (page_path word s) (page_path word t) f)) ∙ e
    by false e false f = refl

pub slug_found : (word : ArchiveWord) (s : List ℕ) (ss : List (List ℕ)) → slug_at word (page_path word s) ss ≡ cond (is_in s ss) (Some s) None
slug_found word s [] = refl
slug_found word s (t ∷ ss) = ap (λ b. cond b (Some t) (slug_at word (page_path word s) ss)) (same_page word s t) ∙ by (bytes_eq t s) refl (slug_found word s ss)
  where
    by : (b : Bool) → bytes_eq t s ≡ b → slug_at word (page_path word s) ss ≡ cond (is_in s ss) (Some s) None → cond b (Some t) (slug_at word (page_path word s) ss) ≡ cond (b || is_in s ss) (Some s) None
    by true e later = ap (λ u. Some u) (same_bytes t s e)
    by false e later = later

-- ---- slugs of names

pub in_slugs : (b : ℕ) (bs : List ℕ) (names : List (List ℕ)) → is_in (b ∷ bs) (slugs names) ≡ list_any (is_of (b ∷ bs)) names
in_slugs b bs [] = refl
in_slugs b bs (name ∷ names) = by (slug name) (in_slugs b bs names)
  where
    by : (u : List ℕ) → is_in (b ∷ bs) (slugs names) ≡ list_any (is_of (b ∷ bs)) names → is_in (b ∷ bs) (nonempty (u ∷ map slug names)) ≡ (bytes_eq u (b ∷ bs) || list_any (is_of (b ∷ bs)) names)
    by [] later = later
    by (c ∷ cs) later = ap (λ v. bytes_eq (c ∷ cs) (b ∷ bs) || v) later

-- none of them is empty
pub empty_in : (words : List (List ℕ)) → is_in [] (nonempty words) ≡ false
empty_in [] = refl
empty_in ([] ∷ words) = empty_in words
empty_in ((c ∷ cs) ∷ words) = empty_in words
