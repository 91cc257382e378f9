-- A table to which the pages of an output are offered, one after another.
use Rattle.std.proofs.Common.{◌≡◌, ◌∙◌, ◌+◌, ◌<◌, ◌++◌, ◌⊎◌, Err, Ok, OnErr, Result, ℕ, zero, suc, Bool, true, false, cond, not, List, [], ◌∷◌, None, Option, Some, ap, append-nil, arith, get_or, inl, inr, length, map, refl, subst, sym, take, drop}
use Rattle.std.specs.Prelude.{◌&&◌, T, filter, flat_map}
use Rattle.std.specs.Option.{option_map, option_or}
use Rattle.std.specs.Ordering.{is_eq, is_lt}
use Rattle.std.specs.Str.{bytes_eq}
use Rattle.std.specs.FinMap.{empty, entries, entries-from_sorted, entries_sorted, find, from_sorted, get, get-empty, get-entries, get-from_sorted, get-insert, is_sorted, same_map}
use Rattle.std.specs.FinMap.Entries.{below_all, find-append}
use Rattle.std.proofs.lemmas.Grind.{flat_map-append}
use Rattle.std.proofs.lemmas.List.{get_or_default, length-append, take-append-drop}
use Rattle.std.proofs.lemmas.List.Elements.{filter-append}
use Rattle.std.proofs.Math.Seq.{take-suc}
use Rattle.link_check.specs.Answered.{broken_links}
use Rattle.link_check.specs.Links.{links}
use Rattle.link_check.specs.Table.{Kept, Table, begun, broken_in, finished, has_bytes, with_offer}
use Rattle.link_check.specs.declared.answering.Broken.{Broken}
use Rattle.out_tree.specs.Belief.{Belief}
use Rattle.out_tree.specs.declared.state.State.{State}
use Rattle.out_tree.specs.declared.state.State.TheVariants.{Known, Marked}
use Rattle.out_tree.proofs.Paths.{itself, less_if_lt, path_order, same_if_tied, the_same, turned}
use Rattle.out_tree.proofs.ValuesLemmas.{entries-map_values, get-map_values}
use Rattle.site_base.specs.Places.{path_cmp, same_path}
use Rattle.site_base.proofs.Entries.{text_same}
use Rattle.site_session.specs.Looking.{bytes_of, finds_new, offered}
use Rattle.site_session.specs.Pages.{LooksAtSome, Page, broken, has_seen, is_page, is_there, known_pages, page_at, page_by, pages, unseen}

both : (a b : Bool) → a ≡ true → b ≡ true → (a && b) ≡ true
both a b p q = (λ i. p i && q i)

front : (a b : Bool) → (a && b) ≡ true → a ≡ true
front true b p = refl
front false b p = p

back : (a b : Bool) → (a && b) ≡ true → b ≡ true
back true b p = p
back false b p = absurd (cc (p))

told : (b : Bool) → T b → b ≡ true
told true h = refl
told false h = absurd h

tell : (b : Bool) → b ≡ true → T b
tell b e = subst T (sym e) tt

not_found : {A : Type 0} (b : Bool) (x : A) (o : Option A) → cond b (Some x) o ≡ None → (b ≡ false) × (o ≡ None)
not_found true x o e = absurd (cc (e))
not_found false x o e = (refl, e)

-- ---- what stands before an entry has another path

other_path : (x y : List ℕ) → is_lt (path_cmp x y) ≡ true → same_path y x ≡ false
other_path x y e = turned y x ∙ ap is_eq (less_if_lt (path_cmp x y) e)

module _ {V : Type 0} where
  below_get : (x : List ℕ) (es : List (List ℕ × V)) (n : ℕ) (d : List ℕ × V) → below_all path_cmp x es ≡ true → n < length es → is_lt (path_cmp x (get_or es n d).0) ≡ true
  below_get x [] n d h lt = absurd (omega (arith, lt))
  below_get x (e ∷ es) zero d h lt = front _ _ h
  below_get x (e ∷ es) (suc n) d h lt = below_get x es n d (back _ _ h) (omega (arith, lt))

  pub none_before : (n : ℕ) (es : List (List ℕ × V)) (d : List ℕ × V) → is_sorted path_cmp es ≡ true → n < length es → find path_cmp (get_or es n d).0 (take n es) ≡ None
  none_before zero es d s lt = refl
  none_before (suc n) [] d s lt = absurd (omega (arith, lt))
  none_before (suc n) (e ∷ es) d s lt =
      let k = (get_or es n d).0 in
      ap (λ (b : Bool). cond b (Some e.1) (find path_cmp k (take n es))) (other_path e.0 k (below_get e.0 es n d (front _ _ s) (omega (arith, lt))))
      ∙ none_before n es d (back _ _ s) (omega (arith, lt))

  none_below : (x q : List ℕ) (es : List (List ℕ × V)) → x ≡ q → below_all path_cmp x es ≡ true → find path_cmp q es ≡ None
  none_below x q [] is h = refl
  none_below x q (e ∷ es) is h =
      ap (λ (b : Bool). cond b (Some e.1) (find path_cmp q es)) (turned q e.0 ∙ other_path q e.0 (subst (λ (y : List ℕ). is_lt (path_cmp y e.0) ≡ true) is (front _ _ h)))
      ∙ none_below x q es is (back _ _ h)

-- ---- the pages of entries

abbrev pub pages_in : List (List ℕ × State) → List Page
pages_in es = flat_map page_at es

no_page_in : (q path : List ℕ) (state : State) (rest : List Page) → same_path q path ≡ false → find path_cmp q rest ≡ None → find path_cmp q (page_by path state ++ rest) ≡ None
no_page_in q path Marked rest apart none = none
no_page_in q path (Known bytes) rest apart none = elim (is_page path) as (λ p. find path_cmp q ((cond p ((path, bytes) ∷ []) []) ++ rest) ≡ None) [
  | true ↦ ap (λ (b : Bool). cond b (Some bytes) (find path_cmp q rest)) apart ∙ none
  | false ↦ none
]

pub no_page : (q : List ℕ) (es : List (List ℕ × State)) → find path_cmp q es ≡ None → find path_cmp q (pages_in es) ≡ None
no_page q [] none = refl
no_page q (e ∷ es) none =
    let apart = not_found (same_path q e.0) e.1 (find path_cmp q es) none in
    no_page_in q e.0 e.1 (pages_in es) apart.0 (no_page q es apart.1)

page_below : (x path : List ℕ) (state : State) (rest : List Page) → is_lt (path_cmp x path) ≡ true → below_all path_cmp x rest ≡ true → below_all path_cmp x (page_by path state ++ rest) ≡ true
page_below x path Marked rest one all = all
page_below x path (Known bytes) rest one all = elim (is_page path) as (λ p. below_all path_cmp x ((cond p ((path, bytes) ∷ []) []) ++ rest) ≡ true) [
  | true ↦ both _ _ one all
  | false ↦ all
]

pages_below : (x : List ℕ) (es : List (List ℕ × State)) → below_all path_cmp x es ≡ true → below_all path_cmp x (pages_in es) ≡ true
pages_below x [] h = refl
pages_below x (e ∷ es) h = page_below x e.0 e.1 (pages_in es) (front _ _ h) (pages_below x es (back _ _ h))

page_rises : (path : List ℕ) (state : State) (rest : List Page) → below_all path_cmp path rest ≡ true → is_sorted path_cmp rest ≡ true → is_sorted path_cmp (page_by path state ++ rest) ≡ true
page_rises path Marked rest below rise = rise
page_rises path (Known bytes) rest below rise = elim (is_page path) as (λ p. is_sorted path_cmp ((cond p ((path, bytes) ∷ []) []) ++ rest) ≡ true) [
  | true ↦ both _ _ below rise
  | false ↦ rise
]

pages_rise : (es : List (List ℕ × State)) → is_sorted path_cmp es ≡ true → is_sorted path_cmp (pages_in es) ≡ true
pages_rise [] s = refl
pages_rise (e ∷ es) s = page_rises e.0 e.1 (pages_in es) (pages_below e.0 es (front _ _ s)) (pages_rise es (back _ _ s))

pub entries_rise : (belief : Belief) → is_sorted path_cmp (entries belief) ≡ true
entries_rise belief = told _ (entries_sorted belief)

known_rise : (belief : Belief) → is_sorted path_cmp (known_pages belief) ≡ true
known_rise belief = pages_rise (entries belief) (entries_rise belief)

get_page : (belief : Belief) (q : List ℕ) → get (pages belief) q ≡ find path_cmp q (known_pages belief)
get_page belief q = get-from_sorted path_cmp (known_pages belief) q (tell _ (known_rise belief))

-- the pages up to the next entry
pub pages_more : (es : List (List ℕ × State)) (n : ℕ) (d : List ℕ × State) → n < length es → pages_in (take (suc n) es) ≡ pages_in (take n es) ++ page_at (get_or es n d)
pages_more es n d lt =
    ap pages_in (take-suc es n d lt) ∙ flat_map-append page_at (take n es) (get_or es n d ∷ []) ∙ ap (λ (l : List Page). pages_in (take n es) ++ l) (append-nil (page_at (get_or es n d)))

-- the page at a place, by what is told of the entry there
pub told_page : (es : List (List ℕ × State)) (n : ℕ) (d : List ℕ × State) (path : List ℕ) (state : State) → n < length es → (path, state) ≡ get_or es n (path, state) → page_at (get_or es n d) ≡ page_by path state
told_page es n d path state lt is = ap page_at (get_or_default es n d (path, state) lt ∙ sym is)

pub no_page_by : (path : List ℕ) (state : State) → is_page path ≡ false → page_by path state ≡ []
no_page_by path Marked other = refl
no_page_by path (Known bytes) other = ap (λ (b : Bool). cond b ((path, bytes) ∷ []) []) other

pub page_there : (path bytes : List ℕ) → is_page path ≡ true → page_by path (Known bytes) ≡ (path, bytes) ∷ []
page_there path bytes one = ap (λ (b : Bool). cond b ((path, bytes) ∷ []) []) one

-- what holds of an error
pub of_err : {T E P : Type 0} (result : Result T E) → P → OnErr result P
of_err (Ok value) p = tt
of_err (Err error) p = p

-- ---- a table to which pages were offered

abbrev fresh : List ℕ → Kept
fresh bytes = record { bytes = bytes; is_offered = true }

abbrev waiting : Kept → Kept
waiting kept = record { bytes = kept.bytes; is_offered = false }

abbrev its_bytes : Kept → List ℕ
its_bytes kept = kept.bytes

pub bytes_of_none : bytes_of empty ≡ empty
bytes_of_none = same_map path_order same_if_tied _ _ (λ q. get-map_values its_bytes empty q ∙ ap (option_map its_bytes) (get-empty path_cmp q) ∙ sym (get-empty path_cmp q))

-- these pages were offered since the table was begun
pub record Looked (old : Table) (ps : List Page) (new : Table) : Type 0 where
  pub each : (q : List ℕ) → get new q ≡ option_or (option_map fresh (find path_cmp q ps)) (get (begun old) q)

pub looked_none : (old : Table) → Looked old [] (begun old)
looked_none old = record { each = λ q. refl }

-- what is kept has these bytes
abbrev kept_is : List ℕ → Option Kept → Bool
kept_is bytes o = elim o [ Some kept ↦ bytes_eq kept.bytes bytes | None ↦ false ]

abbrev bytes_are : List ℕ → Option (List ℕ) → Bool
bytes_are bytes o = elim o [ Some its ↦ bytes_eq its bytes | None ↦ false ]

-- a page that was not looked at with its bytes
abbrev pub is_new : Table → Page → Bool
is_new old page = not (has_seen (bytes_of old) page)

module _ (old now : Table) (ps : List Page) (l : Looked old ps now) where
  looked_one : (page : Page) → find path_cmp page.0 ps ≡ None → Looked old (ps ++ page ∷ []) (with_offer now page.0 page.1)
  looked_one page none = record {
    each = λ q.
        get-insert path_order now page.0 (fresh page.1) q
        ∙ ap (λ (o : Option Kept). cond (same_path q page.0) (Some (fresh page.1)) o) (l.each q)
        ∙ at q (same_path q page.0)
        ∙ ap (λ (o : Option (List ℕ)). option_or (option_map fresh o) (get (begun old) q)) (sym (find-append path_cmp path_order ps page.0 page.1 q none));
  }
    where
      at : (q : List ℕ) (b : Bool) → cond b (Some (fresh page.1)) (option_or (option_map fresh (find path_cmp q ps)) (get (begun old) q)) ≡ option_or (option_map fresh (cond b (Some page.1) (find path_cmp q ps))) (get (begun old) q)
      at q true = refl
      at q false = refl

  looked_still : Looked old (ps ++ []) now
  looked_still = subst (λ (list : List Page). Looked old list now) (sym (append-nil ps)) l

  pub looked_more : (e : List ℕ × State) → find path_cmp e.0 ps ≡ None → Looked old (ps ++ page_at e) (offered now (page_at e))
  looked_more e none = at e.1
    where
      at : (s : State) → Looked old (ps ++ page_by e.0 s) (offered now (page_by e.0 s))
      at Marked = looked_still
      at (Known bytes) = elim (is_page e.0) as (λ p. Looked old (ps ++ cond p ((e.0, bytes) ∷ []) []) (offered now (cond p ((e.0, bytes) ∷ []) []))) [
        | true ↦ looked_one (e.0, bytes) none
        | false ↦ looked_still
      ]

  -- whether it has a page that was not offered yet
  has_as_before : (page : Page) → find path_cmp page.0 ps ≡ None → has_bytes now page.0 page.1 ≡ has_seen (bytes_of old) page
  has_as_before page none =
      ap (kept_is page.1) (l.each page.0 ∙ ap (λ (o : Option (List ℕ)). option_or (option_map fresh o) (get (begun old) page.0)) none ∙ get-map_values waiting old page.0)
      ∙ at (get old page.0)
      ∙ ap (bytes_are page.1) (sym (get-map_values its_bytes old page.0))
    where
      at : (o : Option Kept) → kept_is page.1 (option_map waiting o) ≡ bytes_are page.1 (option_map its_bytes o)
      at None = refl
      at (Some kept) = refl

  pub new_more : (e : List ℕ × State) → find path_cmp e.0 ps ≡ None → length (filter (is_new old) (ps ++ page_at e)) ≡ length (filter (is_new old) ps) + cond (finds_new now (page_at e)) 1 0
  new_more e none = at e.1
    where
      none_more : length (filter (is_new old) (ps ++ [])) ≡ length (filter (is_new old) ps) + 0
      none_more = omega (arith, ap (λ (list : List Page). length (filter (is_new old) list)) (append-nil ps))

      one_more : (page : Page) → page.0 ≡ e.0 → length (filter (is_new old) (ps ++ page ∷ [])) ≡ length (filter (is_new old) ps) + cond (not (has_bytes now page.0 page.1)) 1 0
      one_more page is =
          let same : has_bytes now page.0 page.1 ≡ has_seen (bytes_of old) page = has_as_before page (ap (λ (q : List ℕ). find path_cmp q ps) is ∙ none) in
          let last : length (filter (is_new old) (page ∷ [])) ≡ cond (not (has_bytes now page.0 page.1)) 1 0 =
          counted (is_new old page) ∙ ap (λ (b : Bool). cond (not b) 1 0) (sym same) in
          ap length (filter-append (is_new old) ps (page ∷ [])) ∙ length-append (filter (is_new old) ps) (filter (is_new old) (page ∷ [])) ∙ ap (λ (n : ℕ). length (filter (is_new old) ps) + n) last
        where
          counted : (b : Bool) → length (cond b (page ∷ []) []) ≡ cond b 1 0
          counted true = refl
          counted false = refl

      at : (s : State) → length (filter (is_new old) (ps ++ page_by e.0 s)) ≡ length (filter (is_new old) ps) + cond (finds_new now (page_by e.0 s)) 1 0
      at Marked = none_more
      at (Known bytes) = elim (is_page e.0) as (λ p. length (filter (is_new old) (ps ++ cond p ((e.0, bytes) ∷ []) [])) ≡ length (filter (is_new old) ps) + cond (finds_new now (cond p ((e.0, bytes) ∷ []) [])) 1 0) [
        | true ↦ one_more (e.0, bytes) refl
        | false ↦ none_more
      ]

-- ---- where memory was wanting

module _ (old now : Table) (belief : Belief) (n : ℕ) (l : Looked old (pages_in (take n (entries belief))) now) where
  find_in_all : (q : List ℕ) (bytes : List ℕ) (xs ys : List Page) → find path_cmp q xs ≡ Some bytes → find path_cmp q (xs ++ ys) ≡ Some bytes
  find_in_all q bytes [] ys e = absurd (cc (e))
  find_in_all q bytes (x ∷ xs) ys e =
      elim (same_path q x.0) as (λ b. cond b (Some x.1) (find path_cmp q xs) ≡ Some bytes → cond b (Some x.1) (find path_cmp q (xs ++ ys)) ≡ Some bytes) [
        | true ↦ λ is. is
        | false ↦ λ is. find_in_all q bytes xs ys is
      ] e

  all_pages : pages_in (take n (entries belief)) ++ pages_in (drop n (entries belief)) ≡ known_pages belief
  all_pages = sym (flat_map-append page_at (take n (entries belief)) (drop n (entries belief))) ∙ ap pages_in (take-append-drop n (entries belief))

  abbrev ps : List Page
  ps = pages_in (take n (entries belief))

  pub looks_at_some : LooksAtSome (bytes_of old) belief (bytes_of now)
  looks_at_some q = at (find path_cmp q ps) refl
    where
      seen : get (bytes_of now) q ≡ option_map its_bytes (option_or (option_map fresh (find path_cmp q ps)) (get (begun old) q))
      seen = get-map_values its_bytes now q ∙ ap (option_map its_bytes) (l.each q)

      kept : (o : Option Kept) → option_map its_bytes (option_map waiting o) ≡ option_map its_bytes o
      kept None = refl
      kept (Some k) = refl

      at : (o : Option (List ℕ)) → find path_cmp q ps ≡ o → (get (bytes_of now) q ≡ get (bytes_of old) q) ⊎ (get (bytes_of now) q ≡ get (pages belief) q)
      at None e =
          inl (seen ∙ ap (λ (o : Option (List ℕ)). option_map its_bytes (option_or (option_map fresh o) (get (begun old) q))) e
          ∙ ap (option_map its_bytes) (get-map_values waiting old q) ∙ kept (get old q) ∙ sym (get-map_values its_bytes old q))
      at (Some bytes) e =
          inr (seen ∙ ap (λ (o : Option (List ℕ)). option_map its_bytes (option_or (option_map fresh o) (get (begun old) q))) e
          ∙ sym (get_page belief q ∙ ap (find path_cmp q) (sym all_pages) ∙ find_in_all q bytes ps (pages_in (drop n (entries belief))) e))

-- ---- once all were offered

abbrev is_kept : List ℕ × Kept → Bool
is_kept e = e.1.is_offered

abbrev kept_of : Option Kept → Option Kept
kept_of None = None
kept_of (Some kept) = cond kept.is_offered (Some kept) None

none_left : (q : List ℕ) (es : List (List ℕ × Kept)) → find path_cmp q es ≡ None → find path_cmp q (filter is_kept es) ≡ None
none_left q [] none = refl
none_left q (e ∷ es) none =
    let apart = not_found (same_path q e.0) e.1 (find path_cmp q es) none in
    elim e.1.is_offered as (λ b. find path_cmp q (cond b (e ∷ filter is_kept es) (filter is_kept es)) ≡ None) [
      | true ↦ ap (λ (b : Bool). cond b (Some e.1) (find path_cmp q (filter is_kept es))) apart.0 ∙ none_left q es apart.1
      | false ↦ none_left q es apart.1
    ]

abbrev left_by : List ℕ × Kept → List (List ℕ × Kept) → Bool → List (List ℕ × Kept)
left_by e rest b = cond b (e ∷ rest) rest

find_left : (q : List ℕ) (es : List (List ℕ × Kept)) → is_sorted path_cmp es ≡ true → find path_cmp q (filter is_kept es) ≡ kept_of (find path_cmp q es)
find_left q [] s = refl
find_left q (e ∷ es) s = by (find_left q es (back _ _ s)) (same_path q e.0) refl
  where
    by : find path_cmp q (filter is_kept es) ≡ kept_of (find path_cmp q es) → (b : Bool) → same_path q e.0 ≡ b → find path_cmp q (left_by e (filter is_kept es) e.1.is_offered) ≡ kept_of (cond b (Some e.1) (find path_cmp q es))
    by rest true is =
        let none : find path_cmp q es ≡ None = none_below e.0 q es (sym (the_same q e.0 is)) (front _ _ s) in
        elim e.1.is_offered as (λ b. find path_cmp q (left_by e (filter is_kept es) b) ≡ cond b (Some e.1) None) [
          | true ↦ ap (λ (b : Bool). cond b (Some e.1) (find path_cmp q (filter is_kept es))) is
          | false ↦ none_left q es none
        ]
    by rest false is =
        elim e.1.is_offered as (λ b. find path_cmp q (left_by e (filter is_kept es) b) ≡ kept_of (find path_cmp q es)) [
          | true ↦ ap (λ (b : Bool). cond b (Some e.1) (find path_cmp q (filter is_kept es))) is ∙ rest
          | false ↦ rest
        ]

-- what is left stands in the same order
left_below : (x : List ℕ) (es : List (List ℕ × Kept)) → below_all path_cmp x es ≡ true → below_all path_cmp x (filter is_kept es) ≡ true
left_below x [] h = refl
left_below x (e ∷ es) h =
    elim e.1.is_offered as (λ b. below_all path_cmp x (left_by e (filter is_kept es) b) ≡ true) [
      | true ↦ both _ _ (front _ _ h) (left_below x es (back _ _ h))
      | false ↦ left_below x es (back _ _ h)
    ]

left_rise : (es : List (List ℕ × Kept)) → is_sorted path_cmp es ≡ true → is_sorted path_cmp (filter is_kept es) ≡ true
left_rise [] s = refl
left_rise (e ∷ es) s =
    elim e.1.is_offered as (λ b. is_sorted path_cmp (left_by e (filter is_kept es) b) ≡ true) [
      | true ↦ both _ _ (left_below e.0 es (front _ _ s)) (left_rise es (back _ _ s))
      | false ↦ left_rise es (back _ _ s)
    ]

get_finished : (table : Table) (q : List ℕ) → get (finished table) q ≡ kept_of (get table q)
get_finished table q =
    let s = told _ (entries_sorted table) in
    get-from_sorted path_cmp (filter is_kept (entries table)) q (tell _ (left_rise (entries table) s))
    ∙ find_left q (entries table) s ∙ ap kept_of (sym (get-entries table q))

pub looked_all : (old now : Table) (belief : Belief) → Looked old (known_pages belief) now → bytes_of (finished now) ≡ pages belief
looked_all old now belief l = same_map path_order same_if_tied _ _ (λ q.
    get-map_values its_bytes (finished now) q ∙ ap (option_map its_bytes) (get_finished now q ∙ ap kept_of (l.each q ∙ ap (option_or (option_map fresh (find path_cmp q (known_pages belief)))) (get-map_values waiting old q)))
    ∙ at (find path_cmp q (known_pages belief)) (get old q) ∙ sym (get_page belief q))
  where
    at : (o : Option (List ℕ)) (k : Option Kept) → option_map its_bytes (kept_of (option_or (option_map fresh o) (option_map waiting k))) ≡ o
    at None None = refl
    at None (Some k) = refl
    at (Some bytes) k = refl

-- ---- what is said of a table that has them all

flat_mapped : {A B C : Type 0} (f : B → List C) (g : A → B) (xs : List A) → flat_map f (map g xs) ≡ flat_map (λ x. f (g x)) xs
flat_mapped f g [] = refl
flat_mapped f g (x ∷ xs) = ap (λ (l : List _). f (g x) ++ l) (flat_mapped f g xs)

pub broken_of_all : (table : Table) (belief : Belief) (base : List ℕ) → bytes_of table ≡ pages belief → broken_in (is_there belief) base table ≡ broken belief base
broken_of_all table belief base is =
    let same : map (λ e. (e.0, e.1.bytes)) (entries table) ≡ known_pages belief =
    sym (entries-map_values its_bytes table) ∙ ap (λ m. entries m) is ∙ entries-from_sorted path_cmp (known_pages belief) (tell _ (known_rise belief)) in
    sym (flat_mapped (λ (page : Page). broken_links (is_there belief) page.0 base (links page.1)) (λ e. (e.0, e.1.bytes)) (entries table))
    ∙ ap (flat_map (λ (page : Page). broken_links (is_there belief) page.0 base (links page.1))) same

none_new : (belief : Belief) (first rest : List Page) → first ++ rest ≡ known_pages belief → filter (λ page. not (has_seen (pages belief) page)) rest ≡ []
none_new belief first [] is = refl
none_new belief first (page ∷ rest) is =
    let there : get (pages belief) page.0 ≡ Some page.1 = get_page belief page.0 ∙ ap (find path_cmp page.0) (sym is) ∙ at first (subst (λ (l : List Page). is_sorted path_cmp l ≡ true) (sym is) (known_rise belief)) in
    let seen : has_seen (pages belief) page ≡ true = ap (bytes_are page.1) there ∙ text_same page.1 page.1 refl in
    ap (λ (b : Bool). cond (not b) (page ∷ filter (λ page. not (has_seen (pages belief) page)) rest) (filter (λ page. not (has_seen (pages belief) page)) rest)) seen
    ∙ none_new belief (first ++ page ∷ []) rest (append_one first ∙ is)
  where
    append_one : (xs : List Page) → (xs ++ page ∷ []) ++ rest ≡ xs ++ page ∷ rest
    append_one [] = refl
    append_one (x ∷ xs) = ap (λ (l : List Page). x ∷ l) (append_one xs)

    is_below : (x : List ℕ) (xs : List Page) → below_all path_cmp x (xs ++ page ∷ rest) ≡ true → is_lt (path_cmp x page.0) ≡ true
    is_below x [] h = front _ _ h
    is_below x (y ∷ xs) h = is_below x xs (back _ _ h)

    at : (xs : List Page) → is_sorted path_cmp (xs ++ page ∷ rest) ≡ true → find path_cmp page.0 (xs ++ page ∷ rest) ≡ Some page.1
    at [] s = ap (λ (b : Bool). cond b (Some page.1) (find path_cmp page.0 rest)) (itself page.0)
    at (x ∷ xs) s = ap (λ (b : Bool). cond b (Some x.1) (find path_cmp page.0 (xs ++ page ∷ rest))) (other_path x.0 page.0 (is_below x.0 xs (front _ _ s))) ∙ at xs (back _ _ s)

pub unseen_none : (table : Table) (belief : Belief) → bytes_of table ≡ pages belief → unseen (bytes_of table) belief ≡ 0
unseen_none table belief is =
    ap (λ m. unseen m belief) is ∙ ap length (none_new belief [] (known_pages belief) refl)
