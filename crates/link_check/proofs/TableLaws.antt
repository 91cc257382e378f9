-- The pages of a table against the map that they are.
use Rattle.std.proofs.Common.{◌≡◌, ◌∙◌, ◌<◌, ◌≤◌, ◌++◌, ◌||◌, ℕ, zero, suc, Bool, true, false, cond, Err, List, [], ◌∷◌, None, Ok, OnErr, OnOk, Option, Result, Some, Vec, ap, arith, get_or, length, map, option_map, refl, slice_set, subst, sym}
use Rattle.std.specs.List.{filter}
use Rattle.std.specs.Prelude.{◌&&◌}
use Rattle.std.specs.declared.cmp.Ordering.TheVariants.{Less, Equal, Greater}
use Rattle.std.specs.Ordering.{eq_by_cmp, is_lt}
use Rattle.std.specs.Prelude.{flat_map}
use Rattle.std.specs.Str.{bytes_eq}
use Rattle.std.specs.declared.alloc.Global.{Global}
use Rattle.std.proofs.lemmas.List.{set-get_or}
use Rattle.std.specs.FinMap.{find, from_sorted, get, is_sorted, put}
use Rattle.std.specs.FinMap.Entries.{below_all, by_order}
use Rattle.site_base.specs.Places.{IsAbsent, IsThere, PathsRise, path_cmp}
use Rattle.site_base.proofs.Entries.{absent_get, entries_mapped, get_mapped, mapped_put, put_rises, same_text, there_get, there_set}
use Rattle.link_check.specs.Numbers.{AreNumbered, IsNumbered, IsSound, held_at, is_left, seen, table_of, unoffered}
use Rattle.link_check.specs.Table.{Kept, begun, broken_in, finished, has_bytes, with_offer}
use Rattle.link_check.specs.Answered.{broken_links}
use Rattle.link_check.specs.Links.{links}
use Rattle.link_check.specs.Notes.{broken_of}
use Rattle.link_check.specs.declared.answering.Broken.{Broken}
use Rattle.link_check.proofs.NumberLaws.{Each, all_pages, each_page, numbered_at}
use Rattle.link_check.specs.declared.page.Page.{Page}

both : (a b : Bool) → a ≡ true → b ≡ true → (a && b) ≡ true
both a b p q = (λ i. p i && q i)

front : (a b : Bool) → (a && b) ≡ true → a ≡ true
front true b p = refl
front false b p = p

back : (a b : Bool) → (a && b) ≡ true → b ≡ true
back true b p = p
back false b p = absurd (cc (p))

-- ---- other values at the same paths

module _ {V W : Type 0} (f : V → W) where
  abbrev on : List ℕ × V → List ℕ × W
  on e = (e.0, f e.1)

  below_mapped : (x : List ℕ) (es : List (List ℕ × V)) → below_all path_cmp x (map on es) ≡ below_all path_cmp x es
  below_mapped x [] = refl
  below_mapped x (e ∷ es) = ap (λ (b : Bool). is_lt (path_cmp x e.0) && b) (below_mapped x es)

  sorted_mapped : (es : List (List ℕ × V)) → is_sorted path_cmp (map on es) ≡ is_sorted path_cmp es
  sorted_mapped [] = refl
  sorted_mapped (e ∷ es) = λ i. below_mapped e.0 es i && sorted_mapped es i

  rises_mapped : (es : List (List ℕ × V)) → PathsRise es → PathsRise (map on es)
  rises_mapped es s = sorted_mapped es ∙ s

  put_mapped : (k : List ℕ) (v : V) (es : List (List ℕ × V)) → map on (put path_cmp k v es) ≡ put path_cmp k (f v) (map on es)
  put_mapped k v [] = refl
  put_mapped k v (e ∷ es) =
      elim (path_cmp k e.0) as (λ r. map on (by_order r ((k, v) ∷ e ∷ es) ((e.0, v) ∷ es) (e ∷ put path_cmp k v es)) ≡ by_order r ((k, f v) ∷ on e ∷ map on es) ((e.0, f v) ∷ map on es) (on e ∷ put path_cmp k (f v) (map on es))) [
        | Less ↦ refl
        | Equal ↦ refl
        | Greater ↦ ap (λ (l : List (List ℕ × W)). on e ∷ l) (put_mapped k v es)
      ]

-- ---- a page that is offered

each_put : (values : List (Option (List ℕ))) (k : List ℕ) (page : Page) (es : List (List ℕ × Page)) → IsNumbered values (k, page) → Each values es → Each values (put path_cmp k page es)
each_put values k page [] h all = (h, tt)
each_put values k page (e ∷ es) h all =
    elim (path_cmp k e.0) as (λ r. Each values (by_order r ((k, page) ∷ e ∷ es) ((e.0, page) ∷ es) (e ∷ put path_cmp k page es))) [
      | Less ↦ (h, all)
      | Equal ↦ (h, all.1)
      | Greater ↦ (all.0, each_put values k page es h all.1)
    ]

pub numbered_put : (values : List (Option (List ℕ))) (k : List ℕ) (page : Page) (es fs : List (List ℕ × Page)) → IsNumbered values (k, page) → AreNumbered values es → fs ≡ put path_cmp k page es → AreNumbered values fs
numbered_put values k page es fs h all is =
    subst (AreNumbered values) (sym is) (all_pages values (put path_cmp k page es) (each_put values k page es h (each_page values es all)))

pub offered_table : (es fs : List (List ℕ × Page)) (path : List ℕ) (page : Page) → PathsRise es → page.is_offered ≡ true → fs ≡ put path_cmp path page es → table_of fs ≡ with_offer (table_of es) path page.bytes
offered_table es fs path page s offered is =
    ap table_of is
    ∙ ap from_sorted (put_mapped seen path page es)
    ∙ ap (λ (b : Bool). from_sorted (put path_cmp path (record { bytes = page.bytes; is_offered = b }) (map (on seen) es))) offered
    ∙ mapped_put path (record { bytes = page.bytes; is_offered = true }) (map (on seen) es) (rises_mapped seen es s)

-- a page is kept, or there is no room for it
pub put_sound : {T E : Type 0} (values : List (Option (List ℕ))) (es fs : List (List ℕ × Page)) (path : List ℕ) (page : Page) (r : Result T E) → PathsRise es → AreNumbered values es → IsNumbered values (path, page)
    → OnOk r (fs ≡ put path_cmp path page es) → OnErr r (fs ≡ es) → IsSound values fs
put_sound values es fs path page (Ok x) s all h ok err = record { rises = put_rises path page es fs s ok; numbered = numbered_put values path page es fs h all ok }
put_sound values es fs path page (Err e) s all h ok err = record { rises = subst PathsRise (sym err) s; numbered = subst (AreNumbered values) (sym err) all }

-- ---- a round that begins

abbrev unseen : Kept → Kept
unseen k = record { bytes = k.bytes; is_offered = false }

unoffered_seen : (es : List (List ℕ × Page)) → map (on seen) (map unoffered es) ≡ map (on unseen) (map (on seen) es)
unoffered_seen [] = refl
unoffered_seen (e ∷ es) = ap (λ (l : List (List ℕ × Kept)). (e.0, record { bytes = e.1.bytes; is_offered = false }) ∷ l) (unoffered_seen es)

-- the first pages are unoffered
abbrev pub unoffered_up_to : ℕ → List (List ℕ × Page) → List (List ℕ × Page)
unoffered_up_to zero es = es
unoffered_up_to (suc n) [] = []
unoffered_up_to (suc n) (e ∷ es) = unoffered e ∷ unoffered_up_to n es

pub unoffered_more : (n : ℕ) (es : List (List ℕ × Page)) (d : List ℕ × Page) → n < length es → slice_set (unoffered_up_to n es) n (unoffered (get_or (unoffered_up_to n es) n d)) ≡ unoffered_up_to (suc n) es
unoffered_more n [] d lt = absurd (omega (arith, lt))
unoffered_more zero (e ∷ es) d lt = refl
unoffered_more (suc n) (e ∷ es) d lt = ap (λ (l : List (List ℕ × Page)). unoffered e ∷ l) (unoffered_more n es d (omega (arith, lt)))

pub unoffered_len : (n : ℕ) (es : List (List ℕ × Page)) → length (unoffered_up_to n es) ≡ length es
unoffered_len zero es = refl
unoffered_len (suc n) [] = refl
unoffered_len (suc n) (e ∷ es) = ap suc (unoffered_len n es)

pub unoffered_all : (n : ℕ) (es : List (List ℕ × Page)) → length es ≤ n → unoffered_up_to n es ≡ map unoffered es
unoffered_all zero [] le = refl
unoffered_all zero (e ∷ es) le = absurd (omega (arith, le))
unoffered_all (suc n) [] le = refl
unoffered_all (suc n) (e ∷ es) le = ap (λ (l : List (List ℕ × Page)). unoffered e ∷ l) (unoffered_all n es (omega (arith, le)))

pub begun_table : (es fs : List (List ℕ × Page)) → PathsRise es → fs ≡ map unoffered es → table_of fs ≡ begun (table_of es)
begun_table es fs s is =
    ap table_of is
    ∙ ap from_sorted (unoffered_seen es)
    ∙ ap (λ (l : List (List ℕ × Kept)). from_sorted (map (on unseen) l)) (sym (entries_mapped (map (on seen) es) (rises_mapped seen es s)))

pub begun_rises : (es fs : List (List ℕ × Page)) → PathsRise es → fs ≡ map unoffered es → PathsRise fs
begun_rises es fs s is = subst PathsRise (sym is) (rises_mapped (λ (p : Page). record { bytes = p.bytes; links = p.links; is_offered = false }) es s)

unoffered_each : (values : List (Option (List ℕ))) (es : List (List ℕ × Page)) → Each values es → Each values (map unoffered es)
unoffered_each values [] h = tt
unoffered_each values (e ∷ es) h = (h.0, unoffered_each values es h.1)

pub begun_numbered : (values : List (Option (List ℕ))) (es fs : List (List ℕ × Page)) → AreNumbered values es → fs ≡ map unoffered es → AreNumbered values fs
begun_numbered values es fs h is = subst (AreNumbered values) (sym is) (all_pages values (map unoffered es) (unoffered_each values es (each_page values es h)))

-- ---- a round that ends

module _ {V : Type 0} (p : List ℕ × V → Bool) where
  below_filter : (x : List ℕ) (es : List (List ℕ × V)) → below_all path_cmp x es ≡ true → below_all path_cmp x (filter p es) ≡ true
  below_filter x [] h = refl
  below_filter x (e ∷ es) h =
      let rest = below_filter x es (back _ _ h) in
      elim (p e) as (λ b. below_all path_cmp x (cond b (e ∷ filter p es) (filter p es)) ≡ true) [ true ↦ both _ _ (front _ _ h) rest | false ↦ rest ]

  filter_rises : (es : List (List ℕ × V)) → PathsRise es → PathsRise (filter p es)
  filter_rises [] s = refl
  filter_rises (e ∷ es) s =
      let rest = filter_rises es (back _ _ s) in
      elim (p e) as (λ b. is_sorted path_cmp (cond b (e ∷ filter p es) (filter p es)) ≡ true) [ true ↦ both _ _ (below_filter e.0 es (front _ _ s)) rest | false ↦ rest ]

pub finished_rises : (es fs : List (List ℕ × Page)) → PathsRise es → fs ≡ filter is_left es → PathsRise fs
finished_rises es fs s is = subst PathsRise (sym is) (filter_rises is_left es s)

left_seen : (es : List (List ℕ × Page)) → map (on seen) (filter is_left es) ≡ filter (λ e. e.1.is_offered) (map (on seen) es)
left_seen [] = refl
left_seen (e ∷ es) =
    let rest = left_seen es in
    elim e.1.is_offered as (λ b. map (on seen) (cond b (e ∷ filter is_left es) (filter is_left es)) ≡ cond b ((e.0, seen e.1) ∷ filter (λ x. x.1.is_offered) (map (on seen) es)) (filter (λ x. x.1.is_offered) (map (on seen) es))) [
      | true ↦ ap (λ (l : List (List ℕ × Kept)). (e.0, seen e.1) ∷ l) rest
      | false ↦ rest
    ]

pub finished_table : (es fs : List (List ℕ × Page)) → PathsRise es → fs ≡ filter is_left es → table_of fs ≡ finished (table_of es)
finished_table es fs s is =
    ap table_of is
    ∙ ap from_sorted (left_seen es)
    ∙ ap (λ (l : List (List ℕ × Kept)). from_sorted (filter (λ e. e.1.is_offered) l)) (sym (entries_mapped (map (on seen) es) (rises_mapped seen es s)))

left_each : (values : List (Option (List ℕ))) (es : List (List ℕ × Page)) → Each values es → Each values (filter is_left es)
left_each values [] h = tt
left_each values (e ∷ es) h =
    let rest = left_each values es h.1 in
    elim e.1.is_offered as (λ b. Each values (cond b (e ∷ filter is_left es) (filter is_left es))) [ true ↦ (h.0, rest) | false ↦ rest ]

pub finished_numbered : (values : List (Option (List ℕ))) (es fs : List (List ℕ × Page)) → AreNumbered values es → fs ≡ filter is_left es → AreNumbered values fs
finished_numbered values es fs h is = subst (AreNumbered values) (sym is) (all_pages values (filter is_left es) (left_each values es (each_page values es h)))

-- ---- what is kept of a path

find_mapped : (q : List ℕ) (es : List (List ℕ × Page)) → find path_cmp q (map (on seen) es) ≡ option_map seen (find path_cmp q es)
find_mapped q [] = refl
find_mapped q (e ∷ es) =
    elim (eq_by_cmp path_cmp q e.0) as (λ b. cond b (Some (seen e.1)) (find path_cmp q (map (on seen) es)) ≡ option_map seen (cond b (Some e.1) (find path_cmp q es))) [ true ↦ refl | false ↦ find_mapped q es ]

get_table : (es : List (List ℕ × Page)) (q : List ℕ) → PathsRise es → get (table_of es) q ≡ option_map seen (get (from_sorted {R = path_cmp} es) q)
get_table es q s = get_mapped (map (on seen) es) q (rises_mapped seen es s) ∙ find_mapped q es ∙ ap (option_map seen) (sym (get_mapped es q s))

pub there_has : (es : List (List ℕ × Page)) (path bytes : List ℕ) (i : ℕ) (x : List ℕ × Page) → PathsRise es → IsThere path es i → x ≡ get_or es i x → bytes_eq x.1.bytes bytes ≡ has_bytes (table_of es) path bytes
there_has es path bytes i x s t is =
    sym (ap (λ (o : Option Kept). elim o as (λ y. Bool) [ Some k ↦ bytes_eq k.bytes bytes | None ↦ false ]) (get_table es path s ∙ ap (option_map seen) (sym (there_get path es i x s t is))))

pub absent_has : (es : List (List ℕ × Page)) (path bytes : List ℕ) (i : ℕ) → PathsRise es → IsAbsent path es i → false ≡ has_bytes (table_of es) path bytes
absent_has es path bytes i s t =
    sym (ap (λ (o : Option Kept). elim o as (λ y. Bool) [ Some k ↦ bytes_eq k.bytes bytes | None ↦ false ]) (get_table es path s ∙ ap (option_map seen) (sym (absent_get path es i s t))))

-- a page that has these bytes, or has not, and what is written in its place
pub same_page : (p q : Page) → p.bytes ≡ q.bytes → p.links ≡ q.links → p.is_offered ≡ q.is_offered → p ≡ q
same_page p q b l o = λ i. record { bytes = b i; links = l i; is_offered = o i }

written_put : (es : List (List ℕ × Page)) (path : List ℕ) (i : ℕ) (x : List ℕ × Page) (page : Page) → IsThere path es i → x ≡ get_or es i x → slice_set es i (x.0, page) ≡ put path_cmp path page es
written_put es path i x page t is =
    let named : x.0 ≡ path = ap (λ (e : List ℕ × Page). e.0) is ∙ t.path_is x in
    ap (λ (k : List ℕ). slice_set es i (k, page)) named ∙ there_set path page es i t

pub written_rises : (es fs : List (List ℕ × Page)) (path : List ℕ) (i : ℕ) (x : List ℕ × Page) (page : Page) → PathsRise es → IsThere path es i → x ≡ get_or es i x → fs ≡ slice_set es i (x.0, page) → PathsRise fs
written_rises es fs path i x page s t is new = put_rises path page es fs s (new ∙ written_put es path i x page t is)

pub written_numbered : (values : List (Option (List ℕ))) (es fs : List (List ℕ × Page)) (path : List ℕ) (i : ℕ) (x : List ℕ × Page) (page : Page) → AreNumbered values es → IsThere path es i → x ≡ get_or es i x → page.bytes ≡ x.1.bytes → page.links ≡ x.1.links → fs ≡ slice_set es i (x.0, page) → AreNumbered values fs
written_numbered values es fs path i x page h t is bytes numbers new =
    let old : IsNumbered values x = numbered_at values es i x h t.bound is in
    let here : IsNumbered values (path, page) = ap (λ (l : Vec ℕ Global). map (held_at values) l.items) numbers ∙ old ∙ ap (λ (b : List ℕ). map (λ (t : List ℕ). Some t) (links b)) (sym bytes) in
    numbered_put values path page es fs here h (new ∙ written_put es path i x page t is)

pub written_table : (es fs : List (List ℕ × Page)) (path bytes : List ℕ) (i : ℕ) (x : List ℕ × Page) (page : Page) (r : Bool) → PathsRise es → IsThere path es i → x ≡ get_or es i x
    → page.bytes ≡ x.1.bytes → page.links ≡ x.1.links → page.is_offered ≡ (r || x.1.is_offered) → r ≡ bytes_eq x.1.bytes bytes → fs ≡ slice_set es i (x.0, page)
    → table_of fs ≡ cond r (with_offer (table_of es) path bytes) (table_of es)
written_table es fs path bytes i x page true s t is b l o told new =
    let same : page.bytes ≡ bytes = b ∙ same_text x.1.bytes bytes (sym told) in
    offered_table es fs path page s o (new ∙ written_put es path i x page t is) ∙ ap (with_offer (table_of es) path) same
written_table es fs path bytes i x page false s t is b l o told new =
    ap table_of (new ∙ ap (λ (p : Page). slice_set es i (x.0, p)) (same_page page x.1 b l o) ∙ ap (slice_set es i) is ∙ set-get_or es i x)

-- ---- the broken links of all pages

seen_broken : (has : List ℕ → Bool) (base : List ℕ) (es : List (List ℕ × Page)) → flat_map (λ (e : List ℕ × Kept). broken_links has e.0 base (links e.1.bytes)) (map (on seen) es) ≡ broken_of has base es
seen_broken has base [] = refl
seen_broken has base (e ∷ es) = ap (λ (l : List Broken). broken_links has e.0 base (links e.1.bytes) ++ l) (seen_broken has base es)

pub broken_table : (has : List ℕ → Bool) (base : List ℕ) (es : List (List ℕ × Page)) → PathsRise es → broken_of has base es ≡ broken_in has base (table_of es)
broken_table has base es s =
    sym (seen_broken has base es)
    ∙ ap (flat_map (λ (e : List ℕ × Kept). broken_links has e.0 base (links e.1.bytes))) (sym (entries_mapped (map (on seen) es) (rises_mapped seen es s)))
