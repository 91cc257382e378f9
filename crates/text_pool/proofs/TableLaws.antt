-- How a table's numbers and places lead to each other, and which texts it then has.
use Rattle.std.proofs.Common.{◌≡◌, ◌≢◌, ℕ, zero, suc, ◌+◌, ◌-◌, ◌<◌, ◌≤◌, Bool, true, false, cond, ◌==◌, ◌⊎◌, inl, inr, nat_eq, List, [], ◌∷◌, ◌++◌, map, length, take, get_or, is_some, IsSome, slice_get, slice_set, swap_remove, option_map, Option, Some, None, refl, sym, ap, subst, ◌∙◌, true≢false, arith}
use Rattle.std.proofs.lemmas.Bool.{eqb-true, eq-eqb}
use Rattle.std.proofs.lemmas.Cmp.{nat_cmp_total}
use Rattle.std.proofs.lemmas.Option.{slice_get_within, slice_get-get_or}
use Rattle.std.specs.Cmp.{unsigned_tied}
use Rattle.std.specs.Cmp.Lexicographic.{pointwise, same_text}
use Rattle.std.specs.Ordering.{nat_cmp, eq_by_cmp}
use Rattle.std.specs.Option.{option_map_or}
use Rattle.std.specs.Map.{lookup}
use Rattle.std.specs.FinMap.{empty, find, get, get-empty, get-from_entries, insert, remove}
use Rattle.slab.specs.Slab.{Slab, Updates, get as slot_at}
use Rattle.text_pool.specs.declared.text_key.TextKey.{TextKey}
use Rattle.text_pool.specs.declared.text_table.Slot.{Slot}
use Rattle.text_pool.specs.TextKeys.{bytes_in}
use Rattle.text_pool.specs.Texts.{HeldText, bytes_of, count_of, with_id, IsHeld, Lacks}
use Rattle.text_pool.specs.Layout.{as_texts, count_in, text_in, IsSound}
use Rattle.text_pool.proofs.TextLaws.{same, get-with, get-less, differ}

abbrev pub Entry : Type 0
Entry = TextKey × ℕ

pub some_inj : {X : Type 0} (x y : X) → Some x ≡ Some y → x ≡ y
some_inj x y h = cc

pub none_some : {X : Type 0} (x : X) → None ≡ Some x → ⊥
none_some x h = cc

-- ---- lists by their places

push_front : {X : Type 0} (xs : List X) (x : X) (p : ℕ) (e : X) → slice_get xs p ≡ Some e → slice_get (xs ++ x ∷ []) p ≡ Some e
push_front [] x p e h = absurd (none_some e h)
push_front (y ∷ ys) x zero e h = h
push_front (y ∷ ys) x (suc p) e h = push_front ys x p e h

push_last : {X : Type 0} (xs : List X) (x : X) → slice_get (xs ++ x ∷ []) (length xs) ≡ Some x
push_last [] x = refl
push_last (y ∷ ys) x = push_last ys x

push_cases : {X : Type 0} (xs : List X) (x : X) (p : ℕ) (e : X) → slice_get (xs ++ x ∷ []) p ≡ Some e → (slice_get xs p ≡ Some e) ⊎ ((p ≡ length xs) × (x ≡ e))
push_cases [] x zero e h = inr (refl, some_inj x e h)
push_cases [] x (suc p) e h = absurd (none_some e h)
push_cases (y ∷ ys) x zero e h = inl h
push_cases (y ∷ ys) x (suc p) e h = elim (push_cases ys x p e h) [ inl old ↦ inl old | inr last ↦ inr (ap suc last.0, last.1) ]

take_within : {X : Type 0} (xs : List X) (n i : ℕ) → i < n → slice_get (take n xs) i ≡ slice_get xs i
take_within [] zero i l = refl
take_within [] (suc n) i l = refl
take_within (x ∷ xs) zero i l = absurd (omega (arith, l))
take_within (x ∷ xs) (suc n) zero l = refl
take_within (x ∷ xs) (suc n) (suc i) l = take_within xs n i (omega (arith, l))

take_past : {X : Type 0} (xs : List X) (n i : ℕ) → n ≤ i → slice_get (take n xs) i ≡ None
take_past [] zero i l = refl
take_past [] (suc n) i l = refl
take_past (x ∷ xs) zero i l = refl
take_past (x ∷ xs) (suc n) zero l = absurd (omega (arith, l))
take_past (x ∷ xs) (suc n) (suc i) l = take_past xs n i (omega (arith, l))

set_here : {X : Type 0} (xs : List X) (i : ℕ) (v : X) → i < length xs → slice_get (slice_set xs i v) i ≡ Some v
set_here [] i v l = absurd (omega (arith, l))
set_here (x ∷ xs) zero v l = refl
set_here (x ∷ xs) (suc i) v l = set_here xs i v (omega (arith, l))

set_beside : {X : Type 0} (xs : List X) (i j : ℕ) (v : X) → (j ≡ i → ⊥) → slice_get (slice_set xs i v) j ≡ slice_get xs j
set_beside [] i j v n = refl
set_beside (x ∷ xs) zero zero v n = absurd (n refl)
set_beside (x ∷ xs) zero (suc j) v n = refl
set_beside (x ∷ xs) (suc i) zero v n = refl
set_beside (x ∷ xs) (suc i) (suc j) v n = set_beside xs i j v (λ e. n (ap suc e))

-- the element at a place is taken out, and the last one put there
pub record TakesOut (es fs : List Entry) (p : ℕ) : Type 0 where
  pub last : ℕ
  pub many : length es ≡ suc last
  pub within : p ≤ last
  pub moved : p < last → slice_get fs p ≡ slice_get es last
  pub stays : (i : ℕ) → i < last → (i ≡ p → ⊥) → slice_get fs i ≡ slice_get es i
  pub past : (i : ℕ) → last ≤ i → slice_get fs i ≡ None

pub takes_out : (es fs : List Entry) (p : ℕ) (x e : Entry) → slice_get es p ≡ Some e → fs ≡ swap_remove es p x → TakesOut es fs p
takes_out es fs p x e at is =
    let within = slice_get_within es p e at in
    let last = length es - 1 in
    let many : length es ≡ suc last = omega (arith, within) in
    let below : last < length es = omega (arith, within) in
    let v = get_or es last x in
    record {
      last = last;
      many = many;
      within = omega (arith, within);
      moved = λ l. ap (λ gs. slice_get gs p) is ∙ take_within (slice_set es p v) last p l ∙ set_here es p v within ∙ sym (slice_get-get_or es last x below);
      stays = λ i l n. ap (λ gs. slice_get gs i) is ∙ take_within (slice_set es p v) last i l ∙ set_beside es p i v n;
      past = λ i l. ap (λ gs. slice_get gs i) is ∙ take_past (slice_set es p v) last i l;
    }

-- ---- what a number finds among entries

find_none : (f : Entry → HeldText) (es : List Entry) (q : ℕ) → ((p : ℕ) (e : Entry) → slice_get es p ≡ Some e → e.1 ≡ q → ⊥) → find nat_cmp q (map (λ e. (e.1, f e)) es) ≡ None
find_none f [] q h = refl
find_none f (e ∷ es) q h = by (q == e.1) refl (find_none f es q (λ p d at. h (suc p) d at))
  where
    by : (b : Bool) → (q == e.1) ≡ b → find nat_cmp q (map (λ e. (e.1, f e)) es) ≡ None → cond (eq_by_cmp nat_cmp q e.1) (Some (f e)) (find nat_cmp q (map (λ e. (e.1, f e)) es)) ≡ None
    by true t rest = absurd (h 0 e refl (sym (eqb-true q e.1 t)))
    by false t rest = ap (λ b. cond b (Some (f e)) (find nat_cmp q (map (λ (e : Entry). (e.1, f e)) es))) (unsigned_tied q e.1 ∙ t) ∙ rest

find_at : (f : Entry → HeldText) (es : List Entry) (q p : ℕ) (e : Entry) → slice_get es p ≡ Some e → e.1 ≡ q → ((r : ℕ) (d : Entry) → slice_get es r ≡ Some d → d.1 ≡ q → r ≡ p)
    → find nat_cmp q (map (λ e. (e.1, f e)) es) ≡ Some (f e)
find_at f [] q p e at n one = absurd (none_some e at)
find_at f (d ∷ es) q zero e at n one =
    let here : d ≡ e = some_inj d e at in
    let test : (q == d.1) ≡ true = eq-eqb q d.1 (sym n ∙ ap (λ (x : Entry). x.1) (sym here)) in
    ap (λ b. cond b (Some (f d)) (find nat_cmp q (map (λ (e : Entry). (e.1, f e)) es))) (unsigned_tied q d.1 ∙ test) ∙ ap (λ x. Some (f x)) here
find_at f (d ∷ es) q (suc p) e at n one = by (q == d.1) refl (find_at f es q p e at n (λ r x a b. let s : suc r ≡ suc p = one (suc r) x a b in omega (arith, s)))
  where
    by : (b : Bool) → (q == d.1) ≡ b → find nat_cmp q (map (λ e. (e.1, f e)) es) ≡ Some (f e) → cond (eq_by_cmp nat_cmp q d.1) (Some (f d)) (find nat_cmp q (map (λ e. (e.1, f e)) es)) ≡ Some (f e)
    by true t rest = let bad : 0 ≡ suc p = one 0 d refl (sym (eqb-true q d.1 t)) in absurd (omega (arith, bad))
    by false t rest = ap (λ b. cond b (Some (f d)) (find nat_cmp q (map (λ (e : Entry). (e.1, f e)) es))) (unsigned_tied q d.1 ∙ t) ∙ rest

-- what a key finds stands at a place
lookup_found : (test : TextKey → Bool) (es : List Entry) (v : ℕ) → lookup test es ≡ Some v → (p : ℕ) × (e : Entry) × (slice_get es p ≡ Some e) × (test e.0 ≡ true) × (e.1 ≡ v)
lookup_found test [] v h = absurd (none_some v h)
lookup_found test (d ∷ es) v h = by (test d.0) refl h (lookup_found test es v)
  where
    by : (b : Bool) → test d.0 ≡ b → cond b (Some d.1) (lookup test es) ≡ Some v → (lookup test es ≡ Some v → (p : ℕ) × (e : Entry) × (slice_get es p ≡ Some e) × (test e.0 ≡ true) × (e.1 ≡ v))
        → (p : ℕ) × (e : Entry) × (slice_get (d ∷ es) p ≡ Some e) × (test e.0 ≡ true) × (e.1 ≡ v)
    by true t h rest = (0, d, refl, t, some_inj d.1 v h)
    by false t h rest = let r = rest h in (suc r.0, r.1, r.2, r.3, r.4)

lookup_none : (test : TextKey → Bool) (es : List Entry) → lookup test es ≡ None → (p : ℕ) (e : Entry) → slice_get es p ≡ Some e → test e.0 ≡ false
lookup_none test [] h p e at = absurd (none_some e at)
lookup_none test (d ∷ es) h p e at = by (test d.0) refl h p at (λ none p at. lookup_none test es none p e at)
  where
    by : (b : Bool) → test d.0 ≡ b → cond b (Some d.1) (lookup test es) ≡ None → (p : ℕ) → slice_get (d ∷ es) p ≡ Some e
        → (lookup test es ≡ None → (p : ℕ) → slice_get es p ≡ Some e → test e.0 ≡ false) → test e.0 ≡ false
    by true t h p at rest = absurd (none_some d.1 (sym h))
    by false t h zero at rest = ap (λ (x : Entry). test x.0) (sym (some_inj d e at)) ∙ t
    by false t h (suc p) at rest = rest h p at

-- ---- a table that is sound

-- what is seen at a slot
abbrev pub slot_text : List Entry → Option Slot → Option HeldText
slot_text es None = None
slot_text es (Some s) = option_map (λ (e : Entry). record { bytes = bytes_in e.0; count = s.count }) (slice_get es s.place)

module _ (es : List Entry) (slots : Slab Slot) (sound : IsSound es slots) where
  pub has_slot : (p : ℕ) (e : Entry) → slice_get es p ≡ Some e → (s : Slot) × (slot_at slots e.1 ≡ Some s) × (s.place ≡ p)
  has_slot p e at = by (slot_at slots e.1) refl
    where
      leads : (o : Option Slot) → slot_at slots e.1 ≡ o → option_map (λ (s : Slot). s.place) o ≡ Some p
      leads o is = ap (option_map (λ (s : Slot). s.place)) (sym is) ∙ sound.placed p e at

      by : (o : Option Slot) → slot_at slots e.1 ≡ o → (s : Slot) × (slot_at slots e.1 ≡ Some s) × (s.place ≡ p)
      by None is = absurd (none_some p (leads None is))
      by (Some s) is = (s, is, some_inj s.place p (leads (Some s) is))

  place_is : (p : ℕ) (e : Entry) (s : Slot) → slice_get es p ≡ Some e → slot_at slots e.1 ≡ Some s → s.place ≡ p
  place_is p e s at is = some_inj s.place p (ap (option_map (λ (s : Slot). s.place)) (sym is) ∙ sound.placed p e at)

  pub has_entry : (q : ℕ) (s : Slot) → slot_at slots q ≡ Some s → (e : Entry) × (slice_get es s.place ≡ Some e) × (e.1 ≡ q)
  has_entry q s is = by (slice_get es s.place) refl
    where
      leads : (o : Option Entry) → slice_get es s.place ≡ o → option_map (λ (e : Entry). e.1) o ≡ Some q
      leads o at = ap (option_map (λ (e : Entry). e.1)) (sym at) ∙ sound.numbered q s is

      by : (o : Option Entry) → slice_get es s.place ≡ o → (e : Entry) × (slice_get es s.place ≡ Some e) × (e.1 ≡ q)
      by None at = absurd (none_some q (leads None at))
      by (Some e) at = (e, at, some_inj e.1 q (leads (Some e) at))

  get-as_texts : (q : ℕ) → get (as_texts es slots) q ≡ slot_text es (slot_at slots q)
  get-as_texts q = get-from_entries nat_cmp_total (map (λ (e : Entry). (e.1, text_in slots e)) es) q ∙ by (slot_at slots q) refl ∙ refl
    where
      by : (o : Option Slot) → slot_at slots q ≡ o → find nat_cmp q (map (λ (e : Entry). (e.1, text_in slots e)) es) ≡ slot_text es (slot_at slots q)
      by None is =
          find_none (text_in slots) es q (λ p e at n. let h = has_slot p e at in none_some h.0 (sym is ∙ ap (slot_at slots) (sym n) ∙ h.1))
          ∙ ap (slot_text es) (sym is)
      by (Some s) is =
          let h = has_entry q s is in
          let count : count_in slots h.0.1 ≡ s.count = ap (count_in slots) h.2 ∙ ap (λ (o : Option Slot). option_map_or (λ s. s.count) o 0) is in
          find_at (text_in slots) es q s.place h.0 h.1 h.2 (λ r d at n. sym (place_is r d s at (ap (slot_at slots) n ∙ is)))
          ∙ ap (λ n. Some (record { bytes = bytes_in h.0.0; count = n })) count
          ∙ sym (ap (option_map (λ (e : Entry). record { bytes = bytes_in e.0; count = s.count })) h.1)
          ∙ ap (slot_text es) (sym is)

  texts-at : (q : ℕ) (s : Slot) (e : Entry) → slot_at slots q ≡ Some s → slice_get es s.place ≡ Some e → get (as_texts es slots) q ≡ Some (record { bytes = bytes_in e.0; count = s.count })
  texts-at q s e is at = get-as_texts q ∙ ap (slot_text es) is ∙ ap (option_map (λ (e : Entry). record { bytes = bytes_in e.0; count = s.count })) at

  pub count-at : (q : ℕ) (s : Slot) → slot_at slots q ≡ Some s → count_of (as_texts es slots) q ≡ s.count
  count-at q s is = let h = has_entry q s is in ap (λ (o : Option HeldText). option_map_or (λ t. t.count) o 0) (texts-at q s h.0 is h.1)

  pub bytes-at : (q : ℕ) (s : Slot) (e : Entry) → slot_at slots q ≡ Some s → slice_get es s.place ≡ Some e → bytes_of (as_texts es slots) q ≡ bytes_in e.0
  bytes-at q s e is at = ap (λ (o : Option HeldText). option_map_or (λ t. t.bytes) o []) (texts-at q s e is at)

  no-count : (q : ℕ) → slot_at slots q ≡ None → count_of (as_texts es slots) q ≡ 0
  no-count q is = ap (λ (o : Option HeldText). option_map_or (λ t. t.count) o 0) (get-as_texts q ∙ ap (slot_text es) is)

  -- a number that is held has a slot
  pub held-slot : (q : ℕ) → IsHeld (as_texts es slots) q → (s : Slot) × (slot_at slots q ≡ Some s)
  held-slot q held = by (slot_at slots q) refl
    where
      by : (o : Option Slot) → slot_at slots q ≡ o → (s : Slot) × (slot_at slots q ≡ Some s)
      by None is = let none = no-count q is in absurd (omega (arith, none, held))
      by (Some s) is = (s, is)

  pub key_there : (q : ℕ) → IsHeld (as_texts es slots) q → IsSome (slot_at slots q)
  key_there q held = ap is_some (held-slot q held).1

  -- what a key finds is the number of its text
  pub finds : (test : TextKey → Bool) (bytes : List ℕ) → ((k : TextKey) → test k ≡ true → bytes ≡ bytes_in k) → (number : ℕ) → lookup test es ≡ Some number
      → IsHeld (as_texts es slots) number × (bytes_of (as_texts es slots) number ≡ bytes)
  finds test bytes tells number h =
      let r = lookup_found test es number h in
      let s = has_slot r.0 r.1 r.2 in
      let is : slot_at slots number ≡ Some s.0 = ap (slot_at slots) (sym r.4) ∙ s.1 in
      let there : slice_get es s.0.place ≡ Some r.1 = ap (slice_get es) s.2 ∙ r.2 in
      let count : count_of (as_texts es slots) number ≡ s.0.count = count-at number s.0 is in
      (omega (arith, count, sound.counted number s.0 is), bytes-at number s.0 r.1 is there ∙ sym (tells r.1.0 r.3))

  -- and where it finds nothing, no number has its text
  pub finds_none : (test : TextKey → Bool) (bytes : List ℕ) → ((k : TextKey) → bytes ≡ bytes_in k → test k ≡ true) → lookup test es ≡ None → Lacks (as_texts es slots) bytes
  finds_none test bytes tells h q held same =
      let s = held-slot q held in
      let e = has_entry q s.0 s.1 in
      let one : bytes ≡ bytes_in e.0.0 = sym same ∙ bytes-at q s.0 e.0 s.1 e.1 in
      true≢false (sym (tells e.0.0 one) ∙ lookup_none test es h s.0.place e.0 e.1)

  -- a text that no number has is no key
  pub finds_no_key : (bytes : List ℕ) → Lacks (as_texts es slots) bytes → lookup (λ k. pointwise nat_eq bytes (bytes_in k)) es ≡ None
  finds_no_key bytes lacks = by (lookup (λ k. pointwise nat_eq bytes (bytes_in k)) es) refl
    where
      by : (o : Option ℕ) → lookup (λ k. pointwise nat_eq bytes (bytes_in k)) es ≡ o → lookup (λ k. pointwise nat_eq bytes (bytes_in k)) es ≡ None
      by None h = h
      by (Some number) h =
          let f = finds (λ k. pointwise nat_eq bytes (bytes_in k)) bytes (λ k t. same_text bytes (bytes_in k) (sym t)) number h in
          absurd (lacks number f.0 f.1)

-- ---- the table of no texts

pub sound-empty : (slots : Slab Slot) → slots.slots ≡ [] → IsSound [] slots
sound-empty slots none =
    record {
      placed = λ p e at. absurd (none_some e at);
      numbered = λ q s is. absurd (none_some s (sym (ap (λ xs. get_or xs q None) none) ∙ is));
      counted = λ q s is. absurd (none_some s (sym (ap (λ xs. get_or xs q None) none) ∙ is));
    }

pub texts-empty : (slots : Slab Slot) → as_texts [] slots ≡ empty
texts-empty slots = same _ _ (λ q. get-from_entries nat_cmp_total [] q ∙ sym (get-empty nat_cmp q))

-- ---- changes

module _ (es fs : List Entry) (slots next : Slab Slot) (n : ℕ) (sound : IsSound es slots) (new : IsSound fs next)
    (others : (q : ℕ) → (q ≡ n → ⊥) → slot_text fs (slot_at next q) ≡ slot_text es (slot_at slots q)) where
  -- one number has another text or count
  sets : (t : HeldText) → slot_text fs (slot_at next n) ≡ Some t → as_texts fs next ≡ insert (as_texts es slots) n t
  sets t here = same _ _ (λ q. get-as_texts fs next new q ∙ by q (q == n) refl ∙ sym (get-with (as_texts es slots) n t q))
    where
      by : (q : ℕ) (b : Bool) → (q == n) ≡ b → slot_text fs (slot_at next q) ≡ cond (q == n) (Some t) (get (as_texts es slots) q)
      by q true e = ap (λ x. slot_text fs (slot_at next x)) (eqb-true q n e) ∙ here ∙ ap (λ b. cond b (Some t) (get (as_texts es slots) q)) (sym e)
      by q false e = others q (differ q n e) ∙ sym (get-as_texts es slots sound q) ∙ ap (λ b. cond b (Some t) (get (as_texts es slots) q)) (sym e)

  -- one number goes
  loses : slot_at next n ≡ None → as_texts fs next ≡ remove (as_texts es slots) n
  loses none = same _ _ (λ q. get-as_texts fs next new q ∙ by q (q == n) refl ∙ sym (get-less (as_texts es slots) n q))
    where
      by : (q : ℕ) (b : Bool) → (q == n) ≡ b → slot_text fs (slot_at next q) ≡ cond (q == n) None (get (as_texts es slots) q)
      by q true e = ap (λ x. slot_text fs (slot_at next x)) (eqb-true q n e) ∙ ap (slot_text fs) none ∙ ap (λ b. cond b None (get (as_texts es slots) q)) (sym e)
      by q false e = others q (differ q n e) ∙ sym (get-as_texts es slots sound q) ∙ ap (λ b. cond b None (get (as_texts es slots) q)) (sym e)

-- a text is added behind the others, under a number that is free
module _ (es : List Entry) (slots next : Slab Slot) (n : ℕ) (key : TextKey) (sound : IsSound es slots) (free : slot_at slots n ≡ None)
    (up : Updates slots next n (Some (record { place = length es; count = 1 }))) where
  abbrev more : List Entry
  more = es ++ (key, n) ∷ []

  abbrev slot : Slot
  slot = record { place = length es; count = 1 }

  pub sound-added : IsSound (es ++ (key, n) ∷ []) next
  sound-added =
      record {
        placed = λ p e at. elim (push_cases es (key, n) p e at) [
          | inl old ↦
              let h = has_slot es slots sound p e old in
              ap (option_map (λ (s : Slot). s.place)) (up.others e.1 (λ same. none_some h.0 (sym free ∙ ap (slot_at slots) (sym same) ∙ h.1))) ∙ sound.placed p e old
          | inr last ↦
              ap (λ (d : Entry). option_map (λ (s : Slot). s.place) (slot_at next d.1)) (sym last.1) ∙ ap (option_map (λ (s : Slot). s.place)) up.changed ∙ ap Some (sym last.0)
        ];
        numbered = λ q s is. leads q s is (q == n) refl;
        counted = λ q s is. counts q s is (q == n) refl;
      }
    where
      new : (q : ℕ) (s : Slot) → slot_at next q ≡ Some s → (q == n) ≡ true → slot ≡ s
      new q s is t = some_inj slot s (sym up.changed ∙ ap (slot_at next) (sym (eqb-true q n t)) ∙ is)

      old : (q : ℕ) (s : Slot) → slot_at next q ≡ Some s → (q == n) ≡ false → slot_at slots q ≡ Some s
      old q s is t = sym (up.others q (differ q n t)) ∙ is

      leads : (q : ℕ) (s : Slot) → slot_at next q ≡ Some s → (b : Bool) → (q == n) ≡ b → option_map (λ (e : Entry). e.1) (slice_get more s.place) ≡ Some q
      leads q s is true t =
          ap (λ (s : Slot). option_map (λ (e : Entry). e.1) (slice_get more s.place)) (sym (new q s is t))
          ∙ ap (option_map (λ (e : Entry). e.1)) (push_last es (key, n))
          ∙ ap Some (sym (eqb-true q n t))
      leads q s is false t =
          let h = has_entry es slots sound q s (old q s is t) in
          ap (option_map (λ (e : Entry). e.1)) (push_front es (key, n) s.place h.0 h.1) ∙ ap Some h.2

      counts : (q : ℕ) (s : Slot) → slot_at next q ≡ Some s → (b : Bool) → (q == n) ≡ b → 0 < s.count
      counts q s is true t = let one : 1 ≡ s.count = ap (λ (s : Slot). s.count) (new q s is t) in omega (arith, one)
      counts q s is false t = sound.counted q s (old q s is t)

  pub none-added : count_of (as_texts es slots) n ≡ 0
  none-added = no-count es slots sound n free

  pub texts-added : as_texts (es ++ (key, n) ∷ []) next ≡ with_id (as_texts es slots) n (bytes_in key)
  texts-added =
      sets es more slots next n sound sound-added (λ q d. ap (slot_text more) (up.others q d) ∙ stays q (slot_at slots q) refl) (record { bytes = bytes_in key; count = 1 }) here
      ∙ ap (λ c. insert (as_texts es slots) n (record { bytes = bytes_in key; count = c })) one
    where
      one : 1 ≡ count_of (as_texts es slots) n + 1
      one = let none = none-added in omega (arith, none)

      here : slot_text more (slot_at next n) ≡ Some (record { bytes = bytes_in key; count = 1 })
      here = ap (slot_text more) up.changed ∙ ap (option_map (λ (e : Entry). record { bytes = bytes_in e.0; count = 1 })) (push_last es (key, n))

      stays : (q : ℕ) (o : Option Slot) → slot_at slots q ≡ o → slot_text more (slot_at slots q) ≡ slot_text es (slot_at slots q)
      stays q None is = ap (slot_text more) is ∙ ap (slot_text es) (sym is)
      stays q (Some s) is =
          let h = has_entry es slots sound q s is in
          ap (slot_text more) is
          ∙ ap (option_map (λ (e : Entry). record { bytes = bytes_in e.0; count = s.count })) (push_front es (key, n) s.place h.0 h.1 ∙ sym h.1)
          ∙ ap (slot_text es) (sym is)

-- room is made first
pub added : (es fs : List Entry) (slots roomy next : Slab Slot) (n place : ℕ) (key : TextKey) (bytes : List ℕ) → IsSound es slots → roomy ≡ record slots { capacity = roomy.capacity } → slot_at roomy n ≡ None
    → place ≡ length es → fs ≡ es ++ (key, n) ∷ [] → bytes_in key ≡ bytes → Updates roomy next n (Some (record { place = place; count = 1 }))
    → IsSound fs next × (as_texts fs next ≡ with_id (as_texts es slots) n bytes) × (count_of (as_texts es slots) n ≡ 0)
added es fs slots roomy next n place key bytes sound kept free at pushed text up =
    let roomy_sound : IsSound es roomy = subst (IsSound es) (sym kept) (record { placed = sound.placed; numbered = sound.numbered; counted = sound.counted }) in
    let same : as_texts es roomy ≡ as_texts es slots = ap (as_texts es) kept in
    let there : Updates roomy next n (Some (record { place = length es; count = 1 })) = subst (λ p. Updates roomy next n (Some (record { place = p; count = 1 }))) at up in (
      subst (λ gs. IsSound gs next) (sym pushed) (sound-added es roomy next n key roomy_sound free there),
      ap (λ gs. as_texts gs next) pushed ∙ texts-added es roomy next n key roomy_sound free there ∙ (λ i. with_id (same i) n (text i)),
      ap (λ t. count_of t n) (sym same) ∙ none-added es roomy next n key roomy_sound free there,
    )

-- a number gets another count
module _ (es : List Entry) (slots next : Slab Slot) (n : ℕ) (s : Slot) (c : ℕ) (sound : IsSound es slots) (is : slot_at slots n ≡ Some s)
    (up : Updates slots next n (Some (record { place = s.place; count = c }))) (some : 0 < c) where
  abbrev recount : Slot
  recount = record { place = s.place; count = c }

  pub sound-counted : IsSound es next
  sound-counted =
      record {
        placed = λ p e at. leads p e at (e.1 == n) refl;
        numbered = λ q r there. names q r there (q == n) refl;
        counted = λ q r there. counts q r there (q == n) refl;
      }
    where
      leads : (p : ℕ) (e : Entry) → slice_get es p ≡ Some e → (b : Bool) → (e.1 == n) ≡ b → option_map (λ (s : Slot). s.place) (slot_at next e.1) ≡ Some p
      leads p e at true t =
          let one = eqb-true e.1 n t in
          ap (λ q. option_map (λ (s : Slot). s.place) (slot_at next q)) one ∙ ap (option_map (λ (s : Slot). s.place)) up.changed
          ∙ ap Some (place_is es slots sound p e s at (ap (slot_at slots) one ∙ is))
      leads p e at false t = ap (option_map (λ (s : Slot). s.place)) (up.others e.1 (differ e.1 n t)) ∙ sound.placed p e at

      new : (q : ℕ) (r : Slot) → slot_at next q ≡ Some r → (q == n) ≡ true → recount ≡ r
      new q r there t = some_inj recount r (sym up.changed ∙ ap (slot_at next) (sym (eqb-true q n t)) ∙ there)

      old : (q : ℕ) (r : Slot) → slot_at next q ≡ Some r → (q == n) ≡ false → slot_at slots q ≡ Some r
      old q r there t = sym (up.others q (differ q n t)) ∙ there

      names : (q : ℕ) (r : Slot) → slot_at next q ≡ Some r → (b : Bool) → (q == n) ≡ b → option_map (λ (e : Entry). e.1) (slice_get es r.place) ≡ Some q
      names q r there true t =
          ap (λ (r : Slot). option_map (λ (e : Entry). e.1) (slice_get es r.place)) (sym (new q r there t)) ∙ sound.numbered n s is ∙ ap Some (sym (eqb-true q n t))
      names q r there false t = sound.numbered q r (old q r there t)

      counts : (q : ℕ) (r : Slot) → slot_at next q ≡ Some r → (b : Bool) → (q == n) ≡ b → 0 < r.count
      counts q r there true t = subst (λ (r : Slot). 0 < r.count) (new q r there t) some
      counts q r there false t = sound.counted q r (old q r there t)

  pub texts-counted : as_texts es next ≡ insert (as_texts es slots) n (record { bytes = bytes_of (as_texts es slots) n; count = c })
  texts-counted =
      let h = has_entry es slots sound n s is in
      sets es es slots next n sound sound-counted (λ q d. ap (slot_text es) (up.others q d)) (record { bytes = bytes_of (as_texts es slots) n; count = c })
      (ap (slot_text es) up.changed ∙ ap (option_map (λ (e : Entry). record { bytes = bytes_in e.0; count = c })) h.1
      ∙ ap (λ b. Some (record { bytes = b; count = c })) (sym (bytes-at es slots sound n s h.0 is h.1)))

-- where the text of a slot stands once the last text has moved
abbrev pub moves : ℕ → ℕ → Slot → Slot
moves last place r = record { place = cond (r.place == last) place r.place; count = r.count }

-- a number goes, and the last text takes the place of its text
module _ (es fs : List Entry) (slots next : Slab Slot) (n : ℕ) (s : Slot) (sound : IsSound es slots) (is : slot_at slots n ≡ Some s)
    (out : TakesOut es fs s.place) (gone : slot_at next n ≡ None) where
  abbrev pub shifted : Slot → Slot
  shifted = moves out.last s.place

  module _ (others : (q : ℕ) → (q ≡ n → ⊥) → slot_at next q ≡ option_map shifted (slot_at slots q)) where
    -- two numbers have two places
    apart : (q : ℕ) (r : Slot) → (q ≡ n → ⊥) → slot_at slots q ≡ Some r → r.place ≡ s.place → ⊥
    apart q r d there one =
        let e = has_entry es slots sound q r there in
        let f = has_entry es slots sound n s is in
        let both : e.0 ≡ f.0 = some_inj e.0 f.0 (sym e.1 ∙ ap (slice_get es) one ∙ f.1) in
        d (sym e.2 ∙ ap (λ (x : Entry). x.1) both ∙ f.2)

    -- and the text of another number stands where its slot says
    follows : (q : ℕ) (r : Slot) → (q ≡ n → ⊥) → slot_at slots q ≡ Some r → slice_get fs (shifted r).place ≡ slice_get es r.place
    follows q r d there = by (r.place == out.last) refl
      where
        by : (b : Bool) → (r.place == out.last) ≡ b → slice_get fs (cond (r.place == out.last) s.place r.place) ≡ slice_get es r.place
        by true t =
            let last : r.place ≡ out.last = eqb-true r.place out.last t in
            let apart_ : s.place ≢ r.place = λ e. apart q r d there (sym e) in
            ap (λ b. slice_get fs (cond b s.place r.place)) t ∙ out.moved (omega (arith, last, apart_, out.within)) ∙ ap (slice_get es) (sym last)
        by false t =
            let e = has_entry es slots sound q r there in
            let not_last : r.place ≢ out.last = differ r.place out.last t in
            ap (λ b. slice_get fs (cond b s.place r.place)) t
            ∙ out.stays r.place (omega (arith, not_last, out.many, slice_get_within es r.place e.0 e.1)) (apart q r d there)

    -- a slot that is left was there
    was : (q : ℕ) (x : Slot) → slot_at next q ≡ Some x → (r : Slot) × (slot_at slots q ≡ Some r) × (shifted r ≡ x) × (q ≢ n)
    was q x there = by (slot_at slots q) refl
      where
        other : q ≡ n → ⊥
        other one = none_some x (sym gone ∙ ap (slot_at next) (sym one) ∙ there)

        by : (o : Option Slot) → slot_at slots q ≡ o → (r : Slot) × (slot_at slots q ≡ Some r) × (shifted r ≡ x) × (q ≢ n)
        by None none = absurd (none_some x (ap (option_map shifted) (sym none) ∙ sym (others q other) ∙ there))
        by (Some r) old = (r, old, some_inj (shifted r) x (ap (option_map shifted) (sym old) ∙ sym (others q other) ∙ there), other)

    pub sound-less : IsSound fs next
    sound-less =
        record {
          placed = λ i e at. leads i e at (i == s.place) refl;
          numbered = λ q x there.
              let r = was q x there in
              ap (λ (x : Slot). option_map (λ (e : Entry). e.1) (slice_get fs x.place)) (sym r.2) ∙ ap (option_map (λ (e : Entry). e.1)) (follows q r.0 r.3 r.1) ∙ sound.numbered q r.0 r.1;
          counted = λ q x there. let r = was q x there in subst (λ (x : Slot). 0 < x.count) r.2 (sound.counted q r.0 r.1);
        }
      where
        before : (i : ℕ) (e : Entry) → slice_get fs i ≡ Some e → i < out.last
        before i e at = by (take_cases i out.last)
          where
            take_cases : (a b : ℕ) → (a < b) ⊎ (b ≤ a)
            take_cases a zero = inr (omega arith)
            take_cases zero (suc b) = inl (omega arith)
            take_cases (suc a) (suc b) = elim (take_cases a b) [ inl l ↦ inl (omega (arith, l)) | inr l ↦ inr (omega (arith, l)) ]

            by : (i < out.last) ⊎ (out.last ≤ i) → i < out.last
            by (inl l) = l
            by (inr l) = absurd (none_some e (sym (out.past i l) ∙ at))

        at_place : (i : ℕ) (e : Entry) (p : ℕ) → slice_get es p ≡ Some e → (p ≡ s.place → ⊥) → cond (p == out.last) s.place p ≡ i → option_map (λ (s : Slot). s.place) (slot_at next e.1) ≡ Some i
        at_place i e p at d lands =
            let h = has_slot es slots sound p e at in
            let other : e.1 ≡ n → ⊥ = λ one. d (sym (place_is es slots sound p e s at (ap (slot_at slots) one ∙ is))) in
            ap (option_map (λ (s : Slot). s.place)) (others e.1 other ∙ ap (option_map shifted) h.1) ∙ ap (λ x. Some (cond (x == out.last) s.place x)) h.2 ∙ ap Some lands

        leads : (i : ℕ) (e : Entry) → slice_get fs i ≡ Some e → (b : Bool) → (i == s.place) ≡ b → option_map (λ (s : Slot). s.place) (slot_at next e.1) ≡ Some i
        leads i e at true t =
            let here : i ≡ s.place = eqb-true i s.place t in
            let low = before i e at in
            let below : s.place < out.last = omega (arith, here, low) in
            let there : slice_get es out.last ≡ Some e = sym (out.moved below) ∙ ap (slice_get fs) (sym here) ∙ at in
            at_place i e out.last there (λ one. omega (arith, one, below)) (ap (λ b. cond b s.place out.last) (eq-eqb out.last out.last refl) ∙ sym here)
        leads i e at false t =
            let low = before i e at in
            let d = differ i s.place t in
            at_place i e i (sym (out.stays i low d) ∙ at) d (ap (λ b. cond b s.place i) (not_equal (i == out.last) refl low))
          where
            not_equal : (b : Bool) → (i == out.last) ≡ b → i < out.last → (i == out.last) ≡ false
            not_equal true e l = let one = eqb-true i out.last e in absurd (omega (arith, one, l))
            not_equal false e l = e

    pub texts-less : as_texts fs next ≡ remove (as_texts es slots) n
    texts-less = loses es fs slots next n sound sound-less (λ q d. ap (slot_text fs) (others q d) ∙ stays q d (slot_at slots q) refl) gone
      where
        stays : (q : ℕ) → (q ≡ n → ⊥) → (o : Option Slot) → slot_at slots q ≡ o → slot_text fs (option_map shifted (slot_at slots q)) ≡ slot_text es (slot_at slots q)
        stays q d None none = ap (λ (o : Option Slot). slot_text fs (option_map shifted o)) none ∙ ap (slot_text es) (sym none)
        stays q d (Some r) old =
            ap (λ (o : Option Slot). slot_text fs (option_map shifted o)) old
            ∙ ap (option_map (λ (e : Entry). record { bytes = bytes_in e.0; count = r.count })) (follows q r d old)
            ∙ ap (slot_text es) (sym old)

-- where that text was the last one
module _ (es fs : List Entry) (slots next : Slab Slot) (n : ℕ) (s : Slot) (x : Entry) (sound : IsSound es slots) (is : slot_at slots n ≡ Some s)
    (swapped : fs ≡ swap_remove es s.place x) (up : Updates slots next n None) (none : slice_get fs s.place ≡ None) where
  abbrev pub out : TakesOut es fs s.place
  out = let h = has_entry es slots sound n s is in takes_out es fs s.place x h.0 h.1 swapped

  is_last : s.place ≡ out.last
  is_last = by (s.place == out.last) refl
    where
      by : (b : Bool) → (s.place == out.last) ≡ b → s.place ≡ out.last
      by true t = eqb-true s.place out.last t
      by false t =
          let d : s.place ≢ out.last = differ s.place out.last t in
          absurd (none_some (get_or es out.last x) (sym none ∙ out.moved (omega (arith, d, out.within)) ∙ slice_get-get_or es out.last x (omega (arith, out.many))))

  stays : (o : Option Slot) → o ≡ option_map (moves out.last s.place) o
  stays None = refl
  stays (Some r) = ap (λ p. Some (record { place = p; count = r.count })) (by (r.place == out.last) refl)
    where
      by : (b : Bool) → (r.place == out.last) ≡ b → r.place ≡ cond (r.place == out.last) s.place r.place
      by true t = eqb-true r.place out.last t ∙ sym is_last ∙ ap (λ b. cond b s.place r.place) (sym t)
      by false t = ap (λ b. cond b s.place r.place) (sym t)

  pub sound-shorter : IsSound fs next
  sound-shorter = sound-less es fs slots next n s sound is out up.changed (λ q d. up.others q d ∙ stays (slot_at slots q))

  pub texts-shorter : as_texts fs next ≡ remove (as_texts es slots) n
  texts-shorter = texts-less es fs slots next n s sound is out up.changed (λ q d. up.others q d ∙ stays (slot_at slots q))

-- where another text was the last one
module _ (es fs : List Entry) (slots mid : Slab Slot) (n : ℕ) (s : Slot) (x m : Entry) (sound : IsSound es slots) (is : slot_at slots n ≡ Some s)
    (swapped : fs ≡ swap_remove es s.place x) (up : Updates slots mid n None) (there : slice_get fs s.place ≡ Some m) where
  abbrev pub gap : TakesOut es fs s.place
  gap = let h = has_entry es slots sound n s is in takes_out es fs s.place x h.0 h.1 swapped

  below : s.place < gap.last
  below = by (s.place == gap.last) refl
    where
      by : (b : Bool) → (s.place == gap.last) ≡ b → s.place < gap.last
      by true t = let one : gap.last ≡ s.place = sym (eqb-true s.place gap.last t) in absurd (none_some m (sym (gap.past s.place (omega (arith, one))) ∙ there))
      by false t = let d : s.place ≢ gap.last = differ s.place gap.last t in omega (arith, d, gap.within)

  last_there : slice_get es gap.last ≡ Some m
  last_there = sym (gap.moved below) ∙ there

  other : m.1 ≡ n → ⊥
  other one =
      let h = has_slot es slots sound gap.last m last_there in
      let same : h.0 ≡ s = some_inj h.0 s (sym h.1 ∙ ap (slot_at slots) one ∙ is) in
      let place : s.place ≡ gap.last = ap (λ (s : Slot). s.place) (sym same) ∙ h.2 in
      omega (arith, place, below)

  -- the number of that text has a slot
  pub moved_slot : (r : Slot) × (slot_at mid m.1 ≡ Some r) × (slot_at slots m.1 ≡ Some r) × (r.place ≡ gap.last)
  moved_slot = let h = has_slot es slots sound gap.last m last_there in (h.0, up.others m.1 other ∙ h.1, h.1, h.2)

  module _ (next : Slab Slot) (r : Slot) (was : slot_at mid m.1 ≡ Some r) (put : Updates mid next m.1 (Some (record { place = s.place; count = r.count }))) where
    gone : slot_at next n ≡ None
    gone = put.others n (λ e. other (sym e)) ∙ up.changed

    others : (q : ℕ) → (q ≡ n → ⊥) → slot_at next q ≡ option_map (moves gap.last s.place) (slot_at slots q)
    others q d = by (q == m.1) refl
      where
        h : (r : Slot) × (slot_at mid m.1 ≡ Some r) × (slot_at slots m.1 ≡ Some r) × (r.place ≡ gap.last)
        h = moved_slot

        same_slot : h.0 ≡ r
        same_slot = some_inj h.0 r (sym h.1 ∙ was)

        lands : gap.last ≡ gap.last → cond (h.0.place == gap.last) s.place h.0.place ≡ s.place
        lands _ = ap (λ b. cond b s.place h.0.place) (eq-eqb h.0.place gap.last h.3)

        stays : (o : Option Slot) → slot_at slots q ≡ o → (q == m.1) ≡ false → o ≡ option_map (moves gap.last s.place) o
        stays None old t = refl
        stays (Some r) old t = ap (λ p. Some (record { place = p; count = r.count })) (at (r.place == gap.last) refl)
          where
            at : (b : Bool) → (r.place == gap.last) ≡ b → r.place ≡ cond (r.place == gap.last) s.place r.place
            at true l =
                let e = has_entry es slots sound q r old in
                let one : m ≡ e.0 = some_inj m e.0 (sym last_there ∙ ap (slice_get es) (sym (eqb-true r.place gap.last l)) ∙ e.1) in
                absurd (differ q m.1 t (sym e.2 ∙ ap (λ (x : Entry). x.1) (sym one)))
            at false l = ap (λ b. cond b s.place r.place) (sym l)

        by : (b : Bool) → (q == m.1) ≡ b → slot_at next q ≡ option_map (moves gap.last s.place) (slot_at slots q)
        by true t =
            let one = eqb-true q m.1 t in
            ap (slot_at next) one ∙ put.changed ∙ ap (λ (r : Slot). Some (record { place = s.place; count = r.count })) (sym same_slot)
            ∙ ap (λ p. Some (record { place = p; count = h.0.count })) (sym (lands refl))
            ∙ ap (option_map (moves gap.last s.place)) (sym h.2)
            ∙ ap (λ q. option_map (moves gap.last s.place) (slot_at slots q)) (sym one)
        by false t = put.others q (differ q m.1 t) ∙ up.others q d ∙ stays (slot_at slots q) refl t

    pub sound-moved : IsSound fs next
    sound-moved = sound-less es fs slots next n s sound is gap gone others

    pub texts-moved : as_texts fs next ≡ remove (as_texts es slots) n
    texts-moved = texts-less es fs slots next n s sound is gap gone others
