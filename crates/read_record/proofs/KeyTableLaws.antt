-- How a table of keys changes: what stands at each number, and that each key leads to a number of its own.
use Rattle.std.proofs.Common.{◌≡◌, ◌≢◌, ℕ, zero, suc, ◌+◌, ◌<◌, ◌≤◌, ◌==◌, ◌⊎◌, inl, inr, Bool, true, false, cond, List, [], ◌∷◌, map, Option, Some, None, IsSome, is_some, option_map, slice_index_or, refl, sym, ap, subst, ◌∙◌, true≢false, arith}
use Rattle.std.proofs.lemmas.Bool.{eqb-true, eq-eqb, cases_eq}
use Rattle.std.specs.Map.{lookup}
use Rattle.std.specs.Option.{option_map_or}
use Rattle.slab.specs.Slab.{Slab, Updates, get}
use Rattle.read_record.specs.declared.key.Key.{Key}
use Rattle.read_record.specs.declared.key.Key.TheVariants.{Moment}
use Rattle.read_record.specs.declared.key_table.KeySlot.{KeySlot}
use Rattle.read_record.specs.declared.shared_key.TableKey.{TableKey}
use Rattle.read_record.specs.Keys.{same_key}
use Rattle.read_record.specs.SameKeys.{same_key-eq, same_key-refl}
use Rattle.read_record.specs.Stores.{HeldKey, key_of, uses_of, held_keys, IsAt, IsThere, HoldsMore}
use Rattle.read_record.specs.TableKeys.{key_in, same_table_key}
use Rattle.read_record.specs.KeyLayout.{held_in, as_keys, LeadsRight}

pub some_inj : {X : Type 0} (x y : X) → Some x ≡ Some y → x ≡ y
some_inj x y h = cc

-- what stands at a number
pub at-number : (slots : Slab KeySlot) (q : ℕ) → slice_index_or (as_keys slots) q None ≡ option_map held_in (get slots q)
at-number slots q = go slots.slots q
  where
    go : (xs : List (Option KeySlot)) (q : ℕ) → slice_index_or (map (option_map held_in) xs) q None ≡ option_map held_in (slice_index_or xs q None)
    go [] q = refl
    go (x ∷ xs) zero = refl
    go (x ∷ xs) (suc q) = go xs q

abbrev count_in : Option KeySlot → ℕ
count_in slot = option_map_or (λ (s : KeySlot). s.count) slot 0

pub uses-at : (slots : Slab KeySlot) (q : ℕ) → uses_of (as_keys slots) q ≡ count_in (get slots q)
uses-at slots q = ap (λ (o : Option HeldKey). option_map_or (λ h. h.count) o 0) (at-number slots q) ∙ by (get slots q)
  where
    by : (o : Option KeySlot) → option_map_or (λ (h : HeldKey). h.count) (option_map held_in o) 0 ≡ count_in o
    by None = refl
    by (Some s) = refl

pub key-at-number : (slots : Slab KeySlot) (q : ℕ) (s : KeySlot) → get slots q ≡ Some s → key_of (as_keys slots) q ≡ s.key
key-at-number slots q s is = ap (λ (o : Option HeldKey). option_map_or (λ h. h.key) o Moment) (at-number slots q ∙ ap (option_map held_in) is)

pub uses-in : (slots : Slab KeySlot) (q : ℕ) (s : KeySlot) → get slots q ≡ Some s → uses_of (as_keys slots) q ≡ s.count
uses-in slots q s is = uses-at slots q ∙ ap count_in is

-- a number that is held has a slot
pub slot-held : (slots : Slab KeySlot) (q : ℕ) → 0 < uses_of (as_keys slots) q → IsSome (get slots q)
slot-held slots q held = by (get slots q) refl
  where
    by : (o : Option KeySlot) → get slots q ≡ o → IsSome o
    by (Some s) is = refl
    by None is = let none : uses_of (as_keys slots) q ≡ 0 = uses-at slots q ∙ ap count_in is in absurd (omega (arith, held, none))

pub slot-there : (slots : Slab KeySlot) (q : ℕ) → IsThere (as_keys slots) q → IsSome (get slots q)
slot-there slots q there = by (get slots q) (sym (ap is_some (at-number slots q)) ∙ there)
  where
    by : (o : Option KeySlot) → is_some (option_map held_in o) ≡ true → IsSome o
    by (Some s) is = refl
    by None is = is

-- ---- slots that change

module _ (a b : Slab KeySlot) (n : ℕ) where
  -- one read more, of a key that is there or new
  pub one_key_more : (s : KeySlot) → Updates a b n (Some s) → s.count ≡ count_in (get a n) + 1 → ((t : KeySlot) → get a n ≡ Some t → t.key ≡ s.key)
      → HoldsMore (held_keys (as_keys a)) (held_keys (as_keys b)) (n ∷ [])
  one_key_more s up count same = record { counts = λ q. counts q (q == n) refl; same = λ q old new. kept q old (q == n) refl }
    where
      differ : (q : ℕ) → (q == n) ≡ false → q ≢ n
      differ q e is = true≢false (sym (eq-eqb q n is) ∙ e)

      counts : (q : ℕ) (t : Bool) → (q == n) ≡ t → uses_of (as_keys b) q ≡ uses_of (as_keys a) q + (cond t 1 0 + 0)
      counts q true e =
          let here : q ≡ n = eqb-true q n e in
          let new : uses_of (as_keys b) q ≡ s.count = ap (uses_of (as_keys b)) here ∙ uses-at b n ∙ ap count_in up.changed in
          let old : uses_of (as_keys a) q ≡ count_in (get a n) = ap (uses_of (as_keys a)) here ∙ uses-at a n in
          omega (arith, new, old, count)
      counts q false e =
          let stays : uses_of (as_keys b) q ≡ uses_of (as_keys a) q = uses-at b q ∙ ap count_in (up.others q (differ q e)) ∙ sym (uses-at a q) in
          omega (arith, stays)

      kept : (q : ℕ) → 0 < uses_of (as_keys a) q → (t : Bool) → (q == n) ≡ t → key_of (as_keys b) q ≡ key_of (as_keys a) q
      kept q held true e =
          let here : q ≡ n = eqb-true q n e in
          subst (λ m. key_of (as_keys b) m ≡ key_of (as_keys a) m) (sym here) (here_kept (get a n) refl (subst (λ m. 0 < uses_of (as_keys a) m) here held))
        where
          here_kept : (o : Option KeySlot) → get a n ≡ o → 0 < uses_of (as_keys a) n → key_of (as_keys b) n ≡ key_of (as_keys a) n
          here_kept None is held = let none : uses_of (as_keys a) n ≡ 0 = uses-at a n ∙ ap count_in is in absurd (omega (arith, held, none))
          here_kept (Some t) is held = key-at-number b n s up.changed ∙ sym (same t is) ∙ sym (key-at-number a n t is)
      kept q held false e =
          ap (λ (o : Option HeldKey). option_map_or (λ h. h.key) o Moment) (at-number b q ∙ ap (option_map held_in) (up.others q (differ q e)) ∙ sym (at-number a q))

  pub key_there : (s : KeySlot) → Updates a b n (Some s) → key_of (as_keys b) n ≡ s.key
  key_there s up = key-at-number b n s up.changed

  -- the last read less
  pub one_key_less : (t : KeySlot) → get a n ≡ Some t → t.count ≤ 1 → 0 < t.count → Updates a b n None → HoldsMore (held_keys (as_keys b)) (held_keys (as_keys a)) (n ∷ [])
  one_key_less t is one held up = record { counts = λ q. counts q (q == n) refl; same = λ q new old. kept q new (q == n) refl }
    where
      differ : (q : ℕ) → (q == n) ≡ false → q ≢ n
      differ q e is = true≢false (sym (eq-eqb q n is) ∙ e)

      gone : (q : ℕ) → (q == n) ≡ true → uses_of (as_keys b) q ≡ 0
      gone q e = ap (uses_of (as_keys b)) (eqb-true q n e) ∙ uses-at b n ∙ ap count_in up.changed

      counts : (q : ℕ) (t : Bool) → (q == n) ≡ t → uses_of (as_keys a) q ≡ uses_of (as_keys b) q + (cond t 1 0 + 0)
      counts q true e =
          let here : uses_of (as_keys a) q ≡ t.count = ap (uses_of (as_keys a)) (eqb-true q n e) ∙ uses-at a n ∙ ap count_in is in
          let none = gone q e in
          omega (arith, here, none, one, held)
      counts q false e =
          let stays : uses_of (as_keys b) q ≡ uses_of (as_keys a) q = uses-at b q ∙ ap count_in (up.others q (differ q e)) ∙ sym (uses-at a q) in
          omega (arith, stays)

      kept : (q : ℕ) → 0 < uses_of (as_keys b) q → (t : Bool) → (q == n) ≡ t → key_of (as_keys a) q ≡ key_of (as_keys b) q
      kept q new true e = let none = gone q e in absurd (omega (arith, new, none))
      kept q new false e =
          sym (ap (λ (o : Option HeldKey). option_map_or (λ h. h.key) o Moment) (at-number b q ∙ ap (option_map held_in) (up.others q (differ q e)) ∙ sym (at-number a q)))

-- the same, by the slots as they were
pub counted_up : (a b : Slab KeySlot) (n : ℕ) (t s : KeySlot) → get a n ≡ Some t → Updates a b n (Some s) → s.key ≡ t.key → s.count ≡ t.count + 1 → HoldsMore (held_keys (as_keys a)) (held_keys (as_keys b)) (n ∷ [])
counted_up a b n t s is up key count =
    one_key_more a b n s up (count ∙ ap (λ m. m + 1) (sym (ap count_in is))) (λ u at. let one : t ≡ u = some_inj t u (sym is ∙ at) in ap (λ (v : KeySlot). v.key) (sym one) ∙ sym key)

pub counted_down : (a b : Slab KeySlot) (n : ℕ) (t s : KeySlot) → get a n ≡ Some t → Updates a b n (Some s) → s.key ≡ t.key → t.count ≡ s.count + 1 → HoldsMore (held_keys (as_keys b)) (held_keys (as_keys a)) (n ∷ [])
counted_down a b n t s is up key count =
    counted_up b a n s t up.changed (record { changed = is; others = λ q differs. sym (up.others q differs) }) (sym key) count

pub added_first : (a b : Slab KeySlot) (n : ℕ) (s : KeySlot) → get a n ≡ None → Updates a b n (Some s) → s.count ≡ 1 → HoldsMore (held_keys (as_keys a)) (held_keys (as_keys b)) (n ∷ [])
added_first a b n s free up count =
    one_key_more a b n s up (count ∙ ap (λ m. m + 1) (sym (ap count_in free))) (λ t at. let none : None ≡ Some t = sym free ∙ at in cc)

pub last_gone : (a b : Slab KeySlot) (n : ℕ) (t : KeySlot) → get a n ≡ Some t → t.count ≡ 1 → Updates a b n None → HoldsMore (held_keys (as_keys b)) (held_keys (as_keys a)) (n ∷ [])
last_gone a b n t is one up = one_key_less a b n t is (omega (arith, one)) (omega (arith, one)) up

-- room was made before
pub updates_from : (a b c : Slab KeySlot) (n : ℕ) (slot : Option KeySlot) → b.slots ≡ a.slots → Updates b c n slot → Updates a c n slot
updates_from a b c n slot same up = record { changed = up.changed; others = λ q differs. up.others q differs ∙ ap (λ slots. slice_index_or slots q None) same }

pub at_first : (a b : Slab KeySlot) (n : ℕ) → b.slots ≡ a.slots → get b n ≡ None → get a n ≡ None
at_first a b n same none = sym (ap (λ slots. slice_index_or slots n None) same) ∙ none

-- ---- where keys lead

abbrev key_at : Slab KeySlot → ℕ → Option Key
key_at slots number = option_map (λ (slot : KeySlot). slot.key) (get slots number)

-- what a key finds has this key
pub found-at : (es : List (TableKey × ℕ)) (slots : Slab KeySlot) (asked : TableKey) (n : ℕ) → LeadsRight es slots → lookup (same_table_key asked) es ≡ Some n → IsAt (as_keys slots) n (key_in asked)
found-at es slots asked n right found = by (get slots n) refl (right asked n found)
  where
    by : (o : Option KeySlot) → get slots n ≡ o → option_map (λ (slot : KeySlot). slot.key) (get slots n) ≡ Some (key_in asked) → IsAt (as_keys slots) n (key_in asked)
    by None is leads = let none : None ≡ Some (key_in asked) = sym (ap (option_map (λ (slot : KeySlot). slot.key)) is) ∙ leads in cc
    by (Some s) is leads =
        let key : s.key ≡ key_in asked = some_inj s.key (key_in asked) (sym (ap (option_map (λ (slot : KeySlot). slot.key)) is) ∙ leads) in
        (ap is_some (at-number slots n ∙ ap (option_map held_in) is), key-at-number slots n s is ∙ key)

pub leads-none : (slots : Slab KeySlot) → LeadsRight [] slots
leads-none slots asked number found = cc

-- a slot keeps its key
pub leads-counted : (es : List (TableKey × ℕ)) (a b : Slab KeySlot) (n : ℕ) (s t : KeySlot) → LeadsRight es a → get a n ≡ Some t → Updates a b n (Some s) → s.key ≡ t.key → LeadsRight es b
leads-counted es a b n s t right is up same asked m found = by (cases_eq m n)
  where
    by : (m ≡ n) ⊎ (m ≢ n) → key_at b m ≡ Some (key_in asked)
    by (inl e) = ap (key_at b) e ∙ ap (option_map (λ (slot : KeySlot). slot.key)) up.changed ∙ ap Some same ∙ sym (ap (option_map (λ (slot : KeySlot). slot.key)) is) ∙ sym (ap (key_at a) e) ∙ right asked m found
    by (inr e) = ap (option_map (λ (slot : KeySlot). slot.key)) (up.others m e) ∙ right asked m found

-- a key that is new leads to its slot
pub leads-added : (es fs : List (TableKey × ℕ)) (a b : Slab KeySlot) (n : ℕ) (s : KeySlot) (key : TableKey) → LeadsRight es a → get a n ≡ None → Updates a b n (Some s) → s.key ≡ key_in key
    → ((k : TableKey) → lookup (same_table_key k) fs ≡ cond (same_table_key key k) (Some n) (lookup (same_table_key k) es)) → LeadsRight fs b
leads-added es fs a b n s key right free up is new asked m found = by (same_table_key key asked) refl (sym (new asked) ∙ found)
  where
    by : (t : Bool) → same_table_key key asked ≡ t → cond t (Some n) (lookup (same_table_key asked) es) ≡ Some m → key_at b m ≡ Some (key_in asked)
    by true e f =
        let here : m ≡ n = sym (some_inj n m f) in
        let same : key_in key ≡ key_in asked = same_key-eq (key_in key) (key_in asked) e in
        ap (key_at b) here ∙ ap (option_map (λ (slot : KeySlot). slot.key)) up.changed ∙ ap Some (is ∙ same)
    by false e f = beside (cases_eq m n)
      where
        beside : (m ≡ n) ⊎ (m ≢ n) → key_at b m ≡ Some (key_in asked)
        beside (inl here) = let none : None ≡ Some (key_in asked) = sym (ap (option_map (λ (slot : KeySlot). slot.key)) (ap (get a) here ∙ free)) ∙ right asked m f in cc
        beside (inr other) = ap (option_map (λ (slot : KeySlot). slot.key)) (up.others m other) ∙ right asked m f

-- a key that goes leaves the others
pub leads-removed : (es fs : List (TableKey × ℕ)) (a b : Slab KeySlot) (n : ℕ) (t : KeySlot) (gone : Key) → LeadsRight es a → get a n ≡ Some t → gone ≡ t.key → Updates a b n None
    → ((k : TableKey) (m : ℕ) → lookup (same_table_key k) fs ≡ Some m → (key_in k ≢ gone) × (lookup (same_table_key k) es ≡ Some m)) → LeadsRight fs b
leads-removed es fs a b n t gone right is that up left asked m found = by (cases_eq m n)
  where
    stays : (key_in asked ≢ gone) × (lookup (same_table_key asked) es ≡ Some m)
    stays = left asked m found

    by : (m ≡ n) ⊎ (m ≢ n) → key_at b m ≡ Some (key_in asked)
    by (inl here) =
        let key : Some t.key ≡ Some (key_in asked) = sym (ap (option_map (λ (slot : KeySlot). slot.key)) (ap (get a) here ∙ is)) ∙ right asked m stays.1 in
        absurd (stays.0 (sym (that ∙ some_inj t.key (key_in asked) key)))
    by (inr other) = ap (option_map (λ (slot : KeySlot). slot.key)) (up.others m other) ∙ right asked m stays.1

-- where the entries of one key are taken out, what is found was found before, and is of another key
pub left-after : (es fs : List (TableKey × ℕ)) (gone : Key) → ((k : TableKey) → lookup (same_table_key k) fs ≡ cond (same_key gone (key_in k)) None (lookup (same_table_key k) es))
    → (k : TableKey) (m : ℕ) → lookup (same_table_key k) fs ≡ Some m → (key_in k ≢ gone) × (lookup (same_table_key k) es ≡ Some m)
left-after es fs gone new k m found = by (same_key gone (key_in k)) refl (sym (new k) ∙ found)
  where
    by : (t : Bool) → same_key gone (key_in k) ≡ t → cond t None (lookup (same_table_key k) es) ≡ Some m → (key_in k ≢ gone) × (lookup (same_table_key k) es ≡ Some m)
    by true e f = cc
    by false e f = ((λ is. true≢false (sym (ap (same_key gone) is ∙ same_key-refl gone) ∙ e)), f)
