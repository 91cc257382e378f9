-- What maps from numbers to texts answer, and how many ids they hold.
use Rattle.std.proofs.Common.{◌≡◌, ℕ, ◌+◌, ◌-◌, ◌<◌, ◌≤◌, Bool, true, false, cond, ◌==◌, ◌&&◌, nat_lt, List, [], ◌∷◌, length, Option, Some, None, refl, sym, ap, subst, ◌∙◌, true≢false, arith}
use Rattle.std.proofs.lemmas.Bool.{eqb-true, eq-eqb, ltb-true, ltb-false, lt-ltb, le-ltb}
use Rattle.std.proofs.lemmas.Cmp.{nat_cmp_total}
use Rattle.std.proofs.lemmas.List.Sums.{sum_by-cons}
use Rattle.std.specs.Prelude.{T}
use Rattle.std.specs.Cmp.{unsigned_tied}
use Rattle.std.specs.declared.cmp.Ordering.{Ordering}
use Rattle.std.specs.declared.cmp.Ordering.TheVariants.{Less, Equal, Greater}
use Rattle.std.specs.Ordering.{is_lt, is_eq, nat_cmp}
use Rattle.std.specs.List.{sum_by}
use Rattle.std.specs.Option.{option_map_or}
use Rattle.std.specs.FinMap.{empty, entries, entries-insert, entries_sorted, find, get, get-empty, get-entries, get-insert, get-remove, insert, is_sorted, len-empty, len-entries, nat_cmp-IsAntisymmetric, put, remove, same_map}
use Rattle.std.specs.FinMap.Entries.{below_all, by_order}
use Rattle.text_pool.specs.Texts.{Texts, HeldText, bytes_of, count_of, held_ids, with_id, without_id, IsHeld, HaveOneNumber, IsNumberOf, KeepBytes}

pub equal_numbers : (a b : ℕ) → (a == b) ≡ true → a ≡ b
equal_numbers a b h = eqb-true a b h

pub itself : (a : ℕ) → (a == a) ≡ true
itself a = eq-eqb a a refl

pub differ : (a b : ℕ) → (a == b) ≡ false → a ≡ b → ⊥
differ a b h e = true≢false (sym (eq-eqb a b e) ∙ h)

-- maps that answer alike are one
pub same : (m n : Texts) → ((q : ℕ) → get m q ≡ get n q) → m ≡ n
same m n h = same_map nat_cmp_total nat_cmp-IsAntisymmetric m n h

pub get-with : (m : Texts) (k : ℕ) (t : HeldText) (q : ℕ) → get (insert m k t) q ≡ cond (q == k) (Some t) (get m q)
get-with m k t q = get-insert nat_cmp_total m k t q ∙ ap (λ b. cond b (Some t) (get m q)) (unsigned_tied q k)

pub get-less : (m : Texts) (k q : ℕ) → get (remove m k) q ≡ cond (q == k) None (get m q)
get-less m k q = get-remove nat_cmp_total m k q ∙ ap (λ b. cond b None (get m q)) (unsigned_tied q k)

-- ---- how many ids are held

abbrev Held : Type 0
Held = ℕ × HeldText

abbrev total : List Held → ℕ
total es = sum_by (λ e. e.1.count) es

abbrev count_in : Option HeldText → ℕ
count_in t = option_map_or (λ t. t.count) t 0

front_of : (a b : Bool) → T (a && b) → T a
front_of true b p = tt
front_of false b p = absurd p

back_of : (a b : Bool) → T (a && b) → T b
back_of true b p = p
back_of false b p = absurd p

less : (r : Ordering) → T (is_lt r) → r ≡ Less
less Less p = refl
less Equal p = absurd p
less Greater p = absurd p

-- a number below all others stands nowhere
find_below : (k : ℕ) (es : List Held) → T (below_all nat_cmp k es) → find nat_cmp k es ≡ None
find_below k [] h = refl
find_below k (e ∷ es) h = ap (λ r. cond (is_eq r) (Some e.1) (find nat_cmp k es)) (less _ (front_of _ _ h)) ∙ find_below k es (back_of _ _ h)

below_less : (x y : ℕ) (es : List Held) → nat_cmp x y ≡ Less → T (below_all nat_cmp y es) → T (below_all nat_cmp x es)
below_less x y [] p h = tt
below_less x y (e ∷ es) p h = join _ _ (subst (λ r. T (is_lt r)) (sym (nat_cmp_total.trans x y e.0 p (less _ (front_of _ _ h)))) tt) (below_less x y es p (back_of _ _ h))
  where
    join : (a b : Bool) → T a → T b → T (a && b)
    join true b p q = q
    join false b p q = p

total-cons : (e : Held) (es : List Held) → total (e ∷ es) ≡ e.1.count + total es
total-cons e es = sum_by-cons (λ (e : Held). e.1.count) e es

total-put : (k : ℕ) (t : HeldText) (es : List Held) → T (is_sorted nat_cmp es) → total (put nat_cmp k t es) + count_in (find nat_cmp k es) ≡ total es + t.count
total-put k t [] h = let one = total-cons (k, t) [] in omega (arith, one)
total-put k t (e ∷ es) h =
    elim (nat_cmp k e.0) as (λ r. nat_cmp k e.0 ≡ r → total (by_order r ((k, t) ∷ e ∷ es) ((e.0, t) ∷ es) (e ∷ put nat_cmp k t es)) + count_in (cond (is_eq r) (Some e.1) (find nat_cmp k es)) ≡ total (e ∷ es) + t.count) [
      | Less ↦ λ p.
          let none : find nat_cmp k es ≡ None = find_below k es (below_less k e.0 es p (front_of _ _ h)) in
          let zero_there : count_in (find nat_cmp k es) ≡ 0 = ap count_in none in
          omega (arith, total-cons (k, t) (e ∷ es), zero_there)
      | Equal ↦ λ p. omega (arith, total-cons (e.0, t) es, total-cons e es)
      | Greater ↦ λ p. omega (arith, total-cons e (put nat_cmp k t es), total-cons e es, total-put k t es (back_of _ _ h))
    ] refl

held_ids-insert : (m : Texts) (k : ℕ) (t : HeldText) → held_ids (insert m k t) + count_of m k ≡ held_ids m + t.count
held_ids-insert m k t =
    ap (λ (n : ℕ). n + count_of m k) (ap total (entries-insert nat_cmp_total m k t))
    ∙ ap (λ (n : ℕ). total (put nat_cmp k t (entries m)) + n) (ap count_in (get-entries m k))
    ∙ total-put k t (entries m) (entries_sorted m)

at_removed : (m : Texts) (k : ℕ) (t : HeldText) → get m k ≡ Some t → insert (remove m k) k t ≡ m
at_removed m k t is = same _ _ (λ q. get-with (remove m k) k t q ∙ ap (cond (q == k) (Some t)) (get-less m k q) ∙ by q (q == k) refl)
  where
    by : (q : ℕ) (b : Bool) → (q == k) ≡ b → cond b (Some t) (cond b None (get m q)) ≡ get m q
    by q true e = sym is ∙ ap (get m) (sym (equal_numbers q k e))
    by q false e = refl

get_removed : (m : Texts) (k : ℕ) → get (remove m k) k ≡ None
get_removed m k = get-less m k k ∙ ap (λ (b : Bool). cond b None (get m k)) (itself k)

held_ids-remove : (m : Texts) (k : ℕ) → held_ids (remove m k) + count_of m k ≡ held_ids m
held_ids-remove m k = by (get m k) refl
  where
    by : (there : Option HeldText) → get m k ≡ there → held_ids (remove m k) + count_of m k ≡ held_ids m
    by None is =
        let same : remove m k ≡ m = same _ _ (λ q. get-less m k q ∙ kept q (q == k) refl) in
        let zero_there : count_of m k ≡ 0 = ap count_in is in
        let ids : held_ids (remove m k) ≡ held_ids m = ap held_ids same in
        omega (arith, zero_there, ids)
      where
        kept : (q : ℕ) (b : Bool) → (q == k) ≡ b → cond b None (get m q) ≡ get m q
        kept q true e = sym is ∙ ap (get m) (sym (equal_numbers q k e))
        kept q false e = refl
    by (Some t) is =
        let again : held_ids (insert (remove m k) k t) ≡ held_ids m = ap held_ids (at_removed m k t is) in
        let zero_there : count_of (remove m k) k ≡ 0 = ap count_in (get_removed m k) in
        let there : count_of m k ≡ t.count = ap count_in is in
        omega (arith, again, zero_there, there, held_ids-insert (remove m k) k t)

pub count_of-le : (m : Texts) (k : ℕ) → count_of m k ≤ held_ids m
count_of-le m k = omega (arith, held_ids-remove m k)

nothing : {X : Type 0} (xs : List X) → length xs ≡ 0 → xs ≡ []
nothing [] h = refl
nothing (x ∷ xs) h = absurd (omega (arith, h))

pub held_ids-empty : held_ids empty ≡ 0
held_ids-empty = ap total (nothing (entries empty) (sym (len-entries empty) ∙ len-empty nat_cmp HeldText))

pub held_ids-with : (m : Texts) (k : ℕ) (bytes : List ℕ) → held_ids (with_id m k bytes) ≡ held_ids m + 1
held_ids-with m k bytes = omega (arith, held_ids-insert m k (record { bytes = bytes; count = count_of m k + 1 }))

pub held_ids-without : (m : Texts) (k : ℕ) → IsHeld m k → held_ids (without_id m k) + 1 ≡ held_ids m
held_ids-without m k held = by (nat_lt 1 (count_of m k)) refl
  where
    by : (b : Bool) → nat_lt 1 (count_of m k) ≡ b → held_ids (cond b (insert m k (record { bytes = bytes_of m k; count = count_of m k - 1 })) (remove m k)) + 1 ≡ held_ids m
    by true e = omega (arith, ltb-true 1 (count_of m k) e, held_ids-insert m k (record { bytes = bytes_of m k; count = count_of m k - 1 }))
    by false e = omega (arith, ltb-false 1 (count_of m k) e, held, held_ids-remove m k)

pub without_more : (m : Texts) (k : ℕ) → 1 < count_of m k → without_id m k ≡ insert m k (record { bytes = bytes_of m k; count = count_of m k - 1 })
without_more m k l = ap (λ b. cond b (insert m k (record { bytes = bytes_of m k; count = count_of m k - 1 })) (remove m k)) (lt-ltb 1 (count_of m k) l)

pub without_last : (m : Texts) (k : ℕ) → count_of m k ≤ 1 → without_id m k ≡ remove m k
without_last m k l = ap (λ b. cond b (insert m k (record { bytes = bytes_of m k; count = count_of m k - 1 })) (remove m k)) (le-ltb 1 (count_of m k) l)

-- ---- numbers and their texts

abbrev bytes_in : Option HeldText → List ℕ
bytes_in t = option_map_or (λ t. t.bytes) t []

pub count-empty : (q : ℕ) → count_of empty q ≡ 0
count-empty q = ap count_in (get-empty nat_cmp q)

held-empty : (q : ℕ) → IsHeld empty q → ⊥
held-empty q h = let none = count-empty q in omega (arith, none, h)

-- what a number has in a map where one number was set
module _ (m : Texts) (k : ℕ) (t : HeldText) where
  pub count-set : (q : ℕ) → (q ≡ k → ⊥) → count_of (insert m k t) q ≡ count_of m q
  count-set q n = ap count_in (get-with m k t q ∙ by (q == k) refl)
    where
      by : (b : Bool) → (q == k) ≡ b → cond b (Some t) (get m q) ≡ get m q
      by true e = absurd (n (equal_numbers q k e))
      by false e = refl

  pub bytes-set : (q : ℕ) → (q ≡ k → ⊥) → bytes_of (insert m k t) q ≡ bytes_of m q
  bytes-set q n = ap bytes_in (get-with m k t q ∙ by (q == k) refl)
    where
      by : (b : Bool) → (q == k) ≡ b → cond b (Some t) (get m q) ≡ get m q
      by true e = absurd (n (equal_numbers q k e))
      by false e = refl

  pub bytes-there : bytes_of (insert m k t) k ≡ t.bytes
  bytes-there = ap bytes_in (get-with m k t k ∙ ap (λ b. cond b (Some t) (get m k)) (itself k))

  pub count-there : count_of (insert m k t) k ≡ t.count
  count-there = ap count_in (get-with m k t k ∙ ap (λ b. cond b (Some t) (get m k)) (itself k))

  -- a number that no other shares its text with joins the others
  pub one-set : HaveOneNumber m → ((q : ℕ) → (q ≡ k → ⊥) → IsHeld m q → bytes_of m q ≡ t.bytes → ⊥) → HaveOneNumber (insert m k t)
  one-set one other a b ha hb e = by (a == k) (b == k) refl refl
    where
      there : (q : ℕ) → (q == k) ≡ true → bytes_of (insert m k t) q ≡ t.bytes
      there q f = ap (bytes_of (insert m k t)) (equal_numbers q k f) ∙ bytes-there

      held : (q : ℕ) → (q == k) ≡ false → IsHeld (insert m k t) q → IsHeld m q
      held q f h = let stays = count-set q (differ q k f) in omega (arith, stays, h)

      by : (x y : Bool) → (a == k) ≡ x → (b == k) ≡ y → a ≡ b
      by true true f g = equal_numbers a k f ∙ sym (equal_numbers b k g)
      by true false f g = absurd (other b (differ b k g) (held b g hb) (sym (bytes-set b (differ b k g)) ∙ sym e ∙ there a f))
      by false true f g = absurd (other a (differ a k f) (held a f ha) (sym (bytes-set a (differ a k f)) ∙ e ∙ there b g))
      by false false f g = one a b (held a f ha) (held b g hb) (sym (bytes-set a (differ a k f)) ∙ e ∙ bytes-set b (differ b k g))

pub one-empty : HaveOneNumber empty
one-empty a b h _ _ = absurd (held-empty a h)

pub one-with : (m : Texts) (k : ℕ) (bytes : List ℕ) → HaveOneNumber m → IsNumberOf m bytes k → HaveOneNumber (with_id m k bytes)
one-with m k bytes one is = one-set m k (record { bytes = bytes; count = count_of m k + 1 }) one (λ q n h e. n (sym ((is q h).1 e)))

-- what is held where a number was removed was held before, with the same text
module _ (m : Texts) (k q : ℕ) (h : IsHeld (remove m k) q) where
  found_before : get (remove m k) q ≡ get m q
  found_before = by (q == k) refl
    where
      by : (x : Bool) → (q == k) ≡ x → get (remove m k) q ≡ get m q
      by true f =
          let gone : count_of (remove m k) q ≡ 0 = ap count_in (get-less m k q ∙ ap (λ b. cond b None (get m q)) f) in
          absurd (omega (arith, gone, h))
      by false f = get-less m k q ∙ ap (λ b. cond b None (get m q)) f

  held_before : IsHeld m q
  held_before = let stays : count_of (remove m k) q ≡ count_of m q = ap count_in found_before in omega (arith, stays, h)

  bytes_before : bytes_of (remove m k) q ≡ bytes_of m q
  bytes_before = ap bytes_in found_before

one-remove : (m : Texts) (k : ℕ) → HaveOneNumber m → HaveOneNumber (remove m k)
one-remove m k one a b ha hb e = one a b (held_before m k a ha) (held_before m k b hb) (sym (bytes_before m k a ha) ∙ e ∙ bytes_before m k b hb)

pub one-without : (m : Texts) (k : ℕ) → IsHeld m k → HaveOneNumber m → HaveOneNumber (without_id m k)
one-without m k held one = by (nat_lt 1 (count_of m k))
  where
    by : (b : Bool) → HaveOneNumber (cond b (insert m k (record { bytes = bytes_of m k; count = count_of m k - 1 })) (remove m k))
    by true = one-set m k (record { bytes = bytes_of m k; count = count_of m k - 1 }) one (λ q n h e. n (one q k h held e))
    by false = one-remove m k one

-- a number that is held is that of its own bytes
pub own_number : (m : Texts) (k : ℕ) → HaveOneNumber m → IsHeld m k → IsNumberOf m (bytes_of m k) k
own_number m k one held q h = (λ e. ap (bytes_of m) (sym e), λ e. one k q held h (sym e))

-- ---- what one more id, or one less, leaves

pub held-with : (m : Texts) (k : ℕ) (bytes : List ℕ) → IsHeld (with_id m k bytes) k
held-with m k bytes = let there = count-there m k (record { bytes = bytes; count = count_of m k + 1 }) in omega (arith, there)

pub keep-with : (m : Texts) (k : ℕ) (bytes : List ℕ) → IsNumberOf m bytes k → KeepBytes m (with_id m k bytes)
keep-with m k bytes is q old new = by (q == k) refl
  where
    by : (b : Bool) → (q == k) ≡ b → bytes_of (with_id m k bytes) q ≡ bytes_of m q
    by true e = let one = equal_numbers q k e in ap (bytes_of (with_id m k bytes)) one ∙ bytes-there m k (record { bytes = bytes; count = count_of m k + 1 }) ∙ sym ((is q old).0 (sym one))
    by false e = bytes-set m k (record { bytes = bytes; count = count_of m k + 1 }) q (differ q k e)

pub keep-without : (m : Texts) (k : ℕ) → KeepBytes m (without_id m k)
keep-without m k q old = by (nat_lt 1 (count_of m k))
  where
    at : (b : Bool) → (q == k) ≡ b → bytes_of (insert m k (record { bytes = bytes_of m k; count = count_of m k - 1 })) q ≡ bytes_of m q
    at true e =
        let one = equal_numbers q k e in
        ap (bytes_of (insert m k (record { bytes = bytes_of m k; count = count_of m k - 1 }))) one ∙ bytes-there m k (record { bytes = bytes_of m k; count = count_of m k - 1 }) ∙ ap (bytes_of m) (sym one)
    at false e = bytes-set m k (record { bytes = bytes_of m k; count = count_of m k - 1 }) q (differ q k e)

    by : (b : Bool) → IsHeld (cond b (insert m k (record { bytes = bytes_of m k; count = count_of m k - 1 })) (remove m k)) q
        → bytes_of (cond b (insert m k (record { bytes = bytes_of m k; count = count_of m k - 1 })) (remove m k)) q ≡ bytes_of m q
    by true new = at (q == k) refl
    by false new = bytes_before m k q new

-- how many ids of each number there are then
pub count-with : (m : Texts) (k : ℕ) (bytes : List ℕ) (q : ℕ) → count_of (with_id m k bytes) q ≡ count_of m q + cond (q == k) 1 0
count-with m k bytes q = by (q == k) refl
  where
    by : (b : Bool) → (q == k) ≡ b → count_of (with_id m k bytes) q ≡ count_of m q + cond b 1 0
    by true e =
        let one = equal_numbers q k e in
        ap (count_of (with_id m k bytes)) one ∙ count-there m k (record { bytes = bytes; count = count_of m k + 1 }) ∙ ap (λ n. count_of m n + 1) (sym one)
    by false e = let stays = count-set m k (record { bytes = bytes; count = count_of m k + 1 }) q (differ q k e) in omega (arith, stays)

pub count-without : (m : Texts) (k q : ℕ) → IsHeld m k → count_of (without_id m k) q + cond (q == k) 1 0 ≡ count_of m q
count-without m k q held = by (nat_lt 1 (count_of m k)) refl (q == k) refl
  where
    by : (b : Bool) → nat_lt 1 (count_of m k) ≡ b → (s : Bool) → (q == k) ≡ s
        → count_of (cond b (insert m k (record { bytes = bytes_of m k; count = count_of m k - 1 })) (remove m k)) q + cond s 1 0 ≡ count_of m q
    by true more true e =
        let one = equal_numbers q k e in
        let there : count_of (insert m k (record { bytes = bytes_of m k; count = count_of m k - 1 })) q ≡ count_of m k - 1 =
        ap (count_of (insert m k (record { bytes = bytes_of m k; count = count_of m k - 1 }))) one ∙ count-there m k (record { bytes = bytes_of m k; count = count_of m k - 1 })
        in
        let same : count_of m q ≡ count_of m k = ap (count_of m) one in
        omega (arith, there, same, held)
    by true more false e = let stays = count-set m k (record { bytes = bytes_of m k; count = count_of m k - 1 }) q (differ q k e) in omega (arith, stays)
    by false last true e =
        let one = equal_numbers q k e in
        let gone : count_of (remove m k) q ≡ 0 = ap count_in (get-less m k q ∙ ap (λ b. cond b None (get m q)) e) in
        let same : count_of m q ≡ count_of m k = ap (count_of m) one in
        omega (arith, gone, same, held, ltb-false 1 (count_of m k) last)
    by false last false e =
        let stays : count_of (remove m k) q ≡ count_of m q = ap count_in (get-less m k q ∙ ap (λ b. cond b None (get m q)) e) in
        omega (arith, stays)
