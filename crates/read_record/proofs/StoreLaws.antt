-- What stores hold: reads that are added and given back, and what numbers then stand for.
use Rattle.std.proofs.Common.{◌≡◌, ℕ, zero, suc, ◌+◌, ◌<◌, ◌==◌, Bool, true, cond, List, [], ◌∷◌, ◌++◌, length, take, slice_get, Some, option_map, refl, sym, ap, subst, ◌∙◌, add-one, arith}
use Rattle.std.proofs.lemmas.Bool.{eq-eqb}
use Rattle.std.proofs.lemmas.List.{map-append}
use Rattle.std.proofs.lemmas.Option.{slice_get-map}
use Rattle.std.specs.Map.{keys_of}
use Rattle.text_pool.specs.Texts.{Texts, bytes_of, count_of, with_id, without_id, IsHeld, KeepBytes}
use Rattle.text_pool.proofs.TextLaws.{bytes-there, count-with, count-without}
use Rattle.read_record.specs.declared.key.Key.{Key}
use Rattle.read_record.specs.Queries.{Reads}
use Rattle.read_record.specs.Stores.{Store, Numbers, Held, key_of, uses_of, held_keys, held_codes, times, key_numbers, code_numbers, resolved, HoldsMore, HoldsAll, HasMore, Has}
use Rattle.read_record.proofs.PlaceLaws.{take-next}

-- ---- how often a number stands

pub times-append : (q : ℕ) (xs ys : List ℕ) → times q (xs ++ ys) ≡ times q xs + times q ys
times-append q [] ys = omega arith
times-append q (x ∷ xs) ys = let rest = times-append q xs ys in omega (arith, rest)

there : (x rest : ℕ) → 0 < cond (x == x) 1 0 + rest
there x rest =
    let test : (b : Bool) → ℕ = λ b. cond b 1 0 in
    let one : test (x == x) ≡ test true = ap test (eq-eqb x x refl) in
    omega (arith, one)

pub times-first : (x : ℕ) (xs : List ℕ) → 0 < times x (x ∷ xs)
times-first x xs = there x (times x xs)

some_inj : {X : Type 0} (x y : X) → Some x ≡ Some y → x ≡ y
some_inj x y h = cc

pub times-at : (xs : List ℕ) (p x : ℕ) → slice_get xs p ≡ Some x → 0 < times x xs
times-at [] p x at = cc
times-at (y ∷ xs) zero x at = subst (λ (z : ℕ). 0 < times x (z ∷ xs)) (sym (some_inj y x at)) (there x (times x xs))
times-at (y ∷ xs) (suc p) x at = let rest = times-at xs p x at in omega (arith, rest)

-- ---- what is held

module _ {V : Type 0} where
  pub nothing_more : (a : Held V) → HoldsMore a a []
  nothing_more a = record { counts = λ q. omega arith; same = λ q old new. refl }

  more_held : (a b : Held V) (xs : List ℕ) → HoldsMore a b xs → (q : ℕ) → 0 < a.count q → 0 < b.count q
  more_held a b xs m q held = omega (arith, m.counts q, held)

  pub more_after : (a b c : Held V) (xs ys : List ℕ) → HoldsMore a b xs → HoldsMore b c ys → HoldsMore a c (xs ++ ys)
  more_after a b c xs ys m n =
      record {
        counts = λ q. omega (arith, m.counts q, n.counts q, times-append q xs ys);
        same = λ q old new. let held = more_held a b xs m q old in n.same q held new ∙ m.same q old held;
      }

  -- what was added and given back leaves what was there
  pub undone : (a b c : Held V) (xs : List ℕ) → HoldsMore a b xs → HoldsMore c b xs → HoldsMore a c []
  undone a b c xs m n =
      record {
        counts = λ q. omega (arith, m.counts q, n.counts q);
        same = λ q old new. let held = more_held a b xs m q old in sym (n.same q new held) ∙ m.same q old held;
      }

  -- the first of what is given back, and then the rest
  pub given_first : (a b c : Held V) (x : ℕ) (xs : List ℕ) → HoldsMore b a (x ∷ []) → HoldsMore c b xs → HoldsMore c a (x ∷ xs)
  given_first a b c x xs m n =
      record {
        counts = λ q. omega (arith, m.counts q, n.counts q);
        same = λ q old new. let held = more_held c b xs n q old in m.same q held new ∙ n.same q old held;
      }

  pub all_of_more : (a b : Held V) (xs : List ℕ) → HoldsMore a b xs → HoldsAll b xs
  all_of_more a b xs m q = omega (arith, m.counts q)

  pub all_but_first : (a b : Held V) (x : ℕ) (xs : List ℕ) → HoldsAll a (x ∷ xs) → HoldsMore b a (x ∷ []) → HoldsAll b xs
  all_but_first a b x xs all m q = omega (arith, all q, m.counts q)

  pub holds_first : (a : Held V) (x : ℕ) (xs : List ℕ) → HoldsAll a (x ∷ xs) → 0 < a.count x
  holds_first a x xs all = omega (arith, all x, there x (times x xs))

  pub holds_at : (a : Held V) (xs : List ℕ) (p x : ℕ) → HoldsAll a xs → slice_get xs p ≡ Some x → 0 < a.count x
  holds_at a xs p x all at = let some = times-at xs p x at in omega (arith, all x, some)

  -- a number that was held once more stands for the same afterwards
  pub same_after : (a b : Held V) (x : ℕ) (xs : List ℕ) → HoldsMore a b xs → 0 < a.count x → b.value x ≡ a.value x
  same_after a b x xs m held = m.same x held (more_held a b xs m x held)

-- ---- reads by numbers

pub numbers-append : (xs ys : Numbers) → (key_numbers (xs ++ ys) ≡ key_numbers xs ++ key_numbers ys) × (code_numbers (xs ++ ys) ≡ code_numbers xs ++ code_numbers ys)
numbers-append xs ys = (map-append (λ (n : ℕ × ℕ). n.0) xs ys, map-append (λ (n : ℕ × ℕ). n.1) xs ys)

pub none_more : (a : Store) → HasMore a a []
none_more a = record { keys = nothing_more (held_keys a.keys); codes = nothing_more (held_codes a.codes) }

pub more-then : (a b c : Store) (xs ys : Numbers) → HasMore a b xs → HasMore b c ys → HasMore a c (xs ++ ys)
more-then a b c xs ys m n =
    let parts = numbers-append xs ys in
    record {
      keys = subst (HoldsMore (held_keys a.keys) (held_keys c.keys)) (sym parts.0) (more_after (held_keys a.keys) (held_keys b.keys) (held_keys c.keys) (key_numbers xs) (key_numbers ys) m.keys n.keys);
      codes = subst (HoldsMore (held_codes a.codes) (held_codes c.codes)) (sym parts.1) (more_after (held_codes a.codes) (held_codes b.codes) (held_codes c.codes) (code_numbers xs) (code_numbers ys) m.codes n.codes);
    }

pub all_undone : (a b c : Store) (xs : Numbers) → HasMore a b xs → HasMore c b xs → HasMore a c []
all_undone a b c xs m n =
    record {
      keys = undone (held_keys a.keys) (held_keys b.keys) (held_keys c.keys) (key_numbers xs) m.keys n.keys;
      codes = undone (held_codes a.codes) (held_codes b.codes) (held_codes c.codes) (code_numbers xs) m.codes n.codes;
    }

pub given_one : (a b c : Store) (x : ℕ × ℕ) (xs : Numbers) → HasMore b a (x ∷ []) → HasMore c b xs → HasMore c a (x ∷ xs)
given_one a b c x xs m n =
    record {
      keys = given_first (held_keys a.keys) (held_keys b.keys) (held_keys c.keys) x.0 (key_numbers xs) m.keys n.keys;
      codes = given_first (held_codes a.codes) (held_codes b.codes) (held_codes c.codes) x.1 (code_numbers xs) m.codes n.codes;
    }

pub has_what_it_got : (a b : Store) (xs : Numbers) → HasMore a b xs → Has b xs
has_what_it_got a b xs m =
    record {
      keys = all_of_more (held_keys a.keys) (held_keys b.keys) (key_numbers xs) m.keys;
      codes = all_of_more (held_codes a.codes) (held_codes b.codes) (code_numbers xs) m.codes;
    }

pub has_the_rest : (a b : Store) (x : ℕ × ℕ) (xs : Numbers) → Has a (x ∷ xs) → HasMore b a (x ∷ []) → Has b xs
has_the_rest a b x xs all m =
    record {
      keys = all_but_first (held_keys a.keys) (held_keys b.keys) x.0 (key_numbers xs) all.keys m.keys;
      codes = all_but_first (held_codes a.codes) (held_codes b.codes) x.1 (code_numbers xs) all.codes m.codes;
    }

pub has_first : (a : Store) (x : ℕ × ℕ) (xs : Numbers) → Has a (x ∷ xs) → (0 < uses_of a.keys x.0) × (0 < count_of a.codes x.1)
has_first a x xs all = (holds_first (held_keys a.keys) x.0 (key_numbers xs) all.keys, holds_first (held_codes a.codes) x.1 (code_numbers xs) all.codes)

pub has_at : (a : Store) (xs : Numbers) (p : ℕ) (x : ℕ × ℕ) → Has a xs → slice_get xs p ≡ Some x → (0 < uses_of a.keys x.0) × (0 < count_of a.codes x.1)
has_at a xs p x all at = (
  holds_at (held_keys a.keys) (key_numbers xs) p x.0 all.keys (slice_get-map (λ (n : ℕ × ℕ). n.0) xs p ∙ ap (option_map (λ (n : ℕ × ℕ). n.0)) at),
  holds_at (held_codes a.codes) (code_numbers xs) p x.1 all.codes (slice_get-map (λ (n : ℕ × ℕ). n.1) xs p ∙ ap (option_map (λ (n : ℕ × ℕ). n.1)) at),
)

-- ---- what the numbers stand for

abbrev pub read_in : Store → ℕ × ℕ → Key × List ℕ
read_in store n = (key_of store.keys n.0, bytes_of store.codes n.1)

-- what a store holds stands for the same in one that holds more
pub resolved-later : (a b : Store) (xs ys : Numbers) → Has a xs → HasMore a b ys → resolved b xs ≡ resolved a xs
resolved-later a b [] ys all m = refl
resolved-later a b (x ∷ xs) ys all m =
    let first = has_first a x xs all in
    let key : key_of b.keys x.0 ≡ key_of a.keys x.0 = same_after (held_keys a.keys) (held_keys b.keys) x.0 (key_numbers ys) m.keys first.0 in
    let code : bytes_of b.codes x.1 ≡ bytes_of a.codes x.1 = same_after (held_codes a.codes) (held_codes b.codes) x.1 (code_numbers ys) m.codes first.1 in
    λ i. (key i, code i) ∷ resolved-later a b xs ys (without_first a x xs all) m i
  where
    without_first : (a : Store) (x : ℕ × ℕ) (xs : Numbers) → Has a (x ∷ xs) → Has a xs
    without_first a x xs all = record { keys = λ q. omega (arith, all.keys q); codes = λ q. omega (arith, all.codes q) }

pub resolved-at : (a : Store) (xs : Numbers) (p : ℕ) (x : ℕ × ℕ) → slice_get xs p ≡ Some x → slice_get (resolved a xs) p ≡ Some (read_in a x)
resolved-at a xs p x at = slice_get-map (read_in a) xs p ∙ ap (option_map (read_in a)) at

-- the same by what was lent of it
pub lent-at : (a : Store) (xs : Numbers) (p : ℕ) (x : ℕ × ℕ) (k : Key) (code : List ℕ) → slice_get xs p ≡ Some x → k ≡ key_of a.keys x.0 → code ≡ bytes_of a.codes x.1 → slice_get (resolved a xs) p ≡ Some (k, code)
lent-at a xs p x k code at key same = resolved-at a xs p x at ∙ (λ i. Some (sym key i, sym same i))

pub length-resolved : (a : Store) (xs : Numbers) → length (resolved a xs) ≡ length xs
length-resolved a [] = refl
length-resolved a (x ∷ xs) = ap suc (length-resolved a xs)

pub key-resolved : (a : Store) (xs : Numbers) (p : ℕ) (x : ℕ × ℕ) → slice_get xs p ≡ Some x → slice_get (keys_of (resolved a xs)) p ≡ Some (key_of a.keys x.0)
key-resolved a xs p x at = slice_get-map (λ (r : Key × List ℕ). r.0) (resolved a xs) p ∙ ap (option_map (λ (r : Key × List ℕ). r.0)) (resolved-at a xs p x at)

-- a step of numbering
pub numbered-one : (reads : Reads) (a b c : Store) (xs ys : Numbers) (p : ℕ) (k : Key) (code : List ℕ) (n : ℕ × ℕ) → slice_get reads p ≡ Some (k, code) → resolved b xs ≡ take p reads
    → HasMore a b xs → HasMore b c (n ∷ []) → resolved c (n ∷ []) ≡ (k, code) ∷ [] → ys ≡ xs ++ n ∷ [] → (resolved c ys ≡ take (p + 1) reads) × HasMore a c ys
numbered-one reads a b c xs ys p k code n at so_far m one made is =
    let next : p + 1 ≡ suc p = add-one p in (
      ap (resolved c) is ∙ map-append (read_in c) xs (n ∷ []) ∙ (λ i. (resolved-later b c xs (n ∷ []) (has_what_it_got a b xs m) one ∙ so_far) i ++ made i) ∙ sym (take-next reads p (k, code) at) ∙ ap (λ n. take n reads) (sym next),
      subst (HasMore a c) (sym is) (more-then a b c xs (n ∷ []) m one),
    )

-- ---- giving back

-- what is left to be given back to a store, of what it had at first
pub record Leaves (first now : Store) (rest all : Numbers) : Type 0 where
  pub has : Has now rest
  pub given : (last : Store) → HasMore last now rest → HasMore last first all

pub leaves-all : (a : Store) (all : Numbers) → Has a all → Leaves a a all all
leaves-all a all has = record { has = has; given = λ last m. m }

pub leaves-one : (first now next : Store) (x : ℕ × ℕ) (rest all : Numbers) → Leaves first now (x ∷ rest) all → HasMore next now (x ∷ []) → Leaves first next rest all
leaves-one first now next x rest all l one =
    record {
      has = has_the_rest now next x rest l.has one;
      given = λ last m. l.given last (given_one now next last x rest one m);
    }

pub leaves-none : (first now : Store) (all : Numbers) → Leaves first now [] all → HasMore now first all
leaves-none first now all l = l.given now (none_more now)

-- ---- codes of a pool

pub one_code_more : (a b : Texts) (n : ℕ) (bytes : List ℕ) → b ≡ with_id a n bytes → KeepBytes a b → HoldsMore (held_codes a) (held_codes b) (n ∷ [])
one_code_more a b n bytes is kept =
    record {
      counts = λ q. let one : count_of b q ≡ count_of a q + cond (q == n) 1 0 = ap (λ t. count_of t q) is ∙ count-with a n bytes q in omega (arith, one);
      same = kept;
    }

pub code_there : (a b : Texts) (n : ℕ) (bytes : List ℕ) → b ≡ with_id a n bytes → bytes_of b n ≡ bytes
code_there a b n bytes is = ap (λ t. bytes_of t n) is ∙ bytes-there a n (record { bytes = bytes; count = count_of a n + 1 })

pub one_code_less : (a b : Texts) (n : ℕ) → IsHeld a n → b ≡ without_id a n → KeepBytes a b → HoldsMore (held_codes b) (held_codes a) (n ∷ [])
one_code_less a b n held is kept =
    record {
      counts = λ q. let less : count_of b q + cond (q == n) 1 0 ≡ count_of a q = ap (λ t. count_of t q + cond (q == n) 1 0) is ∙ count-without a n q held in omega (arith, less);
      same = λ q new old. sym (kept q old new);
    }

-- ---- what is still there

still_all : {V : Type 0} (a b : Held V) (xs ys : List ℕ) → HoldsAll a xs → HoldsMore a b ys → HoldsAll b xs
still_all a b xs ys all m q = omega (arith, all q, m.counts q)

pub still_has : (a b : Store) (xs ys : Numbers) → Has a xs → HasMore a b ys → Has b xs
still_has a b xs ys all m =
    record {
      keys = still_all (held_keys a.keys) (held_keys b.keys) (key_numbers xs) (key_numbers ys) all.keys m.keys;
      codes = still_all (held_codes a.codes) (held_codes b.codes) (code_numbers xs) (code_numbers ys) all.codes m.codes;
    }

-- a step that adds nothing
then_nothing : {V : Type 0} (a b c : Held V) (xs : List ℕ) → HoldsMore a b xs → HoldsMore b c [] → HoldsMore a c xs
then_nothing a b c xs m n =
    record {
      counts = λ q. omega (arith, m.counts q, n.counts q);
      same = λ q old new. let held = more_held a b xs m q old in n.same q held new ∙ m.same q old held;
    }

pub more-then-nothing : (a b c : Store) (xs : Numbers) → HasMore a b xs → HasMore b c [] → HasMore a c xs
more-then-nothing a b c xs m n =
    record {
      keys = then_nothing (held_keys a.keys) (held_keys b.keys) (held_keys c.keys) (key_numbers xs) m.keys n.keys;
      codes = then_nothing (held_codes a.codes) (held_codes b.codes) (held_codes c.codes) (code_numbers xs) m.codes n.codes;
    }

pub take_none : {X : Type 0} (xs : List X) → [] ≡ take 0 xs
take_none [] = refl
take_none (x ∷ xs) = refl

pub no_items : {X : Type 0} (xs : List X) → length xs ≡ 0 → xs ≡ []
no_items [] none = refl
no_items (x ∷ xs) none = absurd (omega (arith, none))
