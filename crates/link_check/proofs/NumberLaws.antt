-- The texts of numbers: as they are read, added, marked and freed.
use Rattle.std.proofs.Common.{◌≡◌, ◌∙◌, ◌<◌, ◌≤◌, ◌++◌, ℕ, zero, suc, Bool, MatchOption, true, false, cond, List, [], ◌∷◌, None, Option, Some, ap, arith, drop, get_or, length, map, refl, slice_set, subst, sym}
use Rattle.std.specs.BTreeMap.{BTreeMap, get}
use Rattle.std.specs.Borrow.{Bor}
use Rattle.std.specs.Cmp.{tied_itself}
use Rattle.std.specs.Cmp.Lexicographic.{nat_list_cmp_total, slice_cmp}
use Rattle.std.specs.FinMap.{nat_cmp-IsAntisymmetric, slice_cmp-IsAntisymmetric}
use Rattle.std.specs.List.{AllByRecursion}
use Rattle.std.specs.Map.{lookup}
use Rattle.std.specs.Option.{option_copied, unwrap_or}
use Rattle.std.specs.Ordering.{is_eq, nat_cmp}
use Rattle.std.specs.declared.cmp.Ordering.{Ordering}
use Rattle.std.specs.declared.cmp.Ordering.TheVariants.{Equal, Greater, Less}
use Rattle.std.proofs.lemmas.List.{map-append}
use Rattle.link_check.specs.Links.{links}
use Rattle.link_check.specs.Numbers.{AreNumbered, AreNumbers, AreSafe, Forgets, IsIndex, IsNumbered, IsSafe, Keeps, KeepsUsed, Marks, held_at, texts_of, used_at}
use Rattle.link_check.specs.declared.page.Page.{Page}
use Rattle.link_check.specs.declared.value_table.Slot.{Slot}

not_Some : {A : Type 0} (x : A) → None ≡ Some x → ⊥
not_Some x e = cc (e)

-- ---- numbers

pub kept_numbers : (old new : List (Option (List ℕ))) → Keeps old new → (ns : List ℕ) (ts : List (List ℕ)) → AreNumbers old ns ts → AreNumbers new ns ts
kept_numbers old new keep [] [] h = refl
kept_numbers old new keep [] (t ∷ ts) h = absurd (cc (h))
kept_numbers old new keep (n ∷ ns) [] h = absurd (cc (h))
kept_numbers old new keep (n ∷ ns) (t ∷ ts) h =
    let first : held_at old n ≡ Some t = ap (λ (l : List (Option (List ℕ))). get_or l 0 None) h in
    let rest : AreNumbers old ns ts = ap (λ (l : List (Option (List ℕ))). drop 1 l) h in
    λ i. keep n t first i ∷ kept_numbers old new keep ns ts rest i

-- what all pages have, page by page
abbrev pub Each : List (Option (List ℕ)) → List (List ℕ × Page) → Type 0
Each values es = AllByRecursion (IsNumbered values) es

pub each_page : (values : List (Option (List ℕ))) (es : List (List ℕ × Page)) → AreNumbered values es → Each values es
each_page values [] h = tt
each_page values (e ∷ es) h =
    (ap (λ (l : List (List (Option (List ℕ)))). get_or l 0 []) h, each_page values es (ap (λ (l : List (List (Option (List ℕ)))). drop 1 l) h))

pub all_pages : (values : List (Option (List ℕ))) (es : List (List ℕ × Page)) → Each values es → AreNumbered values es
all_pages values [] h = refl
all_pages values (e ∷ es) h = let rest = all_pages values es h.1 in λ i. h.0 i ∷ rest i

kept_each : (old new : List (Option (List ℕ))) → Keeps old new → (es : List (List ℕ × Page)) → Each old es → Each new es
kept_each old new keep [] h = tt
kept_each old new keep (e ∷ es) h = (kept_numbers old new keep e.1.links.items (links e.1.bytes) h.0, kept_each old new keep es h.1)

pub kept_pages : (old new : List (Option (List ℕ))) → Keeps old new → (es : List (List ℕ × Page)) → AreNumbered old es → AreNumbered new es
kept_pages old new keep es h = all_pages new es (kept_each old new keep es (each_page old es h))

-- a number more
pub more_numbers : (old new : List (Option (List ℕ))) (ns : List ℕ) (ts us : List (List ℕ)) (n : ℕ) (t : List ℕ) → Keeps old new → AreNumbers old ns ts → held_at new n ≡ Some t → us ≡ ts ++ t ∷ [] → AreNumbers new (ns ++ n ∷ []) us
more_numbers old new ns ts us n t keep h e is =
    let front : AreNumbers new ns ts = kept_numbers old new keep ns ts h in
    map-append (held_at new) ns (n ∷ [])
    ∙ (λ i. front i ++ e i ∷ [])
    ∙ sym (map-append (λ (u : List ℕ). Some u) ts (t ∷ []))
    ∙ ap (map (λ (u : List ℕ). Some u)) (sym is)

pub keeps_both : (a b c : List (Option (List ℕ))) → Keeps a b → Keeps b c → Keeps a c
keeps_both a b c f g = λ n text h. g n text (f n text h)

-- the number at a place is that of the text at this place
pub number_at : (values : List (Option (List ℕ))) (ns : List ℕ) (ts : List (List ℕ)) (i : ℕ) (d : ℕ) (u : List ℕ) → AreNumbers values ns ts → i < length ns → (i < length ts) × (held_at values (get_or ns i d) ≡ Some (get_or ts i u))
number_at values [] ts i d u h lt = absurd (omega (arith, lt))
number_at values (n ∷ ns) [] i d u h lt = absurd (cc (h))
number_at values (n ∷ ns) (t ∷ ts) zero d u h lt = (omega arith, ap (λ (l : List (Option (List ℕ))). get_or l 0 None) h)
number_at values (n ∷ ns) (t ∷ ts) (suc i) d u h lt =
    let rest = number_at values ns ts i d u (ap (λ (l : List (Option (List ℕ))). drop 1 l) h) (omega (arith, lt)) in
    (omega (arith, rest.0), rest.1)

pub numbers_len : (values : List (Option (List ℕ))) (ns : List ℕ) (ts : List (List ℕ)) → AreNumbers values ns ts → length ns ≡ length ts
numbers_len values [] [] h = refl
numbers_len values [] (t ∷ ts) h = absurd (cc (h))
numbers_len values (n ∷ ns) [] h = absurd (cc (h))
numbers_len values (n ∷ ns) (t ∷ ts) h = ap suc (numbers_len values ns ts (ap (λ (l : List (Option (List ℕ))). drop 1 l) h))

each_at : (values : List (Option (List ℕ))) (es : List (List ℕ × Page)) (i : ℕ) (e : List ℕ × Page) → Each values es → i < length es → e ≡ get_or es i e → IsNumbered values e
each_at values [] i e h lt is = absurd (omega (arith, lt))
each_at values (x ∷ es) zero e h lt is = subst (IsNumbered values) (sym is) h.0
each_at values (x ∷ es) (suc i) e h lt is = each_at values es i e h.1 (omega (arith, lt)) is

pub numbered_at : (values : List (Option (List ℕ))) (es : List (List ℕ × Page)) (i : ℕ) (e : List ℕ × Page) → AreNumbered values es → i < length es → e ≡ get_or es i e → IsNumbered values e
numbered_at values es i e h lt is = each_at values es i e (each_page values es h) lt is

-- ---- slots

pub len_texts : (slots : List Slot) → length (texts_of slots) ≡ length slots
len_texts [] = refl
len_texts (s ∷ slots) = ap suc (len_texts slots)

pub text_read : (slots : List Slot) (n : ℕ) (s : Slot) → n < length slots → s ≡ get_or slots n s → held_at (texts_of slots) n ≡ s.text
text_read [] n s lt is = absurd (omega (arith, lt))
text_read (t ∷ slots) zero s lt is = ap (λ (x : Slot). x.text) (sym is)
text_read (t ∷ slots) (suc n) s lt is = text_read slots n s (omega (arith, lt)) is

pub text_beyond : (slots : List Slot) (n : ℕ) → length slots ≤ n → held_at (texts_of slots) n ≡ None
text_beyond [] n le = refl
text_beyond (s ∷ slots) zero le = absurd (omega (arith, le))
text_beyond (s ∷ slots) (suc n) le = text_beyond slots n (omega (arith, le))

pub text_set : (slots : List Slot) (n : ℕ) (s : Slot) → n < length slots → held_at (texts_of (slice_set slots n s)) n ≡ s.text
text_set [] n s lt = absurd (omega (arith, lt))
text_set (t ∷ slots) zero s lt = refl
text_set (t ∷ slots) (suc n) s lt = text_set slots n s (omega (arith, lt))

pub text_set_other : (slots : List Slot) (n m : ℕ) (s : Slot) → (m ≡ n → ⊥) → held_at (texts_of (slice_set slots n s)) m ≡ held_at (texts_of slots) m
text_set_other [] n m s other = refl
text_set_other (t ∷ slots) zero zero s other = absurd (other refl)
text_set_other (t ∷ slots) zero (suc m) s other = refl
text_set_other (t ∷ slots) (suc n) zero s other = refl
text_set_other (t ∷ slots) (suc n) (suc m) s other = text_set_other slots n m s (λ e. other (ap suc e))

pub text_push : (slots : List Slot) (n : ℕ) (s : Slot) → n ≡ length slots → held_at (texts_of (slots ++ s ∷ [])) n ≡ s.text
text_push slots n s is = subst (λ (k : ℕ). held_at (texts_of (slots ++ s ∷ [])) k ≡ s.text) (sym is) (go slots) where
  go : (ss : List Slot) → held_at (texts_of (ss ++ s ∷ [])) (length ss) ≡ s.text
  go [] = refl
  go (t ∷ ss) = go ss

-- a slot more, or one that was free
pub push_keeps : (slots : List Slot) (s : Slot) → Keeps (texts_of slots) (texts_of (slots ++ s ∷ []))
push_keeps [] s n text h = absurd (not_Some text h)
push_keeps (t ∷ slots) s zero text h = h
push_keeps (t ∷ slots) s (suc n) text h = push_keeps slots s n text h

pub set_keeps : (slots : List Slot) (n : ℕ) (s : Slot) → held_at (texts_of slots) n ≡ None → Keeps (texts_of slots) (texts_of (slice_set slots n s))
set_keeps slots n s free m text h =
    text_set_other slots n m s (λ e. not_Some text (sym free ∙ ap (held_at (texts_of slots)) (sym e) ∙ h)) ∙ h

-- ---- marks

pub same_marks : (slots : List Slot) → Marks slots slots
same_marks slots = record { texts = refl; used = λ n h. h }

pub both_marks : (a b c : List Slot) → Marks a b → Marks b c → Marks a c
both_marks a b c f g = record { texts = g.texts ∙ f.texts; used = λ n h. g.used n (f.used n h) }

pub marked_safe : (old new : List Slot) → Marks old new → (n : ℕ) → IsSafe old n → IsSafe new n
marked_safe old new m n safe text h = m.used n (safe text (ap (λ (ts : List (Option (List ℕ))). held_at ts n) (sym m.texts) ∙ h))

pub marked_all : (old new : List Slot) → Marks old new → (ns : List ℕ) → AreSafe old ns → AreSafe new ns
marked_all old new m [] safe = tt
marked_all old new m (n ∷ ns) safe = (marked_safe old new m n safe.0, marked_all old new m ns safe.1)

pub marked_pages : (old new : List Slot) → Marks old new → (es : List (List ℕ × Page)) → AllByRecursion (λ e. AreSafe old e.1.links.items) es → AllByRecursion (λ e. AreSafe new e.1.links.items) es
marked_pages old new m [] safe = tt
marked_pages old new m (e ∷ es) safe = (marked_all old new m e.1.links.items safe.0, marked_pages old new m es safe.1)

-- one more element has it
pub all_push : {A : Type 0} (P : A → Type 0) (xs : List A) (x : A) → AllByRecursion P xs → P x → AllByRecursion P (xs ++ x ∷ [])
all_push P [] x h p = (p, tt)
all_push P (y ∷ xs) x h p = (h.0, all_push P xs x h.1 p)

-- ---- what is swept

pub used_numbers : (old new : List Slot) → KeepsUsed old new → (ns : List ℕ) (ts : List (List ℕ)) → AreSafe old ns → AreNumbers (texts_of old) ns ts → AreNumbers (texts_of new) ns ts
used_numbers old new keep [] [] safe h = refl
used_numbers old new keep [] (t ∷ ts) safe h = absurd (cc (h))
used_numbers old new keep (n ∷ ns) [] safe h = absurd (cc (h))
used_numbers old new keep (n ∷ ns) (t ∷ ts) safe h =
    let first : held_at (texts_of old) n ≡ Some t = ap (λ (l : List (Option (List ℕ))). get_or l 0 None) h in
    let rest : AreNumbers (texts_of old) ns ts = ap (λ (l : List (Option (List ℕ))). drop 1 l) h in
    let here = (keep n t first (safe.0 t first)).0 in
    λ i. here i ∷ used_numbers old new keep ns ts safe.1 rest i

used_each : (old new : List Slot) → KeepsUsed old new → (es : List (List ℕ × Page)) → AllByRecursion (λ e. AreSafe old e.1.links.items) es → Each (texts_of old) es → Each (texts_of new) es
used_each old new keep [] safe h = tt
used_each old new keep (e ∷ es) safe h = (used_numbers old new keep e.1.links.items (links e.1.bytes) safe.0 h.0, used_each old new keep es safe.1 h.1)

pub used_pages : (old new : List Slot) → KeepsUsed old new → (es : List (List ℕ × Page)) → AllByRecursion (λ e. AreSafe old e.1.links.items) es → AreNumbered (texts_of old) es → AreNumbered (texts_of new) es
used_pages old new keep es safe h = all_pages (texts_of new) es (used_each old new keep es safe (each_page (texts_of old) es h))

-- the same texts, as they are unmarked
pub texts_pages : (old new : List (Option (List ℕ))) → new ≡ old → (es : List (List ℕ × Page)) → AreNumbered old es → AreNumbered new es
texts_pages old new is es h = subst (λ (v : List (Option (List ℕ))). AreNumbered v es) (sym is) h

used_set_other : (slots : List Slot) (n m : ℕ) (s : Slot) → (m ≡ n → ⊥) → used_at (slice_set slots n s) m ≡ used_at slots m
used_set_other [] n m s other = refl
used_set_other (t ∷ slots) zero zero s other = absurd (other refl)
used_set_other (t ∷ slots) zero (suc m) s other = refl
used_set_other (t ∷ slots) (suc n) zero s other = refl
used_set_other (t ∷ slots) (suc n) (suc m) s other = used_set_other slots n m s (λ e. other (ap suc e))

used_read : (slots : List Slot) (n : ℕ) (s : Slot) → n < length slots → s ≡ get_or slots n s → used_at slots n ≡ s.is_used
used_read [] n s lt is = absurd (omega (arith, lt))
used_read (t ∷ slots) zero s lt is = ap (λ (x : Slot). x.is_used) (sym is)
used_read (t ∷ slots) (suc n) s lt is = used_read slots n s (omega (arith, lt)) is

used_set : (slots : List Slot) (n : ℕ) (s : Slot) → n < length slots → used_at (slice_set slots n s) n ≡ s.is_used
used_set [] n s lt = absurd (omega (arith, lt))
used_set (t ∷ slots) zero s lt = refl
used_set (t ∷ slots) (suc n) s lt = used_set slots n s (omega (arith, lt))

pub set_marks : (slots : List Slot) (n : ℕ) (d : Slot) → n < length slots → Marks slots (slice_set slots n (record { text = (get_or slots n d).text; is_used = true }))
set_marks [] n d lt = absurd (omega (arith, lt))
set_marks (t ∷ slots) zero d lt = record { texts = refl; used = λ m. elim m as (λ k. used_at (t ∷ slots) k ≡ true → used_at (record { text = t.text; is_used = true } ∷ slots) k ≡ true) [ zero ↦ λ h. refl | suc k ↦ λ h. h ] }
set_marks (t ∷ slots) (suc n) d lt =
    let rest = set_marks slots n d (omega (arith, lt)) in
    record { texts = ap (λ (l : List (Option (List ℕ))). t.text ∷ l) rest.texts; used = λ m. elim m as (λ k. used_at (t ∷ slots) k ≡ true → used_at (t ∷ slice_set slots n (record { text = (get_or slots n d).text; is_used = true })) k ≡ true) [ zero ↦ λ h. h | suc k ↦ rest.used k ] }

pub set_safe : (slots : List Slot) (n : ℕ) (o : Option (List ℕ)) → n < length slots → IsSafe (slice_set slots n (record { text = o; is_used = true })) n
set_safe slots n o lt text h = used_set slots n (record { text = o; is_used = true }) lt

pub beyond_safe : (slots : List Slot) (n : ℕ) → length slots ≤ n → IsSafe slots n
beyond_safe slots n le text h = absurd (not_Some text (sym (text_beyond slots n le) ∙ h))

-- ---- what is freed

pub same_used : (slots : List Slot) → KeepsUsed slots slots
same_used slots n text h u = (h, u)

pub both_used : (a b c : List Slot) → KeepsUsed a b → KeepsUsed b c → KeepsUsed a c
both_used a b c f g n text h u = let one = f n text h u in g n text one.0 one.1

-- another slot than one that is used
pub free_keeps : (slots : List Slot) (n : ℕ) (s free : Slot) → n < length slots → s ≡ get_or slots n s → s.is_used ≡ false → KeepsUsed slots (slice_set slots n free)
free_keeps slots n s free lt is unused m text h u =
    let other : m ≡ n → ⊥ = λ e. cc (sym u ∙ ap (used_at slots) e ∙ used_read slots n s lt is ∙ unused) in
    (text_set_other slots n m free other ∙ h, used_set_other slots n m free other ∙ u)

-- a slot that is unmarked
pub text_unmarked : (slots : List Slot) (n : ℕ) (d : Slot) → texts_of (slice_set slots n (record { text = (get_or slots n d).text; is_used = false })) ≡ texts_of slots
text_unmarked [] n d = refl
text_unmarked (s ∷ slots) zero d = refl
text_unmarked (s ∷ slots) (suc n) d = ap (λ (l : List (Option (List ℕ))). s.text ∷ l) (text_unmarked slots n d)

-- ---- the index

pub keeps_index : (old new : List (Option (List ℕ))) (numbers : BTreeMap (List ℕ) ℕ) → Keeps old new → IsIndex old numbers → IsIndex new numbers
keeps_index old new numbers keep sound q n e = keep n q (sound q n e)

pub texts_index : (old new : List (Option (List ℕ))) (numbers : BTreeMap (List ℕ) ℕ) → new ≡ old → IsIndex old numbers → IsIndex new numbers
texts_index old new numbers is sound = subst (λ (v : List (Option (List ℕ))). IsIndex v numbers) (sym is) sound

same_text : (a b : List ℕ) → Some a ≡ Some b → a ≡ b
same_text a b e = ap (λ (o : Option (List ℕ)). unwrap_or o a) e

tied : (a b : List ℕ) → a ≡ b → is_eq (slice_cmp nat_cmp a b) ≡ true
tied a b e = subst (λ (z : List ℕ). is_eq (slice_cmp nat_cmp a z) ≡ true) e (ap is_eq (tied_itself nat_list_cmp_total a))

equal : (r : Ordering) → is_eq r ≡ true → r ≡ Equal
equal Less p = absurd (cc (p))
equal Equal p = refl
equal Greater p = absurd (cc (p))

-- a text more
pub inserted_index : (values : List (Option (List ℕ))) (old new : BTreeMap (List ℕ) ℕ) (text : List ℕ) (number : ℕ) → IsIndex values old → held_at values number ≡ Some text
    → ((q : List ℕ) → get (slice_cmp nat_cmp) new q ≡ cond (is_eq (slice_cmp nat_cmp text q)) (Some number) (get (slice_cmp nat_cmp) old q)) → IsIndex values new
inserted_index values old new text number sound here updates q n e = go (is_eq (slice_cmp nat_cmp text q)) refl (sym (updates q) ∙ e) where
  go : (b : Bool) → is_eq (slice_cmp nat_cmp text q) ≡ b → cond b (Some number) (get (slice_cmp nat_cmp) old q) ≡ Some n → held_at values n ≡ Some q
  go true r h =
      let same : text ≡ q = slice_cmp-IsAntisymmetric nat_cmp-IsAntisymmetric text q (equal _ r) in
      let number_is : number ≡ n = ap (λ (o : Option ℕ). unwrap_or o number) h in
      ap (held_at values) (sym number_is) ∙ here ∙ ap (λ (t : List ℕ). Some t) same
  go false r h = sound q n h

-- a text less
pub forgot_index : (slots : List Slot) (place : ℕ) (s free : Slot) (old new : BTreeMap (List ℕ) ℕ) → place < length slots → s ≡ get_or slots place s → IsIndex (texts_of slots) old → Forgets s.text old new → IsIndex (texts_of (slice_set slots place free)) new
forgot_index slots place s free old new lt is sound gone q n e = go s.text (text_read slots place s lt is) gone where
  -- another slot than this one
  beside : held_at (texts_of slots) n ≡ Some q → (n ≡ place → ⊥) → held_at (texts_of (slice_set slots place free)) n ≡ Some q
  beside was other = text_set_other slots place n free other ∙ was

  go : (o : Option (List ℕ)) → held_at (texts_of slots) place ≡ o → Forgets o old new → held_at (texts_of (slice_set slots place free)) n ≡ Some q
  go None here f =
      let was : held_at (texts_of slots) n ≡ Some q = sound q n (ap (λ (m : BTreeMap (List ℕ) ℕ). get (slice_cmp nat_cmp) m q) (sym f) ∙ e) in
      beside was (λ x. not_Some q (sym here ∙ ap (held_at (texts_of slots)) (sym x) ∙ was))
  go (Some t) here f = left (is_eq (slice_cmp nat_cmp t q)) refl (sym (f.0 q) ∙ e) where
    left : (b : Bool) → is_eq (slice_cmp nat_cmp t q) ≡ b → cond b None (get (slice_cmp nat_cmp) old q) ≡ Some n → held_at (texts_of (slice_set slots place free)) n ≡ Some q
    left true r h = absurd (not_Some n h)
    left false r h =
        let was : held_at (texts_of slots) n ≡ Some q = sound q n h in
        beside was (λ x. cc (sym r ∙ tied t q (same_text t q (sym here ∙ ap (held_at (texts_of slots)) (sym x) ∙ was))))

-- no text
pub empty_index : (numbers : BTreeMap (List ℕ) ℕ) → numbers.entries ≡ [] → IsIndex [] numbers
empty_index numbers none q n e = absurd (not_Some n (sym (ap (λ (es : List (List ℕ × ℕ)). lookup (λ k. is_eq (slice_cmp nat_cmp q k)) es) none) ∙ e))

-- ---- answers of an `Option`

pub shown : (o : Option (Bor (List ℕ))) (v : Option (List ℕ)) → option_copied o ≡ v → MatchOption o (v ≡ None) (λ t. v ≡ Some t.now)
shown None v e = sym e
shown (Some t) v e = sym e
