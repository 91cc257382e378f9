-- The files of a map, taken and counted one after another.
use Rattle.std.proofs.Common.{◌≡◌, ℕ, ◌+◌, ◌<◌, ◌≤◌, Bool, true, false, cond, List, [], ◌∷◌, ◌++◌, length, drop, get_or, arith, refl, sym, ap, ◌∙◌}
use Rattle.std.specs.Int.{from_bool}
use Rattle.std.specs.Prelude.{T, fold}
use Rattle.std.specs.FinMap.{entries, entries_sorted, entries-from_sorted, from_sorted, is_sorted, same_entries_map}
use Rattle.site_base.specs.Places.{Files, PathsRise, path_cmp}
use Rattle.site_reader.specs.Placing.{File}
use Rattle.site_reader.proofs.EachLaws.{all_taken, at_front, behind_one, none_left}

pub one_taken : {A : Type 0} (xs made more : List A) (i : ℕ) (x : A) → i < length xs → x ≡ get_or xs i x → more ≡ made ++ x ∷ [] → made ++ drop i xs ≡ xs → more ++ drop (i + 1) xs ≡ xs
one_taken xs made more i x lt is pushed same =
    ap (λ ys. ys ++ drop (i + 1) xs) pushed ∙ behind_one made (drop (i + 1) xs) x ∙ ap (λ zs. made ++ zs) (sym (at_front xs i x lt is)) ∙ same

pub taken_whole : {A : Type 0} (xs made : List A) (i : ℕ) → length xs ≤ i → made ++ drop i xs ≡ xs → made ≡ xs
taken_whole xs made i le same = all_taken made (drop i xs) xs (none_left xs i le) same

-- one more that is counted where it passes a test
abbrev pub counting : {A : Type 0} → (A → Bool) → ℕ → A → ℕ
counting test n x = n + cond (test x) 1 0

as_number : (b : Bool) → from_bool b ≡ cond b 1 0
as_number true = refl
as_number false = refl

pub counted_as : (n : ℕ) (b is : Bool) → n ≡ from_bool b → b ≡ is → n ≡ cond is 1 0
counted_as n b is e same = e ∙ ap from_bool same ∙ as_number is

pub one_at_most : (n more k : ℕ) (b : Bool) → n ≤ k → more ≡ cond b 1 0 → n + more ≤ k + 1
one_at_most n more k true le e = omega (arith, le, e)
one_at_most n more k false le e = omega (arith, le, e)

pub one_counted : {A : Type 0} (test : A → Bool) (xs : List A) (i n more whole : ℕ) (x : A) → i < length xs → x ≡ get_or xs i x → more ≡ counting test n x
    → fold (counting test) n (drop i xs) ≡ whole → fold (counting test) more (drop (i + 1) xs) ≡ whole
one_counted test xs i n more whole x lt is e same = ap (λ k. fold (counting test) k (drop (i + 1) xs)) e ∙ ap (fold (counting test) n) (sym (at_front xs i x lt is)) ∙ same

pub counted_whole : {A : Type 0} (test : A → Bool) (xs : List A) (i n whole : ℕ) → length xs ≤ i → fold (counting test) n (drop i xs) ≡ whole → n ≡ whole
counted_whole test xs i n whole le same = ap (fold (counting test) n) (sym (none_left xs i le)) ∙ same

told : (b : Bool) → T b → b ≡ true
told true h = refl
told false h = absurd h

pub held_rise : (files : Files) (es : List File) → es ≡ entries files → PathsRise es
held_rise files es is = ap (is_sorted path_cmp) is ∙ told _ (entries_sorted files)

pub held_again : (files : Files) (es : List File) → es ≡ entries files → from_sorted es ≡ files
held_again files es is = ap (λ (xs : List File). from_sorted {R = path_cmp} xs) is ∙ same_entries_map (from_sorted (entries files)) files (entries-from_sorted path_cmp (entries files) (entries_sorted files))
