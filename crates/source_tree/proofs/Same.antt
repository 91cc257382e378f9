-- Whether two maps have the same files, place by place.
use Rattle.std.proofs.Common.{◌≡◌, ◌∙◌, ℕ, suc, ◌+◌, ◌<◌, ◌≤◌, Bool, true, false, List, [], ◌∷◌, ◌++◌, length, take, get_or, rules, Some, refl, sym, ap, subst, arith}
use Rattle.std.specs.Cmp.Lexicographic.{nat_list_eq_equiv}
use Rattle.std.specs.Prelude.{slice_get, slice_index_or}
use Rattle.std.specs.Str.{bytes_eq}
use Rattle.std.proofs.lemmas.Slice.Eq.{bytes_eq-Decides}
use Rattle.std.specs.FinMap.{entries, len, len-entries, same_entries_map}
use Rattle.std.proofs.lemmas.List.{take_all}
use Rattle.std.proofs.lemmas.Option.{slice_get-get_or, slice_get_read}
use Rattle.std.proofs.Math.Seq.{take-suc}
use Rattle.site_base.specs.Places.{Files}

abbrev File : Type 0
File = List ℕ × List ℕ

same_text : (x y : List ℕ) → bytes_eq x y ≡ true → x ≡ y
same_text x y e = search (rules, bytes_eq-Decides)

other_text : (x y : List ℕ) → bytes_eq x y ≡ false → x ≡ y → ⊥
other_text x y e same = let wrong : true ≡ false = sym (nat_list_eq_equiv.refl x) ∙ ap (bytes_eq x) same ∙ e in absurd (cc (wrong))

-- what stands at a place of two maps
module _ (m n : Files) (i : ℕ) (one other : File) (in_m : i < len m) (in_n : i < len n) (one_is : one ≡ slice_index_or (entries m) i one) (other_is : other ≡ slice_index_or (entries n) i other) where
  mine : slice_get (entries m) i ≡ Some one
  mine = slice_get_read (entries m) (length (entries m)) i one refl (omega (arith, in_m, len-entries m)) one_is

  its : slice_get (entries n) i ≡ Some other
  its = slice_get_read (entries n) (length (entries n)) i other refl (omega (arith, in_n, len-entries n)) other_is

  alike : slice_get (entries m) i ≡ slice_get (entries n) i → one ≡ other
  alike same = let e : Some one ≡ Some other = sym mine ∙ same ∙ its in cc (e)

  -- the paths are the same
  pub same_file : (b : Bool) → bytes_eq one.0 other.0 ≡ true → b ≡ bytes_eq one.1 other.1
      → (b ≡ true → slice_get (entries m) i ≡ slice_get (entries n) i) × (slice_get (entries m) i ≡ slice_get (entries n) i → b ≡ true)
  same_file b paths is = (
    λ yes. mine ∙ (λ k. Some (same_text one.0 other.0 paths k, same_text one.1 other.1 (sym is ∙ yes) k)) ∙ sym its,
    λ same. is ∙ ap (bytes_eq one.1) (sym (ap (λ (f : File). f.1) (alike same))) ∙ nat_list_eq_equiv.refl one.1,
  )

  -- they differ
  pub other_file : (b : Bool) → bytes_eq one.0 other.0 ≡ false → b ≡ bytes_eq one.0 other.0
      → (b ≡ true → slice_get (entries m) i ≡ slice_get (entries n) i) × (slice_get (entries m) i ≡ slice_get (entries n) i → b ≡ true)
  other_file b paths is = (
    λ yes. let wrong : true ≡ false = sym yes ∙ is ∙ paths in absurd (cc (wrong)),
    λ same. absurd (other_text one.0 other.0 paths (ap (λ (f : File). f.0) (alike same))),
  )

-- a place more at which they agree
pub same_next : (m n : Files) (i next : ℕ) → next ≡ i + 1 → i < len m → len m ≡ len n → slice_get (entries m) i ≡ slice_get (entries n) i → take i (entries m) ≡ take i (entries n) → take next (entries m) ≡ take next (entries n)
same_next m n i next is within same at so_far =
    let d : File = ([], []) in
    let in_m : i < length (entries m) = omega (arith, within, len-entries m) in
    let in_n : i < length (entries n) = omega (arith, within, same, len-entries n) in
    let both : Some (get_or (entries m) i d) ≡ Some (get_or (entries n) i d) = sym (slice_get-get_or (entries m) i d in_m) ∙ at ∙ slice_get-get_or (entries n) i d in_n in
    let one : get_or (entries m) i d ≡ get_or (entries n) i d = cc (both) in
    let step : suc i ≡ next = omega (arith, is) in
    subst (λ (k : ℕ). take k (entries m) ≡ take k (entries n)) step
    (take-suc (entries m) i d in_m ∙ (λ k. so_far k ++ one k ∷ []) ∙ sym (take-suc (entries n) i d in_n))

-- they agree at each place
pub same_all : (m n : Files) (i : ℕ) → len m ≡ len n → len m ≤ i → take i (entries m) ≡ take i (entries n) → m ≡ n
same_all m n i same past so_far =
    same_entries_map m n
    (sym (take_all i (entries m) (omega (arith, past, len-entries m))) ∙ so_far ∙ take_all i (entries n) (omega (arith, past, same, len-entries n)))
