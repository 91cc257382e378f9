-- Records that are gone through by places.
use Rattle.std.proofs.Common.{◌≡◌, ℕ, zero, suc, ◌+◌, ◌≤◌, List, [], ◌∷◌, ◌++◌, length, take, drop, slice_get, slice_set, ◌⊎◌, inl, inr, Some, refl, ap, sym, ◌∙◌, add-one, take_all}
use Rattle.std.proofs.Math.ListN.{drop_of_length-le}
use Rattle.read_record.specs.declared.key.Key.{Key}
use Rattle.read_record.specs.declared.outcome.Agreement.{Agreement}
use Rattle.read_record.specs.declared.outcome.Checked.TheVariants as checked
use Rattle.read_record.specs.Queries.{View, Reads}
use Rattle.read_record.specs.Records.{agreement_of, checked_at, first_other_from, first_other}

module _ {A : Type 0} where
  drop-suc : (xs : List A) (i : ℕ) (x : A) → slice_get xs i ≡ Some x → drop i xs ≡ x ∷ drop (suc i) xs
  drop-suc [] i x h = cc
  drop-suc (y ∷ xs) zero x h = let e : y ≡ x = cc in ap (λ z. z ∷ xs) e
  drop-suc (y ∷ xs) (suc i) x h = drop-suc xs i x h

  pub take-next : (xs : List A) (i : ℕ) (x : A) → slice_get xs i ≡ Some x → take (suc i) xs ≡ take i xs ++ x ∷ []
  take-next [] i x h = cc
  take-next (y ∷ xs) zero x h = let e : y ≡ x = cc in ap (λ z. z ∷ []) e
  take-next (y ∷ xs) (suc i) x h = ap (λ zs. y ∷ zs) (take-next xs i x h)

  -- what stands at a place after a change stood there, or is the new one
  pub get-set : (xs : List A) (i j : ℕ) (a x : A) → slice_get (slice_set xs i a) j ≡ Some x → (slice_get xs j ≡ Some x) ⊎ ((j ≡ i) × (a ≡ x))
  get-set [] i j a x h = inl h
  get-set (y ∷ ys) zero zero a x h = inr (refl, cc)
  get-set (y ∷ ys) zero (suc j) a x h = inl h
  get-set (y ∷ ys) (suc i) zero a x h = inl h
  get-set (y ∷ ys) (suc i) (suc j) a x h = go (get-set ys i j a x h)
    where
      go : (slice_get ys j ≡ Some x) ⊎ ((j ≡ i) × (a ≡ x)) → (slice_get ys j ≡ Some x) ⊎ ((suc j ≡ suc i) × (a ≡ x))
      go (inl e) = inl e
      go (inr e) = inr (ap suc e.0, e.1)

-- ---- agreement, place by place

module _ (reads : Reads) (view : View) (i : ℕ) (k : Key) (seen : List ℕ) (h : slice_get reads i ≡ Some (k, seen)) (so_far : first_other_from 0 reads view ≡ first_other_from i (drop i reads) view) where
  pub next-place : (a : Agreement) → a ≡ agreement_of (view k) seen → first_other reads view ≡ checked_at a i (first_other_from (i + 1) (drop (i + 1) reads) view)
  next-place a e = so_far ∙ rw (drop-suc reads i (k, seen) h, add-one i, e) refl

pub no-more : (reads : Reads) (view : View) (i : ℕ) → length reads ≤ i → first_other_from 0 reads view ≡ first_other_from i (drop i reads) view → first_other reads view ≡ checked.Agrees
no-more reads view i h so_far = so_far ∙ ap (λ rest. first_other_from i rest view) (drop_of_length-le reads h)

-- ---- copies, place by place

pub taken-one : (reads old new : Reads) (i : ℕ) (r r' : Key × List ℕ) → slice_get reads i ≡ Some r → r' ≡ r → old ≡ take i reads → new ≡ old ++ r' ∷ [] → new ≡ take (i + 1) reads
taken-one reads old new i r r' h f g p = p ∙ ap (λ x. old ++ x ∷ []) f ∙ ap (λ es. es ++ r ∷ []) g ∙ sym (take-next reads i r h) ∙ ap (λ n. take n reads) (sym (add-one i))

pub taken-all : (reads new : Reads) (i : ℕ) → length reads ≤ i → new ≡ take i reads → new ≡ reads
taken-all reads new i past e = e ∙ take_all i reads past
