-- How much the values of a map come to in all, and how many ids a pool holds.
use Rattle.std.proofs.Common.{◌≡◌, ℕ, ◌+◌, Bool, true, false, cond, ◌&&◌, List, [], ◌∷◌, length, Option, Some, None, refl, sym, ap, subst, ◌∙◌, arith}
use Rattle.std.proofs.lemmas.Cmp.{nat_cmp_total, tied_itself}
use Rattle.std.proofs.lemmas.List.Sums.{sum_by-cons}
use Rattle.std.specs.Cmp.{IsTotalOrder}
use Rattle.std.specs.FinMap.{FinMap, entries, entries-insert, entries_sorted, find, get, get-entries, insert, is_sorted, put}
use Rattle.std.specs.FinMap.Entries.{below_all, by_order, find_tied}
use Rattle.std.specs.List.{sum_by}
use Rattle.std.specs.Option.{option_map_or}
use Rattle.std.specs.Ordering.{is_lt, is_eq, nat_cmp}
use Rattle.std.specs.Prelude.{T}
use Rattle.std.specs.declared.cmp.Ordering.{Ordering}
use Rattle.std.specs.declared.cmp.Ordering.TheVariants.{Less, Equal, Greater}
use Rattle.text_pool.specs.Texts.{Texts, HeldText, count_of, held_ids, without_id, IsHeld}
use Rattle.text_pool.proofs.TextLaws.{count-without, held_ids-without}
use Rattle.read_record.specs.Stores.{times}
use Rattle.read_record.proofs.StoreLaws.{times-first}

front_of : (a b : Bool) → T (a && b) → T a
front_of true b p = tt
front_of false b p = absurd p

back_of : (a b : Bool) → T (a && b) → T b
back_of true b p = p
back_of false b p = absurd p

less : (r : Ordering) → T (is_lt r) → r ≡ Less
less Less p = refl
less Equal p = absurd p
less Greater p = absurd p

module _ {K X : Type 0} (R : K → K → Ordering) (o : IsTotalOrder R) (f : X → ℕ) where
  abbrev total : List (K × X) → ℕ
  total es = sum_by (λ e. f e.1) es

  abbrev size : Option X → ℕ
  size x = option_map_or f x 0

  total-cons : (e : K × X) (es : List (K × X)) → total (e ∷ es) ≡ f e.1 + total es
  total-cons e es = sum_by-cons (λ (e : K × X). f e.1) e es

  -- a key below all others stands nowhere
  find_below : (k : K) (es : List (K × X)) → T (below_all R k es) → find R k es ≡ None
  find_below k [] h = refl
  find_below k (e ∷ es) h = ap (λ r. cond (is_eq r) (Some e.1) (find R k es)) (less _ (front_of _ _ h)) ∙ find_below k es (back_of _ _ h)

  below_less : (x y : K) (es : List (K × X)) → R x y ≡ Less → T (below_all R y es) → T (below_all R x es)
  below_less x y [] p h = tt
  below_less x y (e ∷ es) p h = join _ _ (subst (λ r. T (is_lt r)) (sym (o.trans x y e.0 p (less _ (front_of _ _ h)))) tt) (below_less x y es p (back_of _ _ h))
    where
      join : (a b : Bool) → T a → T b → T (a && b)
      join true b p q = q
      join false b p q = p

  total-put : (k : K) (x : X) (es : List (K × X)) → T (is_sorted R es) → total (put R k x es) + size (find R k es) ≡ total es + f x
  total-put k x [] h = let one = total-cons (k, x) [] in omega (arith, one)
  total-put k x (e ∷ es) h =
      elim (R k e.0) as (λ r. R k e.0 ≡ r → total (by_order r ((k, x) ∷ e ∷ es) ((e.0, x) ∷ es) (e ∷ put R k x es)) + size (cond (is_eq r) (Some e.1) (find R k es)) ≡ total (e ∷ es) + f x) [
        | Less ↦ λ p.
            let none : find R k es ≡ None = find_below k es (below_less k e.0 es p (front_of _ _ h)) in
            let zero_there : size (find R k es) ≡ 0 = ap size none in
            omega (arith, total-cons (k, x) (e ∷ es), zero_there)
        | Equal ↦ λ p. omega (arith, total-cons (e.0, x) es, total-cons e es)
        | Greater ↦ λ p. omega (arith, total-cons e (put R k x es), total-cons e es, total-put k x es (back_of _ _ h))
      ] refl

  -- with a value under a key, in place of what stood there
  pub total-insert : (m : FinMap R X) (k : K) (x : X) → total (entries (insert m k x)) + size (get m k) ≡ total (entries m) + f x
  total-insert m k x =
      ap (λ (n : ℕ). n + size (get m k)) (ap total (entries-insert o m k x))
      ∙ ap (λ (n : ℕ). total (put R k x (entries m)) + n) (ap size (get-entries m k))
      ∙ total-put k x (entries m) (entries_sorted m)

  -- where each value comes to nothing, so do all
  total-none : (es : List (K × X)) → T (is_sorted R es) → ((q : K) → size (find R q es) ≡ 0) → total es ≡ 0
  total-none [] s h = refl
  total-none (e ∷ es) s h =
      let own : size (find R e.0 (e ∷ es)) ≡ f e.1 = ap (λ r. size (cond (is_eq r) (Some e.1) (find R e.0 es))) (tied_itself o e.0) in
      let rest : total es ≡ 0 = total-none es (back_of _ _ s) others in
      omega (arith, own, h e.0, rest, total-cons e es)
    where
      others : (q : K) → size (find R q es) ≡ 0
      others q =
          elim (R q e.0) as (λ r. R q e.0 ≡ r → size (cond (is_eq r) (Some e.1) (find R q es)) ≡ 0 → size (find R q es) ≡ 0) [
            | Less ↦ λ p g. g
            | Equal ↦ λ p g. ap size (sym (find_tied R o q e.0 p es) ∙ find_below e.0 es (front_of _ _ s))
            | Greater ↦ λ p g. g
          ] refl (h q)

  pub total-nothing : (m : FinMap R X) → ((q : K) → size (get m q) ≡ 0) → total (entries m) ≡ 0
  total-nothing m h = total-none (entries m) (entries_sorted m) (λ q. ap size (sym (get-entries m q)) ∙ h q)

-- where each number has as many ids as it stands in a list, there are as many as the list has numbers
pub ids-listed : (texts : Texts) (numbers : List ℕ) → ((q : ℕ) → count_of texts q ≡ times q numbers) → held_ids texts ≡ length numbers
ids-listed texts [] counts = total-nothing nat_cmp nat_cmp_total (λ (t : HeldText). t.count) texts counts
ids-listed texts (n ∷ numbers) counts =
    let held : IsHeld texts n = omega (arith, counts n, times-first n numbers) in
    let rest : held_ids (without_id texts n) ≡ length numbers = ids-listed (without_id texts n) numbers (λ q. omega (arith, counts q, count-without texts n q held)) in
    omega (arith, rest, held_ids-without texts n held)
