-- A map that is collected from pairs has the entries of inserting them one after another.
use Rattle.std.proofs.Common.{◌≡◌, Bool, true, false, cond, List, [], ◌∷◌, Option, Some, Ordering, Less, Equal, Greater, is_lt, is_eq, refl, sym, ap, subst, ◌∙◌}
use Rattle.std.specs.Prelude.{◌&&◌, T, fold}
use Rattle.std.specs.BTreeMap.{BTreeMap, IsFromIterResult, insert_entry, is_at}
use Rattle.std.specs.Cmp.{IsTotalOrder}
use Rattle.std.specs.FinMap.{IsAntisymmetric}
use Rattle.std.specs.FinMap.Entries.{below_all, by_order, find, find-put, is_sorted, is_sorted-put, put, same_entries}
use Rattle.std.specs.List.{AllByRecursion}
use Rattle.std.specs.List.Sorted.{IsStrictlySortedBy}
use Rattle.std.specs.Map.{keys_of, lookup, update, update_all}
use Rattle.std.specs.Ordering.{eq_by_cmp, match_ordering, ordering_reverse}

both : (a b : Bool) → T a → T b → T (a && b)
both true b p q = q
both false b p q = p

turned : (r : Ordering) → is_eq (ordering_reverse r) ≡ is_eq r
turned Less = refl
turned Equal = refl
turned Greater = refl

module _ {K X : Type 0} {R : K → K → Ordering} (o : IsTotalOrder R) where
  placed : (k : K) (v : X) (es : List (K × X)) → insert_entry R es k v ≡ put R k v es
  placed k v [] = refl
  placed k v (e ∷ es) = by (R k e.0) (placed k v es)
    where
      by : (r : Ordering) → insert_entry R es k v ≡ put R k v es
          → match_ordering r ((k, v) ∷ e ∷ es) ((e.0, v) ∷ es) (e ∷ insert_entry R es k v) ≡ by_order r ((k, v) ∷ e ∷ es) ((e.0, v) ∷ es) (e ∷ put R k v es)
      by Less rest = refl
      by Equal rest = refl
      by Greater rest = ap (λ l. e ∷ l) rest

  found : (q : K) (es : List (K × X)) → find R q es ≡ lookup (is_at (R q)) es
  found q [] = refl
  found q (e ∷ es) = ap (λ r. cond (is_eq (R q e.0)) (Some e.1) r) (found q es)

  below : (k : K) (es : List (K × X)) → AllByRecursion (λ q. R k q ≡ Less) (keys_of es) → T (below_all R k es)
  below k [] all = tt
  below k (e ∷ es) all = both _ _ (subst (λ r. T (is_lt r)) (sym all.0) tt) (below k es all.1)

  rises : (es : List (K × X)) → IsStrictlySortedBy R (keys_of es) → T (is_sorted R es)
  unfolding IsStrictlySortedBy
  rises [] sorted = tt
  rises (e ∷ es) sorted = both _ _ (below e.0 es sorted.0) (rises es sorted.1)

  abbrev pub all_put : List (K × X) → List (K × X) → List (K × X)
  all_put es ps = fold (λ made e. insert_entry R made e.0 e.1) es ps

  pub stays_sorted : (es ps : List (K × X)) → T (is_sorted R es) → T (is_sorted R (all_put es ps))
  stays_sorted es [] sorted = sorted
  stays_sorted es (p ∷ ps) sorted = stays_sorted (insert_entry R es p.0 p.1) ps (subst (λ l. T (is_sorted R l)) (sym (placed p.0 p.1 es)) (is_sorted-put R o p.0 p.1 es sorted))

  same_at : (f g : K → Option X) (ps : List (K × X)) (q : K) → f q ≡ g q → update_all (eq_by_cmp R) f ps q ≡ update_all (eq_by_cmp R) g ps q
  same_at f g [] q same = same
  same_at f g (p ∷ ps) q same =
      same_at (update (eq_by_cmp R) f p.0 (Some p.1)) (update (eq_by_cmp R) g p.0 (Some p.1)) ps q (ap (λ r. cond (eq_by_cmp R p.0 q) (Some p.1) r) same)

  gives : (es ps : List (K × X)) (q : K) → find R q (all_put es ps) ≡ update_all (eq_by_cmp R) (λ k. find R k es) ps q
  gives es [] q = refl
  gives es (p ∷ ps) q =
      let back : eq_by_cmp R q p.0 ≡ eq_by_cmp R p.0 q = ap is_eq (o.antisymm q p.0) ∙ turned (R p.0 q) in
      gives (insert_entry R es p.0 p.1) ps q
      ∙ same_at (λ k. find R k (insert_entry R es p.0 p.1)) (update (eq_by_cmp R) (λ k. find R k es) p.0 (Some p.1)) ps q
      (ap (find R q) (placed p.0 p.1 es) ∙ find-put R o q p.0 p.1 es ∙ ap (λ b. cond b (Some p.1) (find R q es)) back)

  pub collected : IsAntisymmetric R → (ps : List (K × X)) (n : BTreeMap K X) → IsFromIterResult R ps n → n.entries ≡ all_put [] ps
  collected same ps n is =
      same_entries R o same n.entries (all_put [] ps) (rises n.entries is.1) (stays_sorted [] ps tt) (λ q. found q n.entries ∙ is.0 q ∙ sym (gives [] ps q))
