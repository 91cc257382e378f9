-- A loop of look-ups over a list: a query for each element in turn, and what is made of its value.
use Rattle.std.proofs.Common.{◌≡◌, ◌∙◌, ℕ, ◌+◌, ◌<◌, ◌≤◌, List, [], ◌∷◌, length, drop, get_or, ap, sym, subst}
use Rattle.std.proofs.lemmas.List.{at_drop_more, at_drop_all}
use Rattle.read_record.specs.Answers.{Stops}
use Rattle.read_record.specs.Queries.{Query, bind, View, Trace, RanTo, run}
use Rattle.read_record.specs.declared.stop.Stop.{Stop}
use Rattle.read_record.proofs.CallLaws.{stops_bind}
use Rattle.read_record.proofs.QueryLaws.{run_gave}

module _ {F A V X B : Type 0} (walk : A → List X → Query F B) (each : A → X → Query F V) (more : A → X → V → A)
    (steps : (a : A) (x : X) (xs : List X) → walk a (x ∷ xs) ≡ bind (each a x) (λ v. walk (more a x v) xs)) where
  module _ (xs : List X) (i : ℕ) (x : X) (lt : i < length xs) (is : x ≡ get_or xs i x) (a : A) (view : View) (t : Trace) where
    next_is : walk a (drop i xs) ≡ bind (each a x) (λ v. walk (more a x v) (drop (i + 1) xs))
    next_is = at_drop_more (walk a) xs i x lt ∙ ap (λ (y : X). walk a (y ∷ drop (i + 1) xs)) (sym is) ∙ steps a x (drop (i + 1) xs)

    -- what is left, once the query for an element gave its value
    pub walked : (v : V) (s : Trace) → run view t (each a x) ≡ RanTo v s → run view t (walk a (drop i xs)) ≡ run view s (walk (more a x v) (drop (i + 1) xs))
    walked v s gave = ap (run view t) next_is ∙ run_gave view t (each a x) (λ v. walk (more a x v) (drop (i + 1) xs)) v s gave

    -- and where it stopped
    pub walk_stops : (e : Stop F) (s : Trace) → Stops (run view t (each a x)) e s → Stops (run view t (walk a (drop i xs))) e s
    walk_stops e s h = subst (λ q. Stops (run view t q) e s) (sym next_is) (stops_bind view t (each a x) (λ v. walk (more a x v) (drop (i + 1) xs)) e s h)

  -- nothing is left behind the last
  pub walk_ends : (xs : List X) (i : ℕ) (a : A) (view : View) (t : Trace) → length xs ≤ i → run view t (walk a (drop i xs)) ≡ run view t (walk a [])
  walk_ends xs i a view t le = at_drop_all (λ ys. run view t (walk a ys)) xs i le
