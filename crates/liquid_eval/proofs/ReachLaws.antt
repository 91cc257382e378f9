-- What the calls of the cycle tell of one another.
use Rattle.std.proofs.Common.{◌≡◌, ◌∙◌, refl, ap, sym, subst, List, ℕ, zero, suc, ◌+◌, ◌-◌, ◌<◌, ◌≤◌, ◌∷◌, drop, length, Some, Result, Ok, Err, arith}
use Rattle.std.specs.List.{slice_get}
use Rattle.std.proofs.lemmas.List.{at_drop_all, at_drop_more}
use Rattle.std.proofs.lemmas.Option.{get_or_from_slice_get, slice_get_within}
use Rattle.site_base.specs.Plain.{Plain}
use Rattle.site_base.specs.declared.faults.FaultKind.TheVariants.{Nesting}
use Rattle.site_base.specs.declared.faults.SiteFault.{SiteFault}
use Rattle.read_record.proofs.CallLaws.{stops_at, stops_bind}
use Rattle.read_record.proofs.QueryLaws.{run_gave}
use Rattle.read_record.specs.Answers.{Stops}
use Rattle.read_record.specs.Queries.{Query, View, Trace, Ran, RanTo, bind, run}
use Rattle.read_record.specs.declared.stop.Stop.{Stop}
use Rattle.read_record.specs.declared.stop.Stop.TheVariants as stop
use Rattle.liquid_grammar.specs.Trees.{Tree, done, leaf, block, part}
use Rattle.liquid_values.specs.Names.{Excerpting}
use Rattle.liquid_values.specs.Answers.{IsFault}
use Rattle.liquid_values.specs.Places.{Place, fault_at}
use Rattle.liquid_tags.proofs.IncludeLaws.{fault_stops}
use Rattle.liquid_tags.specs.declared.state.State.{State}
use Rattle.liquid_eval.specs.Answers.{Reaches, Uses}
use Rattle.liquid_eval.specs.Firsts.{first_node, behind}
use Rattle.liquid_eval.specs.Loops.{taking, go_on}
use Rattle.liquid_eval.specs.Nodes.{nodes, entering, follow}
use Rattle.liquid_eval.specs.Reached.{Reached, reached, Enter}
use Rattle.liquid_eval.specs.declared.work.Work.{Work}
use Rattle.liquid_eval.specs.declared.signal.Signal.{Signal}
use Rattle.liquid_eval.specs.declared.signal.Signal.TheVariants.{Next, Break, Continue}

pub reach_at : (a b : Ran SiteFault Reached) (r : Result Signal (Stop SiteFault)) (s : State) (t : Trace) → a ≡ b → Reaches b r s t → Reaches a r s t
reach_at a b (Ok signal) s t e h = e ∙ h
reach_at a b (Err f) s t e h = stops_at a b f t e h

uses_runs : (view : View) (t : Trace) (q : Query SiteFault Reached) (x : Result Signal (Stop SiteFault)) (s : State) → Uses q x s → Reaches (run view t q) x s t
uses_runs view t q (Ok signal) s h = ap (run view t) h
uses_runs view t q (Err (stop.Fault f)) s h = ap (run view t) h
uses_runs view t q (Err (stop.Needs j)) s h = absurd h
uses_runs view t q (Err stop.Memory) s h = tt

module _ {A : Type 0} (view : View) (t : Trace) (q : Query SiteFault A) (next : A → Query SiteFault Reached) where
  -- a use of what was found, which looks nothing up
  pub uses_then : (a : A) (u : Trace) (x : Result Signal (Stop SiteFault)) (s : State) → run view t q ≡ RanTo a u → Uses (next a) x s → Reaches (run view t (bind q next)) x s u
  uses_then a u x s gave h = reach_at _ _ x s u (run_gave view t q next a u gave) (uses_runs view u (next a) x s h)

-- what is left of a tag
pub led : (left : Work → Query SiteFault Reached) (view other : View) (whole : Ran SiteFault Reached) (w : Work) (u : Trace) (x : Result Signal (Stop SiteFault)) (s : State) (v : Trace) →
    other ≡ view → whole ≡ run view u (left w) → Reaches (run other u (left w)) x s v → Reaches whole x s v
led left view other whole w u x s v same leads h = reach_at whole (run other u (left w)) x s v (leads ∙ ap (λ y. run y u (left w)) (sym same)) h

-- ---- Nodes

module _ (excerpts : Excerpting) (enter : Enter) (p : Place) where
  pub nodes_step : (t : Tree) (s : State) → nodes excerpts enter p t s ≡ bind (first_node excerpts enter p t s) (λ r. follow r (nodes excerpts enter p (behind t) r.state))
  nodes_step done s = refl
  nodes_step (leaf line l rest) s = refl
  nodes_step (block line b parts rest) s = refl
  nodes_step (part line head body rest) s = refl

  module _ (view : View) (t : Trace) (n : Tree) (s now : State) (u : Trace) where
    abbrev next : Reached → Query SiteFault Reached
    next r = follow r (nodes excerpts enter p (behind n) r.state)

    -- what is left behind the first node
    pub passed : run view t (first_node excerpts enter p n s) ≡ RanTo (reached now Next) u → run view t (nodes excerpts enter p n s) ≡ run view u (nodes excerpts enter p (behind n) now)
    passed h = ap (run view t) (nodes_step n s) ∙ run_gave view t (first_node excerpts enter p n s) next (reached now Next) u h

    -- nothing is, where a loop ends or goes on in it
    pub broke : run view t (first_node excerpts enter p n s) ≡ RanTo (reached now Break) u → run view t (nodes excerpts enter p n s) ≡ RanTo (reached now Break) u
    broke h = ap (run view t) (nodes_step n s) ∙ run_gave view t (first_node excerpts enter p n s) next (reached now Break) u h

    pub continued : run view t (first_node excerpts enter p n s) ≡ RanTo (reached now Continue) u → run view t (nodes excerpts enter p n s) ≡ RanTo (reached now Continue) u
    continued h = ap (run view t) (nodes_step n s) ∙ run_gave view t (first_node excerpts enter p n s) next (reached now Continue) u h

    pub stopped : (e : Stop SiteFault) → Stops (run view t (first_node excerpts enter p n s)) e u → Stops (run view t (nodes excerpts enter p n s)) e u
    stopped e h = stops_at _ _ e u (ap (run view t) (nodes_step n s)) (stops_bind view t (first_node excerpts enter p n s) next e u h)

-- ---- Turns

at_get : (vs : List Plain) (i : ℕ) (v : Plain) → slice_get vs i ≡ Some v → drop i vs ≡ v ∷ drop (i + 1) vs
at_get vs i v h = at_drop_more (λ ws. ws) vs i v (slice_get_within vs i v h) ∙ ap (λ x. x ∷ drop (i + 1) vs) (get_or_from_slice_get vs i v v h)

module _ (turn : ℕ → Plain → State → Query SiteFault Reached) (view : View) (t : Trace) (vs : List Plain) (i : ℕ) (v : Plain) (there : slice_get vs i ≡ Some v) (s now : State) (u : Trace) where
  abbrev after : Reached → Query SiteFault State
  after r = go_on r (taking turn (i + 1) (drop (i + 1) vs) r.state)

  turns_step : taking turn i (drop i vs) s ≡ bind (turn i v s) after
  turns_step = ap (λ ws. taking turn i ws s) (at_get vs i v there)

  -- the turns that are left behind one
  pub went_on : run view t (turn i v s) ≡ RanTo (reached now Next) u → run view t (taking turn i (drop i vs) s) ≡ run view u (taking turn (i + 1) (drop (i + 1) vs) now)
  went_on h = ap (run view t) turns_step ∙ run_gave view t (turn i v s) after (reached now Next) u h

  pub went_on_early : run view t (turn i v s) ≡ RanTo (reached now Continue) u → run view t (taking turn i (drop i vs) s) ≡ run view u (taking turn (i + 1) (drop (i + 1) vs) now)
  went_on_early h = ap (run view t) turns_step ∙ run_gave view t (turn i v s) after (reached now Continue) u h

  -- none are, where the loop ends in it
  pub left : run view t (turn i v s) ≡ RanTo (reached now Break) u → run view t (taking turn i (drop i vs) s) ≡ RanTo now u
  left h = ap (run view t) turns_step ∙ run_gave view t (turn i v s) after (reached now Break) u h

  pub turn_stops : (e : Stop SiteFault) → Stops (run view t (turn i v s)) e u → Stops (run view t (taking turn i (drop i vs) s)) e u
  turn_stops e h = stops_at _ _ e u (ap (run view t) turns_step) (stops_bind view t (turn i v s) after e u h)

module _ (turn : ℕ → Plain → State → Query SiteFault Reached) (view : View) (t : Trace) (vs : List Plain) (i : ℕ) (s : State) where
  pub all_taken : length vs ≤ i → run view t (taking turn i (drop i vs) s) ≡ RanTo s t
  all_taken past = at_drop_all (λ ws. run view t (taking turn i ws s)) vs i past

-- ---- Levels

module _ (excerpts : ℕ → Excerpting) (tag p : Place) (inside : Tree) (s : State) where
  deeper : (levels : ℕ) → 0 < levels → entering excerpts levels tag p inside s ≡ nodes (excerpts (levels - 1)) (entering excerpts (levels - 1)) p inside s
  unfolding entering
  deeper zero some = absurd (omega (arith, some))
  deeper (suc n) some = let e : n ≡ suc n - 1 = omega arith in ap (λ (m : ℕ). nodes (excerpts m) (entering excerpts m) p inside s) e

  module _ (view : View) (t : Trace) where
    -- no level is left
    pub too_deep : (levels : ℕ) (e : Stop SiteFault) → levels ≡ 0 → IsFault (fault_at tag Nesting) e → Stops (run view t (entering excerpts levels tag p inside s)) e t
    unfolding entering
    too_deep levels e none h = subst (λ (m : ℕ). Stops (run view t (entering excerpts m tag p inside s)) e t) (sym none) (fault_stops Reached view t (fault_at tag Nesting) e h)

    -- one level less is left inside
    pub entered_deeper : (levels m : ℕ) (q : Place) (x : Result Signal (Stop SiteFault)) (now : State) (u : Trace) → 0 < levels → m ≡ levels - 1 → q ≡ p →
        Reaches (run view t (nodes (excerpts m) (entering excerpts m) q inside s)) x now u → Reaches (run view t (entering excerpts levels tag p inside s)) x now u
    entered_deeper levels m q x now u some fewer same h =
        reach_at _ _ x now u (ap (run view t) (deeper levels some)) (subst (λ (k : ℕ). Reaches (run view t (nodes (excerpts k) (entering excerpts k) p inside s)) x now u) fewer
        (subst (λ (r : Place). Reaches (run view t (nodes (excerpts m) (entering excerpts m) r inside s)) x now u) same h))

pub ruleset reaches = (reach_at, run_gave, stops_bind)
