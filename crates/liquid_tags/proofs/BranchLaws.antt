-- The parts of a block, of which one is chosen, and the values of a `when`.
use Rattle.std.proofs.Common.{◌≡◌, ◌∙◌, ℕ, ◌+◌, ◌<◌, ◌≤◌, true, false, List, [], ◌∷◌, length, drop, get_or, refl, sym, ap}
use Rattle.std.specs.Prelude.{Option, None, Some, Result}
use Rattle.std.proofs.lemmas.List.{at_drop_more, at_drop_all}
use Rattle.site_base.specs.Plain.{Plain, Pairs}
use Rattle.site_base.specs.declared.faults.SiteFault.{SiteFault}
use Rattle.read_record.proofs.CallLaws.{finds_at}
use Rattle.read_record.specs.Answers.{Stops, Finds}
use Rattle.read_record.specs.Queries.{Query, Give, bind, View, Trace, Ran, RanTo, run}
use Rattle.read_record.specs.declared.stop.Stop.{Stop}
use Rattle.list_filters.specs.Choosing.{same_value}
use Rattle.liquid_grammar.specs.declared.item.Part.{Part}
use Rattle.liquid_grammar.specs.Operands.{Operand}
use Rattle.liquid_grammar.specs.Trees.{Tree, done, leaf, block, part}
use Rattle.liquid_values.specs.Names.{Excerpting}
use Rattle.liquid_values.specs.Operands.{operand}
use Rattle.liquid_values.specs.Places.{Place, at_line}
use Rattle.liquid_tags.specs.Branches.{Choice, chosen, if_part, fails_test, unless_part, equals_one}
use Rattle.liquid_tags.specs.Nodes.{parts_from}
use Rattle.liquid_tags.proofs.ConditionLaws.{ends_stops, ends_here, ends_later}

chosen-from : (takes : Choice) (p : Place) (t : Tree) → chosen takes p (parts_from t) ≡ chosen takes p t
chosen-from takes p done = refl
chosen-from takes p (leaf line l rest) = chosen-from takes p rest
chosen-from takes p (block line b parts rest) = chosen-from takes p rest
chosen-from takes p (part line head body rest) = refl

pub chosen_none : (takes : Choice) (p : Place) (t : Tree) → done ≡ parts_from t → chosen takes p t ≡ Give None
chosen_none takes p t e = sym (chosen-from takes p t) ∙ ap (chosen takes p) (sym e)

pub chosen_ends : (takes : Choice) (p : Place) (t : Tree) (view : View) (u : Trace) (r : Ran SiteFault (Option Tree)) → r ≡ run view u (chosen takes p t) → done ≡ parts_from t → r ≡ RanTo None u
chosen_ends takes p t view u r h e = h ∙ ap (run view u) (chosen_none takes p t e)

pub ruleset choosing = (chosen_ends)

-- the first part, where its tag stands at this place, from which as many levels may be entered
module _ (takes : ℕ → Choice) (n m : ℕ) (p at : Place) (t : Tree) (line : ℕ) (head : Part) (body behind : Tree) (e : part line head body behind ≡ parts_from t)
    (is : at ≡ at_line line p) (levels : n ≡ m) (view : View) (u s : Trace) where
  chosen_next : chosen (takes m) p t ≡ bind (takes n at head) (λ b. elim b [ true ↦ Give (Some body) | false ↦ chosen (takes m) p behind ])
  chosen_next =
      sym (chosen-from (takes m) p t) ∙ ap (chosen (takes m) p) (sym e)
      ∙ (λ i. bind (takes (sym levels i) (sym is i) head) (λ b. elim b [ true ↦ Give (Some body) | false ↦ chosen (takes m) p behind ]))

  pub chosen_stops : (x : Stop SiteFault) → Stops (run view u (takes n at head)) x s → Stops (run view u (chosen (takes m) p t)) x s
  chosen_stops x h = ends_stops view u (chosen (takes m) p t) (takes n at head) (λ b. b) (λ b. Some body) (chosen (takes m) p behind) chosen_next x s h

  pub chosen_taken : run view u (takes n at head) ≡ RanTo true s → run view u (chosen (takes m) p t) ≡ RanTo (Some body) s
  chosen_taken h = ends_here view u (chosen (takes m) p t) (takes n at head) (λ b. b) (λ b. Some body) (chosen (takes m) p behind) chosen_next true s h refl

  pub chosen_passed : run view u (takes n at head) ≡ RanTo false s → run view u (chosen (takes m) p t) ≡ run view s (chosen (takes m) p behind)
  chosen_passed h = ends_later view u (chosen (takes m) p t) (takes n at head) (λ b. b) (λ b. Some body) (chosen (takes m) p behind) chosen_next false s h refl

-- the first part of an `unless`
module _ (ex : ℕ → Excerpting) (n m : ℕ) (vars : Pairs) (p at : Place) (t : Tree) (line : ℕ) (head : Part) (body behind : Tree) (e : t ≡ part line head body behind)
    (is : at ≡ at_line line p) (levels : n ≡ m) (view : View) (u s : Trace) where
  unless_next : unless_part (ex m) p vars t ≡ bind (fails_test (ex n) vars at head) (λ b. elim b [ true ↦ Give (Some body) | false ↦ if_part (ex m) p vars behind ])
  unless_next =
      ap (unless_part (ex m) p vars) e
      ∙ (λ i. bind (fails_test (ex (sym levels i)) vars (sym is i) head) (λ b. elim b [ true ↦ Give (Some body) | false ↦ if_part (ex m) p vars behind ]))

  pub unless_taken : run view u (fails_test (ex n) vars at head) ≡ RanTo true s → run view u (unless_part (ex m) p vars t) ≡ RanTo (Some body) s
  unless_taken h = ends_here view u (unless_part (ex m) p vars t) (fails_test (ex n) vars at head) (λ b. b) (λ b. Some body) (if_part (ex m) p vars behind) unless_next true s h refl

  pub unless_passed : (x : Result (Option Tree) (Stop SiteFault)) (z : Trace) → run view u (fails_test (ex n) vars at head) ≡ RanTo false s
      → Finds (run view s (if_part (ex m) p vars behind)) x z → Finds (run view u (unless_part (ex m) p vars t)) x z
  unless_passed x z h g =
      finds_at _ _ x z (ends_later view u (unless_part (ex m) p vars t) (fails_test (ex n) vars at head) (λ b. b) (λ b. Some body) (if_part (ex m) p vars behind) unless_next false s h refl) g

-- ---- The values of a `when`

pub equals_none : (excerpts : Excerpting) (p : Place) (vars : Pairs) (v : Plain) (es : List Operand) (i : ℕ) → length es ≤ i → equals_one excerpts p vars v (drop i es) ≡ Give false
equals_none excerpts p vars v es i le = at_drop_all (λ xs. equals_one excerpts p vars v xs) es i le

module _ (excerpts : Excerpting) (p : Place) (vars : Pairs) (v : Plain) (es : List Operand) (i : ℕ) (e : Operand) (lt : i < length es) (is : e ≡ get_or es i e) (view : View) (u s : Trace) where
  equals_next : equals_one excerpts p vars v (drop i es) ≡ bind (operand excerpts p vars e) (λ w. elim (same_value v w) [ true ↦ Give true | false ↦ equals_one excerpts p vars v (drop (i + 1) es) ])
  equals_next =
      at_drop_more (λ xs. equals_one excerpts p vars v xs) es i e lt ∙ ap (λ (x : Operand). equals_one excerpts p vars v (x ∷ drop (i + 1) es)) (sym is)

  pub equals_stops : (x : Stop SiteFault) → Stops (run view u (operand excerpts p vars e)) x s → Stops (run view u (equals_one excerpts p vars v (drop i es))) x s
  equals_stops x h = ends_stops view u (equals_one excerpts p vars v (drop i es)) (operand excerpts p vars e) (same_value v) (λ w. true) (equals_one excerpts p vars v (drop (i + 1) es)) equals_next x s h

  pub equals_here : (w : Plain) → run view u (operand excerpts p vars e) ≡ RanTo w s → same_value v w ≡ true → run view u (equals_one excerpts p vars v (drop i es)) ≡ RanTo true s
  equals_here w h same = ends_here view u (equals_one excerpts p vars v (drop i es)) (operand excerpts p vars e) (same_value v) (λ w. true) (equals_one excerpts p vars v (drop (i + 1) es)) equals_next w s h same

  pub equals_later : (w : Plain) → run view u (operand excerpts p vars e) ≡ RanTo w s → same_value v w ≡ false
      → run view u (equals_one excerpts p vars v (drop i es)) ≡ run view s (equals_one excerpts p vars v (drop (i + 1) es))
  equals_later w h same = ends_later view u (equals_one excerpts p vars v (drop i es)) (operand excerpts p vars e) (same_value v) (λ w. true) (equals_one excerpts p vars v (drop (i + 1) es)) equals_next w s h same
