-- Tests one after another, and what comparisons tell.
use Rattle.std.proofs.Common.{◌≡◌, ◌∙◌, ◌↔◌, ℕ, ◌+◌, ◌<◌, ◌≤◌, ◌≢◌, Bool, true, false, not, IsTrue, ◌||◌, cond, List, [], ◌∷◌, ◌++◌, length, drop, get_or, refl, sym, ap, subst, arith, length-append, eqb}
use Rattle.std.specs.Bool.{Decides}
use Rattle.std.specs.List.{list_any}
use Rattle.std.specs.Str.{bytes_eq}
use Rattle.std.specs.Str.Iter.{HasSubslice}
use Rattle.std.proofs.lemmas.Bool.Decides.{Decides-eqb, same_from_decides}
use Rattle.std.proofs.lemmas.List.{at_drop_more, at_drop_all}
use Rattle.std.proofs.lemmas.Slice.Eq.{bytes_eq-Decides, starts_is}
use Rattle.site_base.specs.Code.{code}
use Rattle.site_base.specs.Plain.{Plain, Items, item_list, Pairs}
use Rattle.site_base.specs.View.{plain, items_of}
use Rattle.site_base.specs.declared.faults.SiteFault.{SiteFault}
use Rattle.site_base.specs.declared.value.Value.{Value}
use Rattle.site_base.proofs.CodeLaws.{code-injective}
use Rattle.read_record.specs.Answers.{Stops}
use Rattle.read_record.specs.Queries.{Query, Give, bind, View, Trace, RanTo, run}
use Rattle.read_record.specs.declared.stop.Stop.{Stop}
use Rattle.read_record.proofs.CallLaws.{stops_bind}
use Rattle.read_record.proofs.QueryLaws.{run_gave}
use Rattle.list_filters.specs.Choosing.{same_value}
use Rattle.liquid_grammar.specs.declared.condition.Joined.{Joined}
use Rattle.liquid_grammar.specs.declared.condition.Test.{Test}
use Rattle.liquid_grammar.specs.declared.step.Step.{Step}
use Rattle.liquid_grammar.specs.declared.step.Step.TheVariants as steps
use Rattle.liquid_grammar.specs.Operands.{Operand, literal, range, variable, member, index, steps_of}
use Rattle.liquid_grammar.specs.Pieces.{begins}
use Rattle.liquid_values.specs.Names.{Excerpting}
use Rattle.liquid_values.specs.Places.{Place}
use Rattle.liquid_tags.specs.Conditions.{right_of, step_right, stands_in, decides, test, tests}
use Rattle.liquid_tags.specs.declared.conditions.Right.TheVariants as right

-- ---- A query that ends by what another gives, or goes on

module _ {F A B : Type 0} (view : View) (t : Trace) (whole : Query F B) (q : Query F A) (ends : A → Bool) (last : A → B) (more : Query F B)
    (is : whole ≡ bind q (λ a. elim (ends a) [ true ↦ Give (last a) | false ↦ more ])) where
  pub ends_stops : (e : Stop F) (s : Trace) → Stops (run view t q) e s → Stops (run view t whole) e s
  ends_stops e s h = subst (λ x. Stops (run view t x) e s) (sym is) (stops_bind view t q (λ a. elim (ends a) [ true ↦ Give (last a) | false ↦ more ]) e s h)

  at_end : (a : A) (s : Trace) (b : Bool) → run view t q ≡ RanTo a s → ends a ≡ b → run view t whole ≡ run view s (elim b as (λ x. Query F B) [ true ↦ Give (last a) | false ↦ more ])
  at_end a s b gave h =
      ap (run view t) is ∙ run_gave view t q (λ a. elim (ends a) [ true ↦ Give (last a) | false ↦ more ]) a s gave
      ∙ ap (λ x. run view s (elim x as (λ y. Query F B) [ true ↦ Give (last a) | false ↦ more ])) h

  pub ends_here : (a : A) (s : Trace) → run view t q ≡ RanTo a s → ends a ≡ true → run view t whole ≡ RanTo (last a) s
  ends_here a s gave h = at_end a s true gave h

  pub ends_later : (a : A) (s : Trace) → run view t q ≡ RanTo a s → ends a ≡ false → run view t whole ≡ run view s more
  ends_later a s gave h = at_end a s false gave h

-- ---- Tests

pub tests_last : (excerpts : Excerpting) (p : Place) (vars : Pairs) (js : List Joined) (i : ℕ) (t : Test) → length js ≤ i → tests excerpts p vars t (drop i js) ≡ test excerpts p vars t
tests_last excerpts p vars js i t le = at_drop_all (λ xs. tests excerpts p vars t xs) js i le

module _ (excerpts : Excerpting) (p : Place) (vars : Pairs) (js : List Joined) (i : ℕ) (t : Test) (j : Joined) (lt : i < length js) (is : j ≡ get_or js i j) (view : View) (u s : Trace) where
  tests_next : tests excerpts p vars t (drop i js) ≡ bind (test excerpts p vars t) (λ b. elim (decides j.joint b) [ true ↦ Give b | false ↦ tests excerpts p vars j.test (drop (i + 1) js) ])
  tests_next =
      at_drop_more (λ xs. tests excerpts p vars t xs) js i j lt ∙ ap (λ (k : Joined). tests excerpts p vars t (k ∷ drop (i + 1) js)) (sym is)

  pub tests_stop : (x : Stop SiteFault) → Stops (run view u (test excerpts p vars t)) x s → Stops (run view u (tests excerpts p vars t (drop i js))) x s
  tests_stop x h = ends_stops view u (tests excerpts p vars t (drop i js)) (test excerpts p vars t) (decides j.joint) (λ b. b) (tests excerpts p vars j.test (drop (i + 1) js)) tests_next x s h

  pub tests_end : (b : Bool) → run view u (test excerpts p vars t) ≡ RanTo b s → decides j.joint b ≡ true → run view u (tests excerpts p vars t (drop i js)) ≡ RanTo b s
  tests_end b h d = ends_here view u (tests excerpts p vars t (drop i js)) (test excerpts p vars t) (decides j.joint) (λ b. b) (tests excerpts p vars j.test (drop (i + 1) js)) tests_next b s h d

  pub tests_go_on : (b : Bool) → run view u (test excerpts p vars t) ≡ RanTo b s → decides j.joint b ≡ false
      → run view u (tests excerpts p vars t (drop i js)) ≡ run view s (tests excerpts p vars j.test (drop (i + 1) js))
  tests_go_on b h d = ends_later view u (tests excerpts p vars t (drop i js)) (test excerpts p vars t) (decides j.joint) (λ b. b) (tests excerpts p vars j.test (drop (i + 1) js)) tests_next b s h d

-- ---- Equal values

pub same_is : (r : Bool) (v w : Plain) → (IsTrue r ↔ (v ≡ w)) → r ≡ same_value v w
same_is r v w h =
    let codes = bytes_eq-Decides (code v) (code w) in
    same_from_decides r (same_value v w) h (λ e. code-injective v w (codes.0 e), λ e. codes.1 (ap code e))

any_items : (p : Plain → Bool) (vs : List Value) → list_any (λ v. p (plain v)) vs ≡ list_any p (item_list (items_of vs))
any_items p [] = refl
any_items p (v ∷ vs) = ap (λ b. p (plain v) || b) (any_items p vs)

pub any_in_list : (p : Plain → Bool) (is : Items) (vs : List Value) → items_of vs ≡ is → list_any (λ v. p (plain v)) vs ≡ list_any p (item_list is)
any_in_list p is vs e = any_items p vs ∙ ap (λ js. list_any p (item_list js)) e

-- ---- What stands on the right

some_steps : (e : Operand) → 0 < length (steps_of e)
some_steps (literal l) = omega arith
some_steps (range a b) = omega (arith, some_steps a, length-append (steps_of a) (steps.FirstEnd ∷ (steps_of b ++ steps.Range ∷ [])))
some_steps (variable x) = omega arith
some_steps (member e x) = omega (arith, some_steps e, length-append (steps_of e) (steps.Member x ∷ []))
some_steps (index e x) = omega (arith, some_steps e, length-append (steps_of e) (steps_of x ++ steps.Index ∷ []))

-- all but a literal and a variable have several steps
several : (e : Operand) (more : List Step) → 0 < length more → length (steps_of e ++ more) ≢ 1
several e more some h = omega (arith, some, some_steps e, length-append (steps_of e) more, h)

behind_some : (ss : List Step) (s : Step) → 0 < length (ss ++ s ∷ [])
behind_some ss s = omega (arith, length-append ss (s ∷ []))

pub right_several : (e : Operand) → length (steps_of e) ≢ 1 → right_of e ≡ right.Value
right_several (literal l) h = absurd (h refl)
right_several (range a b) h = refl
right_several (variable x) h = refl
right_several (member e x) h = refl
right_several (index e x) h = refl

pub right_only : (e : Operand) (s : Step) → steps_of e ≡ s ∷ [] → right_of e ≡ step_right s
right_only (literal l) s h = let same : steps.Literal l ≡ s = cc in ap step_right same
right_only (range a b) s h = absurd (several a (steps.FirstEnd ∷ (steps_of b ++ steps.Range ∷ [])) (omega arith) (ap length h))
right_only (variable x) s h = let same : steps.Variable x ≡ s = cc in ap step_right same
right_only (member e x) s h = absurd (several e (steps.Member x ∷ []) (omega arith) (ap length h))
right_only (index e x) s h = absurd (several e (steps_of x ++ steps.Index ∷ []) (behind_some (steps_of x) steps.Index) (ap length h))

-- the same, by the steps that the code goes by
module _ (e : Operand) (ss : List Step) (is : ss ≡ steps_of e) where
  pub right_none : length ss < 1 → right.Value ≡ right_of e
  right_none few = sym (right_several e (λ h. omega (arith, few, h, ap length is)))

  pub right_many : 2 ≤ length ss → right.Value ≡ right_of e
  right_many many = sym (right_several e (λ h. omega (arith, many, h, ap length is)))

  pub right_one : (s : Step) → 1 ≤ length ss → length ss < 2 → s ≡ get_or ss 0 s → step_right s ≡ right_of e
  right_one s some few first = sym (right_only e s (sym is ∙ all_of ss some few first))
    where
      all_of : (ss : List Step) → 1 ≤ length ss → length ss < 2 → s ≡ get_or ss 0 s → ss ≡ s ∷ []
      all_of [] some few first = absurd (omega arith)
      all_of (x ∷ []) some few first = ap (λ (y : Step). y ∷ []) (sym first)
      all_of (x ∷ y ∷ more) some few first = absurd (omega arith)

pub ruleset rights = (right_none, right_many, right_one)

-- ---- Texts in others

begins_is : (t s : List ℕ) → begins t s ≡ true → (back : List ℕ) × (s ≡ t ++ back)
begins_is t s h = (drop (length t) s, (starts_is Decides-eqb s t (begins t s) refl).0 h)

front_begins : (t s back : List ℕ) → s ≡ t ++ back → begins t s ≡ true
front_begins t s back e = (starts_is Decides-eqb s t (begins t s) refl).1 back e

or_true : (a : Bool) → (a || true) ≡ true
or_true true = refl
or_true false = refl

stands_at : (t s : List ℕ) → stands_in t s ≡ true → HasSubslice s t
stands_at t [] h = let found = begins_is t [] h in ([], found.0, found.1)
stands_at t (c ∷ cs) h = go (begins t (c ∷ cs)) refl (stands_at t cs) h
  where
    go : (b : Bool) → begins t (c ∷ cs) ≡ b → (stands_in t cs ≡ true → HasSubslice cs t) → (b || stands_in t cs) ≡ true → HasSubslice (c ∷ cs) t
    go true e later h = let found = begins_is t (c ∷ cs) e in ([], found.0, found.1)
    go false e later h = let found = later h in (c ∷ found.0, found.1, ap (λ (xs : List ℕ). c ∷ xs) found.2)

stands_from : (t s front back : List ℕ) → s ≡ front ++ (t ++ back) → stands_in t s ≡ true
stands_from t [] [] back e = front_begins t [] back e
stands_from t [] (x ∷ front) back e = cc
stands_from t (c ∷ cs) [] back e = ap (λ b. b || stands_in t cs) (front_begins t (c ∷ cs) back e)
stands_from t (c ∷ cs) (x ∷ front) back e = let rest : cs ≡ front ++ (t ++ back) = cc in ap (λ b. begins t (c ∷ cs) || b) (stands_from t cs front back rest) ∙ or_true (begins t (c ∷ cs))

pub stands-Decides : (t s : List ℕ) → Decides (stands_in t s) (HasSubslice s t)
stands-Decides t s = (stands_at t s, λ found. stands_from t s found.0 found.1 found.2)
