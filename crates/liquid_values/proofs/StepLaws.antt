-- The steps of an operand leave what it stands for.
use Rattle.std.proofs.Common.{◌≡◌, ℕ, ◌+◌, ◌<◌, List, [], ◌∷◌, ◌++◌, length, drop, get_or, refl, ap, sym, subst, ◌∙◌, append_assoc, append-nil}
use Rattle.std.proofs.lemmas.List.{at_drop_more}
use Rattle.site_base.specs.Plain.{Plain, Pairs}
use Rattle.site_base.specs.declared.faults.SiteFault.{SiteFault}
use Rattle.read_record.specs.Answers.{Stops}
use Rattle.read_record.specs.Queries.{Query, Give, bind, View, Trace, RanTo, run}
use Rattle.read_record.specs.declared.stop.Stop.{Stop}
use Rattle.read_record.proofs.CallLaws.{stops_bind}
use Rattle.read_record.proofs.QueryLaws.{run_gave}
use Rattle.read_record.proofs.BindLaws.{bind-assoc, bind-give}
use Rattle.liquid_grammar.specs.declared.step.Step.{Step}
use Rattle.liquid_grammar.specs.declared.step.Step.TheVariants as steps
use Rattle.liquid_grammar.specs.Operands.{Operand, literal, range, variable, member, index, steps_of}
use Rattle.liquid_values.specs.Names.{Found, value, settled, Excerpting, named}
use Rattle.liquid_values.specs.OperandSteps.{Standing, pushed, on_top, one_step, all_steps, last_found}
use Rattle.liquid_values.specs.Operands as operands
use Rattle.liquid_values.specs.Places.{Place}

module _ (excerpts : Excerpting) (p : Place) (vars : Pairs) where
  abbrev all : List Step → Standing → Query SiteFault Standing
  all = all_steps excerpts p vars

  abbrev found : Operand → Query SiteFault Found
  found = operands.found excerpts p vars

  -- what is pushed is what the steps behind find
  then_all : (q : Query SiteFault Found) (st : Standing) (more : List Step) → bind (pushed st q) (λ now. all more now) ≡ bind q (λ f. all more (f ∷ st))
  then_all q st more = bind-assoc q (λ f. Give (f ∷ st)) (λ now. all more now)

  pub steps-found : (e : Operand) (more : List Step) (st : Standing) → all (steps_of e ++ more) st ≡ bind (found e) (λ f. all more (f ∷ st))
  steps-found (literal l) more st = refl
  steps-found (variable x) more st = then_all (named p vars x) st more
  steps-found (member e x) more st =
      ap (λ ss. all ss st) (append_assoc (steps_of e) (steps.Member x ∷ []) more) ∙ steps-found e (steps.Member x ∷ more) st
      ∙ (λ i. bind (found e) (λ (f : Found). then_all (operands.member excerpts p f x) st more i))
      ∙ sym (bind-assoc (found e) (λ f. operands.member excerpts p f x) (λ f. all more (f ∷ st)))
  steps-found (index e x) more st =
      ap (λ ss. all ss st) (append_assoc (steps_of e) (steps_of x ++ steps.Index ∷ []) more ∙ ap (λ ss. steps_of e ++ ss) (append_assoc (steps_of x) (steps.Index ∷ []) more))
      ∙ steps-found e (steps_of x ++ (steps.Index ∷ more)) st
      ∙ (λ i. bind (found e) (λ (f : Found). (steps-found x (steps.Index ∷ more) (f ∷ st)
      ∙ (λ j. bind (found x) (λ (g : Found). then_all (operands.index_found excerpts p f g) st more j))
      ∙ sym (bind-assoc (found x) (λ g. operands.index_found excerpts p f g) (λ g. all more (g ∷ st)))) i))
      ∙ sym (bind-assoc (found e) (λ f. bind (found x) (λ g. operands.index_found excerpts p f g)) (λ g. all more (g ∷ st)))
  steps-found (range a b) more st =
      ap (λ ss. all ss st) (append_assoc (steps_of a) (steps.FirstEnd ∷ (steps_of b ++ steps.Range ∷ [])) more ∙ ap (λ (ss : List Step). steps_of a ++ (steps.FirstEnd ∷ ss)) (append_assoc (steps_of b) (steps.Range ∷ []) more))
      ∙ steps-found a (steps.FirstEnd ∷ (steps_of b ++ (steps.Range ∷ more))) st
      ∙ (λ i. bind (found a) (λ (f : Found). (bind-assoc (settled p f) (λ (v : Plain). Give (value v ∷ st)) (λ now. all (steps_of b ++ (steps.Range ∷ more)) now)
      ∙ (λ j. bind (settled p f) (λ (v : Plain). (steps-found b (steps.Range ∷ more) (value v ∷ st)
      ∙ (λ k. bind (found b) (λ (g : Found). then_all (operands.range_from p v g) st more k))
      ∙ sym (bind-assoc (found b) (λ g. operands.range_from p v g) (λ g. all more (g ∷ st)))) j))
      ∙ sym (bind-assoc (settled p f) (λ v. bind (found b) (λ g. operands.range_from p v g)) (λ g. all more (g ∷ st)))) i))
      ∙ sym (bind-assoc (found a) (λ f. bind (settled p f) (λ v. bind (found b) (λ g. operands.range_from p v g))) (λ g. all more (g ∷ st)))

  -- the operand's steps, from an empty stack
  pub operand-found : (e : Operand) → last_found excerpts p vars (steps_of e) [] ≡ found e
  operand-found e =
      ap (λ ss. last_found excerpts p vars ss []) (sym (append-nil (steps_of e)))
      ∙ ap (λ q. bind q (λ now. Give (on_top now))) (steps-found e [] [])
      ∙ bind-assoc (found e) (λ f. Give (f ∷ [])) (λ now. Give (on_top now)) ∙ bind-give (found e)

-- ---- One step after another

module _ (excerpts : Excerpting) (p : Place) (vars : Pairs) (ss : List Step) (i : ℕ) (w : Step) (st : Standing) (lt : i < length ss) (e : w ≡ get_or ss i w) where
  last_next : last_found excerpts p vars (drop i ss) st ≡ bind (one_step excerpts p vars w st) (λ now. last_found excerpts p vars (drop (i + 1) ss) now)
  last_next =
      at_drop_more (λ xs. last_found excerpts p vars xs st) ss i w lt ∙ ap (λ (v : Step). last_found excerpts p vars (v ∷ drop (i + 1) ss) st) (sym e)
      ∙ bind-assoc (one_step excerpts p vars w st) (λ now. all_steps excerpts p vars (drop (i + 1) ss) now) (λ now. Give (on_top now))

  pub step_taken : (view : View) (t s : Trace) (next : Standing) → run view t (one_step excerpts p vars w st) ≡ RanTo next s
      → run view t (last_found excerpts p vars (drop i ss) st) ≡ run view s (last_found excerpts p vars (drop (i + 1) ss) next)
  step_taken view t s next gave =
      ap (run view t) last_next ∙ run_gave view t (one_step excerpts p vars w st) (λ now. last_found excerpts p vars (drop (i + 1) ss) now) next s gave

  pub step_stops : (view : View) (t s : Trace) (x : Stop SiteFault) → Stops (run view t (one_step excerpts p vars w st)) x s → Stops (run view t (last_found excerpts p vars (drop i ss) st)) x s
  step_stops view t s x h =
      subst (λ q. Stops (run view t q) x s) (sym last_next) (stops_bind view t (one_step excerpts p vars w st) (λ now. last_found excerpts p vars (drop (i + 1) ss) now) x s h)
