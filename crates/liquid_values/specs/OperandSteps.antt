-- An operand by its steps, each on a stack of what names and members stand for.
use Rattle.std.specs.Prelude.{ℕ, List, [], ◌∷◌, map, reverse, Option, Some, None}
use Rattle.site_base.specs.Plain.{nil, Pairs}
use Rattle.site_base.specs.declared.faults.SiteFault.{SiteFault}
use Rattle.read_record.specs.Queries.{Query, Give, bind}
use Rattle.liquid_grammar.specs.declared.step.Step.{Step}
use Rattle.liquid_grammar.specs.declared.step.Step.TheVariants as steps
use Rattle.liquid_values.specs.declared.found.Found.{Found}
use Rattle.liquid_values.specs.declared.stack.Stack.{Stack}
use Rattle.liquid_values.specs.Answers.{found_of}
use Rattle.liquid_values.specs.Names as names
use Rattle.liquid_values.specs.Names.{Excerpting, value, settled, named}
use Rattle.liquid_values.specs.Operands.{literal_value, member, index_found, range_from}
use Rattle.liquid_values.specs.Places.{Place}

-- what stands on a stack, from its top
abbrev pub Standing : Type 0
Standing = List names.Found

abbrev pub pushed : Standing → Query SiteFault names.Found → Query SiteFault Standing
pushed st q = bind q (λ f. Give (f ∷ st))

abbrev pub on_top : Standing → names.Found
on_top [] = value nil
on_top (f ∷ st) = f

-- what is on top is settled
abbrev pub first_end_step : Place → Standing → Query SiteFault Standing
first_end_step p [] = Give []
first_end_step p (f ∷ st) = bind (settled p f) (λ v. Give (value v ∷ st))

-- from the lower to the upper
abbrev pub range_found : Place → names.Found → names.Found → Query SiteFault names.Found
range_found p f g = bind (settled p f) (λ v. range_from p v g)

abbrev pub range_step : Place → Standing → Query SiteFault Standing
range_step p (b ∷ a ∷ st) = pushed st (range_found p a b)
range_step p st = Give st

module _ (excerpts : Excerpting) (p : Place) where
  abbrev pub member_step : List ℕ → Standing → Query SiteFault Standing
  member_step x [] = Give []
  member_step x (f ∷ st) = pushed st (member excerpts p f x)

  abbrev pub index_step : Standing → Query SiteFault Standing
  index_step (x ∷ f ∷ st) = pushed st (index_found excerpts p f x)
  index_step st = Give st

module _ (excerpts : Excerpting) (p : Place) (vars : Pairs) where
  abbrev pub one_step : Step → Standing → Query SiteFault Standing
  one_step (steps.Literal l) st = Give (value (literal_value l) ∷ st)
  one_step (steps.Variable x) st = pushed st (named p vars x)
  one_step (steps.Member x) st = member_step excerpts p x st
  one_step steps.Index st = index_step excerpts p st
  one_step steps.FirstEnd st = first_end_step p st
  one_step steps.Range st = range_step p st

  abbrev pub all_steps : List Step → Standing → Query SiteFault Standing
  all_steps [] st = Give st
  all_steps (s ∷ ss) st = bind (one_step s st) (λ now. all_steps ss now)

  -- what is on top in the end
  abbrev pub last_found : List Step → Standing → Query SiteFault names.Found
  last_found ss st = bind (all_steps ss st) (λ now. Give (on_top now))

-- ---- The code's own stack

abbrev pub top_of : Option Found → Standing → Standing
top_of None st = st
top_of (Some f) st = found_of f ∷ st

abbrev pub stack_of : Stack → Standing
stack_of s = top_of s.top (reverse (map found_of s.below.items))
