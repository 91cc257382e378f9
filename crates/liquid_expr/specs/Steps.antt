-- What readings add to a list.
use Rattle.std.specs.Prelude.{◌≡◌, ℕ, List, [], ◌∷◌, ◌++◌, Option, Some, None, Result, Ok, Err}
use Rattle.liquid_grammar.specs.declared.step.Step.{Step}
use Rattle.liquid_grammar.specs.declared.step.Step.TheVariants as step
use Rattle.liquid_grammar.specs.Operands.{steps_of}
use Rattle.liquid_grammar.specs.Expressions.{Link, named, at}
use Rattle.liquid_grammar.specs.Readings.{Reading, More, stop, wrong, one}
use Rattle.liquid_expr.specs.declared.stop.Stop.{Stop}
use Rattle.liquid_expr.specs.declared.stop.Stop.TheVariants.{NoReading, Memory}

abbrev pub link_steps : Link → List Step
link_steps (named name) = step.Member name ∷ []
link_steps (at x) = steps_of x ++ step.Index ∷ []

-- the codes of several, one after another
abbrev pub codes_of : {A S : Type 0} → (A → List S) → List A → List S
codes_of code [] = []
codes_of code (x ∷ xs) = code x ++ codes_of code xs

-- what a reading adds to a list, with its number of tokens
abbrev pub added : {A S : Type 0} → (A → List S) → List S → Reading A → Option (List S × ℕ)
added code old (Some x) = Some (old ++ code x.0, x.1)
added code old None = None

-- the list has what the reading adds, unless memory was wanting
abbrev pub Adds : {A S : Type 0} → (A → List S) → Result ℕ Stop → List S → List S → Reading A → Type 0
Adds code (Ok n) old new r = added code old r ≡ Some (new, n)
Adds code (Err NoReading) old new r = r ≡ None
Adds code (Err Memory) old new r = Unit {0}

abbrev pub more_added : {A S : Type 0} → (A → List S) → List S → More A → Option (List S × ℕ)
more_added code old (one x n) = Some (old ++ code x, n)
more_added code old _ = None

-- the list has what may come once more
abbrev pub AddsMore : {A S : Type 0} → (A → List S) → Result (Option ℕ) Stop → List S → List S → More A → Type 0
AddsMore code (Ok (Some n)) old new m = more_added code old m ≡ Some (new, n)
AddsMore code (Ok None) old new m = (m ≡ stop) × (new ≡ old)
AddsMore code (Err NoReading) old new m = m ≡ wrong
AddsMore code (Err Memory) old new m = Unit {0}
