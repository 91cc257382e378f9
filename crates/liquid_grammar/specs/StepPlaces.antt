-- Where the steps of an operand stand.
use Rattle.std.specs.Prelude.{List}
use Rattle.liquid_grammar.specs.declared.step.Step.{Step}
use Rattle.liquid_grammar.specs.declared.operand.Steps.{Steps}
use Rattle.liquid_grammar.specs.declared.operand.Steps.TheVariants.{One, Listed}

abbrev pub steps_at : Steps → List Step
steps_at (One one) = one
steps_at (Listed steps) = steps.items
