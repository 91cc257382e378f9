-- What stands before a mark in a text.
use Rattle.std.specs.Prelude.{ℕ, List, [], ◌∷◌, if◌then◌else◌, Option, Some, None}
use Rattle.std.specs.Option.{option_map}
use Rattle.liquid_grammar.specs.Pieces.{begins}

-- the text before the first place where the mark stands
abbrev pub before : List ℕ → List ℕ → Option (List ℕ)
before mark [] = if begins mark [] then Some [] else None
before mark (c ∷ cs) = if begins mark (c ∷ cs) then Some [] else option_map (λ t. c ∷ t) (before mark cs)
