-- `forloop` as a value.
use Rattle.std.proofs.Common.{◌≡◌, List, ℕ, refl}
use Rattle.liquid_values.specs.declared.locals.ForLoop.{ForLoop, ForLoop'}
use Rattle.liquid_values.specs.Members.{member_value}
use Rattle.liquid_values.specs.Names.{Excerpting, reached}
use Rattle.liquid_values.specs.Operands.{value_member}
use Rattle.liquid_values.specs.Places.{Place}
use Rattle.liquid_values.specs.Standing.{loop_value}

-- its members are those of a hash
pub loop_member : (excerpts : Excerpting) (p : Place) (l : ForLoop) (x : List ℕ) → value_member excerpts p (loop_value l) x ≡ reached p (member_value x (loop_value l))
loop_member excerpts p (ForLoop' len passed parent) x = refl
