-- The nodes so far as the code keeps them.
use Rattle.std.specs.Prelude.{length, reverse, ◌∷◌}
use Rattle.cm_blocks.specs.declared.level.Level.{Level}
use Rattle.cm_blocks.specs.declared.making.Making.{Making}
use Rattle.cm_blocks.specs.Making.{Made, fresh}

abbrev pub made : Making → Made
made m = record { nodes = m.nodes.items; outer = reverse m.outer.items; level = m.level }

-- inside of a container, before its last block; what is known of the blocks behind it is kept
abbrev pub went_inside : Level → Made → Made
went_inside rest m = record { nodes = m.nodes; outer = rest ∷ m.outer; level = fresh (length m.nodes) }
