-- Tests of keys, by the code's own type.
use Rattle.std.specs.Prelude.{Bool, not}
use Rattle.site_base.specs.Plain.{Plain}
use Rattle.list_filters.specs.Choosing.{is_filled, shows_text}
use Rattle.list_filters.specs.declared.choosing.Test.{Test}
use Rattle.list_filters.specs.declared.choosing.Test.TheVariants.{Filled, Empty, Shows}

abbrev pub passes : Test → Plain → Bool
passes Filled k = is_filled k
passes Empty k = not (is_filled k)
passes (Shows t) k = shows_text t k
