-- Where the bytes of a text stand.
use Rattle.std.specs.Prelude.{ℕ, List}
use Rattle.std.specs.String.{string_bytes}
use Rattle.std.specs.Arc.{arc_value}
use Rattle.site_base.specs.declared.text.Place.{Place}
use Rattle.site_base.specs.declared.text.Place.TheVariants.{Inside, Outside, Shared, End}

abbrev pub text_at : Place → List ℕ
text_at (Inside letters) = letters
text_at (Outside text) = string_bytes text.value
text_at (Shared text) = string_bytes (arc_value text)
text_at (End end) = end.value
