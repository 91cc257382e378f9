-- Kinds of stretches of which none ends in a text.
use Rattle.std.specs.Prelude.{◌≡◌, ℕ, List, [], ◌∷◌, drop, length, None}
use Rattle.text_filters.specs.Stretches.{name_of, end_of, behind}
use Rattle.text_filters.specs.declared.stretches.Stretch.{Stretch}

-- no end of these kinds stands in the text, so far behind its front as their names may reach
abbrev pub LackEnds : List Stretch → List ℕ → Type 0
LackEnds [] t = Unit {0}
LackEnds (kind ∷ kinds) t = (behind (end_of kind) (drop (length (name_of kind)) t) ≡ None) × LackEnds kinds t
