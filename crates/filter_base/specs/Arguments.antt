-- How many arguments a filter takes. After the reference of Liquid 4 (Shopify), "Filters".
use Rattle.std.specs.Prelude.{List, [], ◌∷◌, Option, Some, None, Result, Ok, Err}
use Rattle.site_base.specs.Plain.{Plain}
use Rattle.site_base.specs.declared.faults.FaultKind.{FaultKind}
use Rattle.site_base.specs.declared.faults.FaultKind.TheVariants.{FilterArgument}

abbrev pub no_more : List Plain → Result (Unit {0}) FaultKind
no_more [] = Ok tt
no_more ws = Err FilterArgument

abbrev pub one : List Plain → Result Plain FaultKind
one (w ∷ []) = Ok w
one ws = Err FilterArgument

abbrev pub one_or_none : List Plain → Result (Option Plain) FaultKind
one_or_none [] = Ok None
one_or_none (w ∷ []) = Ok (Some w)
one_or_none ws = Err FilterArgument

abbrev pub one_or_two : List Plain → Result (Plain × Option Plain) FaultKind
one_or_two (w ∷ []) = Ok (w, None)
one_or_two (w ∷ x ∷ []) = Ok (w, Some x)
one_or_two ws = Err FilterArgument

abbrev pub up_to_two : List Plain → Result (Option Plain × Option Plain) FaultKind
up_to_two [] = Ok (None, None)
up_to_two (w ∷ []) = Ok (Some w, None)
up_to_two (w ∷ x ∷ []) = Ok (Some w, Some x)
up_to_two ws = Err FilterArgument

abbrev pub two : List Plain → Result (Plain × Plain) FaultKind
two (w ∷ x ∷ []) = Ok (w, x)
two ws = Err FilterArgument
