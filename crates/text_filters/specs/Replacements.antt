-- The filters that put a text in place of another. After the reference of Liquid 4 (Shopify), "Filters".
use Rattle.std.specs.Prelude.{ℕ, ◌==◌, List, [], ◌∷◌, ◌++◌, drop, length, if◌then◌else◌, Result, Ok, Err}
use Rattle.std.specs.List.{join_by}
use Rattle.site_base.specs.Chains.{◌>>=◌}
use Rattle.site_base.specs.Plain.{Plain, text}
use Rattle.site_base.specs.Values.{value_text}
use Rattle.site_base.specs.declared.faults.FaultKind.{FaultKind}
use Rattle.site_base.specs.declared.faults.FaultKind.TheVariants.{FilterArgument}
use Rattle.site_text.specs.Fronts.{begins_with}
use Rattle.filter_base.specs.Arguments.{one, two}
use Rattle.text_filters.specs.Parts.{parts}
use Rattle.text_filters.specs.declared.replacements.Replacement.{Replacement}
use Rattle.text_filters.specs.declared.replacements.Replacement.TheVariants.{Remove, RemoveFirst, Replace, ReplaceFirst}

-- at each place
abbrev pub replaced : List ℕ → List ℕ → List ℕ → List ℕ
replaced mark instead t = join_by (λ part. part) instead (parts mark t)

-- at the first place
abbrev pub replaced_once : List ℕ → List ℕ → List ℕ → List ℕ
replaced_once mark instead [] = []
replaced_once mark instead (c ∷ cs) = if begins_with mark (c ∷ cs) then instead ++ drop (length mark) (c ∷ cs) else c ∷ replaced_once mark instead cs

-- what is looked for may not be empty
abbrev pub looked_for : List ℕ → Result (List ℕ) FaultKind
looked_for mark = if length mark == 0 then Err FilterArgument else Ok mark

abbrev pub replace : Plain → Plain → List ℕ → Result Plain FaultKind
replace v w instead = looked_for (value_text w) >>= λ mark. Ok (text (replaced mark instead (value_text v)))

abbrev pub replace_first : Plain → Plain → List ℕ → Result Plain FaultKind
replace_first v w instead = looked_for (value_text w) >>= λ mark. Ok (text (replaced_once mark instead (value_text v)))

abbrev pub replacement_filter : Replacement → Plain → List Plain → Result Plain FaultKind
replacement_filter Remove v ws = one ws >>= λ w. replace v w []
replacement_filter RemoveFirst v ws = one ws >>= λ w. replace_first v w []
replacement_filter Replace v ws = two ws >>= λ both. replace v both.0 (value_text both.1)
replacement_filter ReplaceFirst v ws = two ws >>= λ both. replace_first v both.0 (value_text both.1)
