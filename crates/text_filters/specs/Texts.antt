-- The filters of texts that take arguments. After the reference of Liquid 4 (Shopify), "Filters".
use Rattle.std.specs.Prelude.{List, ◌++◌, Result, Ok}
use Rattle.site_base.specs.Chains.{◌>>=◌}
use Rattle.site_base.specs.Plain.{Plain, text}
use Rattle.site_base.specs.Values.{value_text}
use Rattle.site_base.specs.declared.faults.FaultKind.{FaultKind}
use Rattle.filter_base.specs.Arguments.{one}
use Rattle.text_filters.specs.declared.texts.TextFilter.{TextFilter}
use Rattle.text_filters.specs.declared.texts.TextFilter.TheVariants.{Append, Prepend}

-- one text behind another
abbrev pub appended : Plain → Plain → Result Plain FaultKind
appended v w = Ok (text (value_text v ++ value_text w))

abbrev pub text_filter : TextFilter → Plain → List Plain → Result Plain FaultKind
text_filter Append v ws = one ws >>= λ w. appended v w
text_filter Prepend v ws = one ws >>= λ w. appended w v
