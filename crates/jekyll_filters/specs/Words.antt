-- How many words a text has. After Jekyll 4's manual, "Liquid Filters": `number_of_words`.
use Rattle.std.specs.Prelude.{pos, List, length, Result, Ok}
use Rattle.site_base.specs.Chains.{◌>>=◌}
use Rattle.site_base.specs.Plain.{Plain, int}
use Rattle.site_base.specs.Values.{value_text}
use Rattle.site_base.specs.declared.faults.FaultKind.{FaultKind}
use Rattle.filter_base.specs.Arguments.{no_more}
use Rattle.filter_base.specs.Numerals.{fitting}
use Rattle.text_filters.specs.Words.{words}

abbrev pub number_of_words : Plain → List Plain → Result Plain FaultKind
number_of_words v ws = no_more ws >>= λ _. fitting (pos (length (words (value_text v)))) >>= λ n. Ok (int n)
