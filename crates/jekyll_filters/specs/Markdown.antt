-- Markdown as HTML. After Jekyll 4's manual, "Liquid Filters": `markdownify`.
use Rattle.std.specs.Prelude.{List, Result, Ok}
use Rattle.site_base.specs.Chains.{◌>>=◌}
use Rattle.site_base.specs.Plain.{Plain, text}
use Rattle.site_base.specs.Values.{value_text}
use Rattle.site_base.specs.declared.faults.FaultKind.{FaultKind}
use Rattle.markdown_grammar.specs.Html.{html}
use Rattle.filter_base.specs.Arguments.{no_more}

abbrev pub markdownify : Plain → List Plain → Result Plain FaultKind
markdownify v ws = no_more ws >>= λ _. Ok (text (html (value_text v)))
