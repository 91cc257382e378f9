-- The filters that write dates by a pattern of their own. After Jekyll 4's manual, "Liquid Filters"; RFC 822 and RFC 3339 have the last two.
use Rattle.std.specs.Prelude.{ℕ, List, codes}
use Rattle.site_base.specs.Plain.{Plain}
use Rattle.site_base.specs.declared.faults.FaultKind.{FaultKind}
use Rattle.read_record.specs.Queries.{Query, bind}
use Rattle.filter_base.specs.Answers.{made}
use Rattle.filter_base.specs.Arguments.{no_more}
use Rattle.filter_base.specs.Dates.{dated}
use Rattle.jekyll_filters.specs.declared.dates.DateFilter.{DateFilter}
use Rattle.jekyll_filters.specs.declared.dates.DateFilter.TheVariants.{DateToLongString, DateToRfc822, DateToString, DateToXmlschema}

abbrev pub pattern_of : DateFilter → List ℕ
pattern_of DateToLongString = codes "%d %B %Y"
pattern_of DateToRfc822 = codes "%a, %d %b %Y %H:%M:%S %z"
pattern_of DateToString = codes "%d %b %Y"
pattern_of DateToXmlschema = codes "%Y-%m-%dT%H:%M:%S%:z"

abbrev pub date_filter : DateFilter → Plain → List Plain → Query FaultKind Plain
date_filter filter v ws = bind (made (no_more ws)) (λ _. dated (pattern_of filter) v)
