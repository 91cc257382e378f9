-- The filters that change a text, without arguments. After Jekyll 4's manual, "Liquid Filters".
use Rattle.std.specs.Prelude.{ℕ, List, flat_map, Result, Ok}
use Rattle.site_base.specs.Chains.{◌>>=◌}
use Rattle.site_base.specs.Plain.{Plain, text}
use Rattle.site_base.specs.Values.{value_text}
use Rattle.site_base.specs.declared.faults.FaultKind.{FaultKind}
use Rattle.permalinks.specs.Slug.{slug}
use Rattle.filter_base.specs.Arguments.{no_more}
use Rattle.filter_base.specs.White.{without_front, without_end}
use Rattle.text_filters.specs.Marks.{marked}
use Rattle.text_filters.specs.Urls.{url_byte}
use Rattle.text_filters.specs.declared.marks.Mark.TheVariants as mark
use Rattle.text_filters.specs.declared.urls.UrlCode.TheVariants as url_code
use Rattle.jekyll_filters.specs.declared.changes.TextChange.{TextChange}
use Rattle.jekyll_filters.specs.declared.changes.TextChange.TheVariants.{CgiEscape, NormalizeWhitespace, Slugify, UriEscape, XmlEscape}

abbrev pub changed : TextChange → List ℕ → List ℕ
changed CgiEscape t = flat_map (url_byte url_code.Query) t
changed NormalizeWhitespace t = marked mark.WhiteSpace (without_end (without_front t))
changed Slugify t = slug t
changed UriEscape t = flat_map (url_byte url_code.Address) t
changed XmlEscape t = marked mark.EscapeXml t

abbrev pub change_filter : TextChange → Plain → List Plain → Result Plain FaultKind
change_filter change v ws = no_more ws >>= λ _. Ok (text (changed change (value_text v)))
