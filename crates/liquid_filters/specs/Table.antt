-- The table of the filters: the name of each, and what it means. After the reference of Liquid 4 (Shopify), "Filters".
use Rattle.std.specs.Prelude.{ℕ, ℤ, List, [], ◌∷◌, codes, Option, Result, Ok}
use Rattle.std.specs.Map.{lookup}
use Rattle.std.specs.Str.{bytes_eq}
use Rattle.site_base.specs.Chains.{◌>>=◌}
use Rattle.site_base.specs.Plain.{Plain, int}
use Rattle.site_base.specs.declared.faults.FaultKind.{FaultKind}
use Rattle.filter_base.specs.Answers.{Meaning, made}
use Rattle.filter_base.specs.Dates.{date}
use Rattle.filter_base.specs.Lists.{list_filter}
use Rattle.filter_base.specs.declared.lists.ListFilter.{ListFilter}
use Rattle.filter_base.specs.declared.lists.ListFilter.TheVariants.{Concat, Default, First, Join, Last, Reverse, Size}
use Rattle.list_filters.specs.Selections.{selection_filter}
use Rattle.list_filters.specs.declared.selections.Selection.TheVariants.{Compact, Map, Uniq, Where}
use Rattle.list_filters.specs.Sortings.{sort_filter}
use Rattle.list_filters.specs.declared.sortings.Sorting.TheVariants.{Sort, SortNatural}
use Rattle.text_filters.specs.Changes.{change_filter}
use Rattle.text_filters.specs.declared.changes.TextChange.{TextChange}
use Rattle.text_filters.specs.declared.changes.TextChange.TheVariants.{Capitalize, Downcase, Escape, EscapeOnce, Lstrip, NewlineToBr, Rstrip, Strip, StripHtml, StripNewlines, Upcase, UrlEncode}
use Rattle.text_filters.specs.Replacements.{replacement_filter}
use Rattle.text_filters.specs.declared.replacements.Replacement.{Replacement}
use Rattle.text_filters.specs.declared.replacements.Replacement.TheVariants.{Remove, RemoveFirst, Replace, ReplaceFirst}
use Rattle.text_filters.specs.Spans.{span_filter}
use Rattle.text_filters.specs.declared.spans.Span.{Span}
use Rattle.text_filters.specs.declared.spans.Span.TheVariants.{Slice, Truncate}
use Rattle.text_filters.specs.Splitting.{split_filter}
use Rattle.text_filters.specs.Texts.{text_filter}
use Rattle.text_filters.specs.declared.texts.TextFilter.{TextFilter}
use Rattle.text_filters.specs.declared.texts.TextFilter.TheVariants.{Append, Prepend}
use Rattle.text_filters.specs.UrlTexts.{url_decode}
use Rattle.text_filters.specs.Words.{words_filter}
use Rattle.liquid_filters.specs.Numbers.{number_filter}
use Rattle.liquid_filters.specs.declared.numbers.NumberFilter.{NumberFilter}
use Rattle.liquid_filters.specs.declared.numbers.NumberFilter.TheVariants.{Abs, AtLeast, AtMost, Ceil, DividedBy, Floor, Minus, Modulo, Plus, Round, Times}
use Rattle.liquid_filters.specs.declared.filter_name.FilterName.{FilterName}
use Rattle.liquid_filters.specs.declared.filter_name.FilterName.TheVariants as family

abbrev pub number_value : Result ℤ FaultKind → Result Plain FaultKind
number_value found = found >>= λ n. Ok (int n)

abbrev pub number : NumberFilter → Meaning
number filter v ws = made (number_value (number_filter filter v ws))

abbrev pub listing : ListFilter → Meaning
listing filter v ws = made (list_filter filter v ws)

abbrev pub changing : TextChange → Meaning
changing change v ws = made (change_filter change v ws)

abbrev pub texting : TextFilter → Meaning
texting filter v ws = made (text_filter filter v ws)

abbrev pub replacing : Replacement → Meaning
replacing filter v ws = made (replacement_filter filter v ws)

abbrev pub spanning : Span → Meaning
spanning filter v ws = made (span_filter filter v ws)

abbrev pub splitting : Meaning
splitting v ws = made (split_filter v ws)

abbrev pub word_keeping : Meaning
word_keeping v ws = made (words_filter v ws)

abbrev pub url_decoding : Meaning
url_decoding v ws = made (url_decode v ws)

unfoldable pub rows : List (List ℕ × Meaning)
rows =
    (codes "abs", number Abs)
    ∷ (codes "append", texting Append)
    ∷ (codes "at_least", number AtLeast)
    ∷ (codes "at_most", number AtMost)
    ∷ (codes "capitalize", changing Capitalize)
    ∷ (codes "ceil", number Ceil)
    ∷ (codes "compact", selection_filter Compact)
    ∷ (codes "concat", listing Concat)
    ∷ (codes "date", date)
    ∷ (codes "default", listing Default)
    ∷ (codes "divided_by", number DividedBy)
    ∷ (codes "downcase", changing Downcase)
    ∷ (codes "escape", changing Escape)
    ∷ (codes "escape_once", changing EscapeOnce)
    ∷ (codes "first", listing First)
    ∷ (codes "floor", number Floor)
    ∷ (codes "join", listing Join)
    ∷ (codes "last", listing Last)
    ∷ (codes "lstrip", changing Lstrip)
    ∷ (codes "map", selection_filter Map)
    ∷ (codes "minus", number Minus)
    ∷ (codes "modulo", number Modulo)
    ∷ (codes "newline_to_br", changing NewlineToBr)
    ∷ (codes "plus", number Plus)
    ∷ (codes "prepend", texting Prepend)
    ∷ (codes "remove", replacing Remove)
    ∷ (codes "remove_first", replacing RemoveFirst)
    ∷ (codes "replace", replacing Replace)
    ∷ (codes "replace_first", replacing ReplaceFirst)
    ∷ (codes "reverse", listing Reverse)
    ∷ (codes "round", number Round)
    ∷ (codes "rstrip", changing Rstrip)
    ∷ (codes "size", listing Size)
    ∷ (codes "slice", spanning Slice)
    ∷ (codes "sort", sort_filter Sort)
    ∷ (codes "sort_natural", sort_filter SortNatural)
    ∷ (codes "split", splitting)
    ∷ (codes "strip", changing Strip)
    ∷ (codes "strip_html", changing StripHtml)
    ∷ (codes "strip_newlines", changing StripNewlines)
    ∷ (codes "times", number Times)
    ∷ (codes "truncate", spanning Truncate)
    ∷ (codes "truncatewords", word_keeping)
    ∷ (codes "uniq", selection_filter Uniq)
    ∷ (codes "upcase", changing Upcase)
    ∷ (codes "url_decode", url_decoding)
    ∷ (codes "url_encode", changing UrlEncode)
    ∷ (codes "where", selection_filter Where)
    ∷ []

-- the filter of this name
abbrev pub filter_named : List ℕ → Option Meaning
filter_named name = lookup (bytes_eq name) rows

-- what the code's own name of a filter stands for
abbrev pub meaning_of : FilterName → Meaning
meaning_of (family.Change change) = changing change
meaning_of family.Date = date
meaning_of (family.List filter) = listing filter
meaning_of (family.Number filter) = number filter
meaning_of (family.Replacement filter) = replacing filter
meaning_of (family.Select selection) = selection_filter selection
meaning_of (family.Sort filter) = sort_filter filter
meaning_of (family.Span filter) = spanning filter
meaning_of family.Split = splitting
meaning_of (family.Text filter) = texting filter
meaning_of family.TruncateWords = word_keeping
meaning_of family.UrlDecode = url_decoding
