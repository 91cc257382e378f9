-- The table of the filters: the name of each, and what it means. After Jekyll 4's manual, "Liquid Filters".
use Rattle.std.specs.Prelude.{ℕ, List, [], ◌∷◌, codes, Option}
use Rattle.std.specs.Map.{lookup}
use Rattle.std.specs.Str.{bytes_eq}
use Rattle.filter_base.specs.Answers.{Meaning, made}
use Rattle.jekyll_filters.specs.Addresses.{address_filter}
use Rattle.jekyll_filters.specs.declared.addresses.AddressFilter.TheVariants.{AbsoluteUrl, RelativeUrl}
use Rattle.jekyll_filters.specs.Changes.{change_filter}
use Rattle.jekyll_filters.specs.declared.changes.TextChange.{TextChange}
use Rattle.jekyll_filters.specs.declared.changes.TextChange.TheVariants.{CgiEscape, NormalizeWhitespace, Slugify, UriEscape, XmlEscape}
use Rattle.jekyll_filters.specs.Dates.{date_filter}
use Rattle.jekyll_filters.specs.declared.dates.DateFilter.TheVariants.{DateToLongString, DateToRfc822, DateToString, DateToXmlschema}
use Rattle.jekyll_filters.specs.Groups.{group_by}
use Rattle.jekyll_filters.specs.JsonTexts.{jsonify}
use Rattle.jekyll_filters.specs.Lists.{list_filter}
use Rattle.jekyll_filters.specs.declared.lists.ListFilter.{ListFilter}
use Rattle.jekyll_filters.specs.declared.lists.ListFilter.TheVariants.{ArrayToSentenceString, Pop, Push, Shift, Unshift}
use Rattle.jekyll_filters.specs.Markdown.{markdownify}
use Rattle.jekyll_filters.specs.Words.{number_of_words}
use Rattle.jekyll_filters.specs.declared.filter_name.FilterName.{FilterName}
use Rattle.jekyll_filters.specs.declared.filter_name.FilterName.TheVariants as family

abbrev pub changing : TextChange → Meaning
changing change v ws = made (change_filter change v ws)

abbrev pub listing : ListFilter → Meaning
listing filter v ws = made (list_filter filter v ws)

abbrev pub converting : Meaning
converting v ws = made (markdownify v ws)

abbrev pub counting : Meaning
counting v ws = made (number_of_words v ws)

unfoldable pub rows : List (List ℕ × Meaning)
rows =
    (codes "absolute_url", address_filter AbsoluteUrl)
    ∷ (codes "array_to_sentence_string", listing ArrayToSentenceString)
    ∷ (codes "cgi_escape", changing CgiEscape)
    ∷ (codes "date_to_long_string", date_filter DateToLongString)
    ∷ (codes "date_to_rfc822", date_filter DateToRfc822)
    ∷ (codes "date_to_string", date_filter DateToString)
    ∷ (codes "date_to_xmlschema", date_filter DateToXmlschema)
    ∷ (codes "group_by", group_by)
    ∷ (codes "jsonify", jsonify)
    ∷ (codes "markdownify", converting)
    ∷ (codes "normalize_whitespace", changing NormalizeWhitespace)
    ∷ (codes "number_of_words", counting)
    ∷ (codes "pop", listing Pop)
    ∷ (codes "push", listing Push)
    ∷ (codes "relative_url", address_filter RelativeUrl)
    ∷ (codes "shift", listing Shift)
    ∷ (codes "slugify", changing Slugify)
    ∷ (codes "unshift", listing Unshift)
    ∷ (codes "uri_escape", changing UriEscape)
    ∷ (codes "xml_escape", changing XmlEscape)
    ∷ []

-- the filter of this name
abbrev pub filter_named : List ℕ → Option Meaning
filter_named name = lookup (bytes_eq name) rows

-- what the code's own name of a filter stands for
abbrev pub meaning_of : FilterName → Meaning
meaning_of (family.Address filter) = address_filter filter
meaning_of (family.Change change) = changing change
meaning_of (family.Date filter) = date_filter filter
meaning_of family.GroupBy = group_by
meaning_of family.Jsonify = jsonify
meaning_of (family.List filter) = listing filter
meaning_of family.Markdownify = converting
meaning_of family.NumberOfWords = counting
