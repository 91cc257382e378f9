-- The filters that change a text, without arguments. After the reference of Liquid 4 (Shopify), "Filters".
use Rattle.std.specs.Prelude.{ℕ, List, [], ◌∷◌, map, flat_map, Result, Ok}
use Rattle.std.specs.Char.{to_ascii_lowercase, to_ascii_uppercase}
use Rattle.site_base.specs.Chains.{◌>>=◌}
use Rattle.site_base.specs.Plain.{Plain, text}
use Rattle.site_base.specs.Values.{value_text}
use Rattle.site_base.specs.declared.faults.FaultKind.{FaultKind}
use Rattle.filter_base.specs.Arguments.{no_more}
use Rattle.filter_base.specs.White.{without_front, without_end}
use Rattle.text_filters.specs.Marks.{marked}
use Rattle.text_filters.specs.Stretches.{stripped}
use Rattle.text_filters.specs.Urls.{url_byte}
use Rattle.text_filters.specs.declared.changes.TextChange.{TextChange}
use Rattle.text_filters.specs.declared.changes.TextChange.TheVariants.{Capitalize, Downcase, Escape, EscapeOnce, Lstrip, NewlineToBr, Rstrip, Strip, StripHtml, StripNewlines, Upcase, UrlEncode}
use Rattle.text_filters.specs.declared.marks.Mark.TheVariants as mark
use Rattle.text_filters.specs.declared.urls.UrlCode.TheVariants as url_code

-- in ASCII; the first character as a capital, all others small
abbrev pub capitalized : List ℕ → List ℕ
capitalized [] = []
capitalized (c ∷ cs) = to_ascii_uppercase c ∷ map to_ascii_lowercase cs

abbrev pub changed : TextChange → List ℕ → List ℕ
changed Capitalize t = capitalized t
changed Downcase t = map to_ascii_lowercase t
changed Escape t = marked mark.Escape t
changed EscapeOnce t = marked mark.EscapeOnce t
changed Lstrip t = without_front t
changed NewlineToBr t = marked mark.LineBreak t
changed Rstrip t = without_end t
changed Strip t = without_end (without_front t)
changed StripHtml t = stripped t
changed StripNewlines t = marked mark.LineEnd t
changed Upcase t = map to_ascii_uppercase t
changed UrlEncode t = flat_map (url_byte url_code.Query) t

abbrev pub change_filter : TextChange → Plain → List Plain → Result Plain FaultKind
change_filter change v ws = no_more ws >>= λ _. Ok (text (changed change (value_text v)))
