-- Dates by a pattern. After the reference of Liquid 4 (Shopify), "Filters": `date`; docs/PROFILE.md says which texts are dates.
use Rattle.std.specs.Prelude.{ℕ, ◌==◌, Bool, ◌||◌, ℤ, pos, List, length, codes, if◌then◌else◌, Option, Some, None, Result, Ok, Err}
use Rattle.std.specs.Option.{unwrap_or}
use Rattle.std.specs.Str.{bytes_eq}
use Rattle.site_base.specs.Plain.{Plain, nil, bool, int, text, list, hash, site_item, range}
use Rattle.site_base.specs.Values.{value_text}
use Rattle.site_base.specs.declared.faults.FaultKind.{FaultKind}
use Rattle.site_base.specs.declared.faults.FaultKind.TheVariants.{DateFormat}
use Rattle.site_dates.specs.Format.{format_moment}
use Rattle.site_dates.specs.Moment.{if_moment, read_moment}
use Rattle.site_dates.specs.Offset.{read_offset}
use Rattle.read_record.specs.declared.key.Key.TheVariants.{Moment, SiteVar}
use Rattle.read_record.specs.Queries.{Query, Give, Ask, bind}
use Rattle.filter_base.specs.Answers.{made}
use Rattle.filter_base.specs.Arguments.{one}
use Rattle.filter_base.specs.Numerals.{is_digits, text_number}

-- these words stand for the moment of the build
abbrev pub is_now : List ℕ → Bool
is_now t = bytes_eq t (codes "now") || bytes_eq t (codes "today")

-- the offset that a value names, else that of UTC
unfoldable pub offset_in : Plain → ℤ
offset_in nil = pos 0
offset_in (bool b) = pos 0
offset_in (int n) = pos 0
offset_in (text t) = unwrap_or (read_offset t) (pos 0)
offset_in (list is) = pos 0
offset_in (hash ps) = pos 0
offset_in (site_item path part) = pos 0
offset_in (range a b) = pos 0

-- a number of seconds, where it is within the limits of a moment
abbrev pub moment_of_number : Result ℤ FaultKind → Option ℤ
moment_of_number (Ok n) = if_moment n
moment_of_number (Err kind) = None

abbrev pub moment_of_digits : List ℕ → Option ℤ
moment_of_digits t = moment_of_number (text_number t)

-- digits alone count as a number, and other texts are read as dates, where clocks show the offset
unfoldable pub moment_of_text : ℤ → List ℕ → Option ℤ
moment_of_text offset t = if is_digits t then moment_of_digits t else read_moment t offset

-- the moment that a value names
unfoldable pub moment_of : ℤ → Plain → Option ℤ
moment_of offset nil = None
moment_of offset (bool b) = None
moment_of offset (int n) = if_moment n
moment_of offset (text t) = moment_of_text offset t
moment_of offset (list is) = None
moment_of offset (hash ps) = None
moment_of offset (site_item path part) = None
moment_of offset (range a b) = None

-- a pattern without a text holds a directive that is none
abbrev pub if_text : Option (List ℕ) → Result Plain FaultKind
if_text (Some t) = Ok (text t)
if_text None = Err DateFormat

unfoldable pub formatted : List ℕ → ℤ → ℤ → Result Plain FaultKind
formatted pattern offset moment = if_text (format_moment moment offset pattern)

-- a moment by the pattern; where there is none, the input
abbrev pub written : List ℕ → ℤ → Plain → Option ℤ → Result Plain FaultKind
written pattern offset v None = Ok v
written pattern offset v (Some moment) = formatted pattern offset moment

-- the moment that a value names, in the site's offset
abbrev pub zoned : List ℕ → Plain → Plain → Query FaultKind Plain
zoned pattern v named = Ask (SiteVar (codes "timezone")) (λ zone. made (written pattern (offset_in zone) v (moment_of (offset_in zone) named)))

-- the moment of the build
abbrev pub built : List ℕ → Plain → Query FaultKind Plain
built pattern v = Ask Moment (λ moment. zoned pattern v moment)

-- a text or a number as a date; any other value as it is
abbrev pub dated_value : List ℕ → Plain → Query FaultKind Plain
dated_value pattern nil = Give nil
dated_value pattern (bool b) = Give (bool b)
dated_value pattern (int n) = zoned pattern (int n) (int n)
dated_value pattern (text t) = if is_now t then built pattern (text t) else zoned pattern (text t) (text t)
dated_value pattern (list is) = Give (list is)
dated_value pattern (hash ps) = Give (hash ps)
dated_value pattern (site_item path part) = Give (site_item path part)
dated_value pattern (range a b) = Give (range a b)

-- an empty pattern leaves all as it is
abbrev pub dated : List ℕ → Plain → Query FaultKind Plain
dated pattern v = if length pattern == 0 then Give v else dated_value pattern v

-- the filter
abbrev pub date : Plain → List Plain → Query FaultKind Plain
date v ws = bind (made (one ws)) (λ w. dated (value_text w) v)
