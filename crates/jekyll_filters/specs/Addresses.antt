-- Addresses in the site. After Jekyll 4's manual, "Liquid Filters": `relative_url`, `absolute_url`; what begins with a scheme: RFC 3986, section 3.1.
use Rattle.std.specs.Prelude.{ℕ, ◌==◌, Bool, false, ◌&&◌, List, [], ◌∷◌, ◌++◌, drop, codes, if◌then◌else◌}
use Rattle.site_base.specs.Plain.{Plain, text}
use Rattle.site_base.specs.Values.{value_text}
use Rattle.site_base.specs.declared.faults.FaultKind.{FaultKind}
use Rattle.site_text.specs.Bytes.{is_letter}
use Rattle.site_text.specs.Classes.{is_in}
use Rattle.site_text.specs.Fronts.{run_len}
use Rattle.site_text.specs.declared.classes.Class.TheVariants as class
use Rattle.permalinks.specs.Addresses.{behind_slash, front}
use Rattle.read_record.specs.declared.key.Key.TheVariants.{SiteVar}
use Rattle.read_record.specs.Queries.{Query, Give, Ask, bind}
use Rattle.filter_base.specs.Answers.{made}
use Rattle.filter_base.specs.Arguments.{no_more}
use Rattle.jekyll_filters.specs.declared.addresses.AddressFilter.{AddressFilter}
use Rattle.jekyll_filters.specs.declared.addresses.AddressFilter.TheVariants.{AbsoluteUrl, RelativeUrl}

abbrev pub begins_colon : List ℕ → Bool
begins_colon [] = false
begins_colon (c ∷ cs) = c == 58

-- a letter, then letters, digits, `+`, `.` and `-`, then `:`
abbrev pub has_scheme : List ℕ → Bool
has_scheme [] = false
has_scheme (c ∷ cs) = is_letter c && begins_colon (drop (run_len (is_in class.Scheme) cs) cs)

-- a base and a path behind what stands before them
abbrev pub address : List ℕ → List ℕ → List ℕ → List ℕ
address before base path = front before base ++ behind_slash path

-- the same, by the base of the site
abbrev pub based : List ℕ → List ℕ → Query FaultKind Plain
based before path = Ask (SiteVar (codes "baseurl")) (λ base. Give (text (address before (value_text base) path)))

abbrev pub absolute_url : List ℕ → Query FaultKind Plain
absolute_url path = Ask (SiteVar (codes "url")) (λ url. based (value_text url) path)

abbrev pub in_site : AddressFilter → List ℕ → Query FaultKind Plain
in_site AbsoluteUrl path = absolute_url path
in_site RelativeUrl path = based [] path

-- what begins with a scheme stays
abbrev pub addressed : AddressFilter → List ℕ → Query FaultKind Plain
addressed filter path = if has_scheme path then Give (text path) else in_site filter path

abbrev pub address_filter : AddressFilter → Plain → List Plain → Query FaultKind Plain
address_filter filter v ws = bind (made (no_more ws)) (λ _. addressed filter (value_text v))
