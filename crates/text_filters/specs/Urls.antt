-- Texts as they are written in URLs, after RFC 3986, sections 2.1 to 2.3; a space as `+` is of HTML's forms.
use Rattle.std.specs.Prelude.{ℕ, ◌==◌, Bool, ◌||◌, List, [], ◌∷◌, codes, if◌then◌else◌}
use Rattle.std.specs.List.{list_any}
use Rattle.site_text.specs.Bytes.{is_digit, is_letter}
use Rattle.site_text.specs.Urls.{percent_byte}
use Rattle.text_filters.specs.declared.urls.UrlCode.{UrlCode}
use Rattle.text_filters.specs.declared.urls.UrlCode.TheVariants.{Query, Address}

-- letters, digits and these marks
abbrev pub is_unreserved : ℕ → Bool
is_unreserved c = is_letter c || is_digit c || list_any (λ d. d == c) (codes "-_.~")

-- the marks too that have a meaning in an address
abbrev pub stays_in_addresses : ℕ → Bool
stays_in_addresses c = is_unreserved c || list_any (λ d. d == c) (codes "!*'();:@&=+$,/?#[]%")

abbrev pub query_byte : ℕ → List ℕ
query_byte c = if is_unreserved c then c ∷ [] else if c == 32 then codes "+" else percent_byte c

abbrev pub address_byte : ℕ → List ℕ
address_byte c = if stays_in_addresses c then c ∷ [] else percent_byte c

abbrev pub url_byte : UrlCode → ℕ → List ℕ
url_byte Query c = query_byte c
url_byte Address c = address_byte c
