-- What is kept from one reading of a site to the next, and what of its files is read anew.
use Rattle.std.specs.Prelude.{ℕ, ◌&&◌, ◌||◌, Bool, true, false, not, List, Option, Some, None, is_some, Ok}
use Rattle.std.specs.Coded.{Coded, code_by, coded×, coded_list, coded_ℕ}
use Rattle.std.specs.FinMap as finite
use Rattle.std.specs.List.{count_by}
use Rattle.std.specs.Str.{bytes_eq}
use Rattle.std.proofs.Common.{refl}
use Rattle.site_base.specs.Chains.{◌>>=◌}
use Rattle.site_base.specs.Places.{Files}
use Rattle.site_base.specs.declared.settings.Settings.{Settings}
use Rattle.front_yaml.specs.Front.{front}
use Rattle.front_yaml.specs.declared.front_matter.Front.{Front}
use Rattle.front_yaml.specs.declared.front_matter.Front.TheVariants.{Page, Open, Plain}
use Rattle.site_config.specs.declared.config.Config.{Config}
use Rattle.site_files.specs.Places.{place_of}
use Rattle.site_files.specs.declared.place.Place.{Place}
use Rattle.site_files.specs.declared.place.Place.TheVariants as place
use Rattle.site_reader.specs.Found.{Found}
use Rattle.site_reader.specs.Placing.{File, builds_drafts, kind_at}
use Rattle.site_reader.specs.Sites.{config}

-- the files that are kept, and how many of them were read anew in the last reading
pub record Kept : Type 0 where
  pub kept : Files
  pub parsed : ℕ

abbrev pub kept_coded : Coded Kept
kept_coded = code_by (Files × ℕ) (coded× (finite.code (coded_list coded_ℕ) (coded_list coded_ℕ)) coded_ℕ) (λ k. (k.kept, k.parsed)) (λ p. record { kept = p.0; parsed = p.1 }) (λ _. refl)

abbrev pub is_layout : Place → Bool
is_layout place.Layout = true
is_layout other = false

-- whether it is a layout or an item, which have variables
abbrev pub has_variables : Place → Front → Bool
has_variables at matter = is_layout at || is_some (kind_at at matter)

-- whether front matter is closed, so that there is YAML to be read
abbrev pub is_closed : Front → Bool
is_closed (Page start end body) = true
is_closed Open = false
is_closed Plain = false

abbrev pub is_same : Option (List ℕ) → List ℕ → Bool
is_same None bytes = false
is_same (Some old) bytes = bytes_eq old bytes

abbrev pub is_new : Files → File → Bool
is_new kept file = not (is_same (finite.get kept file.0) file.1)

abbrev pub has_yaml : Place → Front → Bool
has_yaml at matter = has_variables at matter && is_closed matter

-- a file with front matter to be read, whose bytes are other than those kept before
abbrev pub is_parsed : Config → Bool → Files → File → Bool
is_parsed config drafts kept file = is_new kept file && has_yaml (place_of config drafts file.0) (front file.1)

abbrev pub parsed_under : Config → Bool → Files → Files → ℕ
parsed_under config drafts kept files = count_by (is_parsed config drafts kept) (finite.entries files)

-- how many files are read anew
abbrev pub parsed : Settings → Files → Files → Found ℕ
parsed settings kept files = config files >>= λ c. Ok (parsed_under c (builds_drafts c settings) kept files)
