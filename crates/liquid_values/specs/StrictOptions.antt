-- Faults that a site has only where its `liquid` wants them: variables that are undefined, and filters of no known name.
-- After Jekyll 4's manual, "Liquid Options", and the README of Liquid (Shopify), "Undefined variables and filters".
use Rattle.std.specs.Prelude.{ℕ, Bool, false, List, codes, if◌then◌else◌, Option, Some, None, Result, Ok, Err}
use Rattle.site_base.specs.Plain.{Plain, nil, bool, hash, get}
use Rattle.site_base.specs.declared.faults.FaultKind.{FaultKind}
use Rattle.site_base.specs.declared.faults.FaultKind.TheVariants.{Undefined, UnknownFilter}
use Rattle.site_base.specs.declared.faults.SiteFault.{SiteFault}
use Rattle.read_record.specs.declared.key.Key.{Key}
use Rattle.read_record.specs.declared.key.Key.TheVariants.{SiteVar}
use Rattle.read_record.specs.Queries.{Query, Give, Ask}
use Rattle.liquid_values.specs.declared.strict_options.StrictOption.{StrictOption}
use Rattle.liquid_values.specs.declared.strict_options.StrictOption.TheVariants as options
use Rattle.liquid_values.specs.Places.{Place, found_at}

abbrev pub name_of : StrictOption → List ℕ
name_of options.Variables = codes "strict_variables"
name_of options.Filters = codes "strict_filters"

abbrev pub fault_of : StrictOption → FaultKind
fault_of options.Variables = Undefined
fault_of options.Filters = UnknownFilter

abbrev pub is_true : Option Plain → Bool
is_true (Some (bool b)) = b
is_true v = false

-- the site's `liquid` sets the option
abbrev pub sets : StrictOption → Plain → Bool
sets option (hash ps) = is_true (get (name_of option) ps)
sets option v = false

-- a value, or the option's fault where the settings set it
abbrev pub allowed : StrictOption → Plain → Plain → Result Plain FaultKind
allowed option v settings = if sets option settings then Err (fault_of option) else Ok v

abbrev pub unless_strict : Place → StrictOption → Plain → Query SiteFault Plain
unless_strict p option v = Ask (SiteVar (codes "liquid")) (λ settings. found_at p (allowed option v settings))

-- what is undefined is nil, or a fault where it is tested and the site wants that
abbrev pub undefined : Place → Query SiteFault Plain
undefined p = if p.tested then unless_strict p options.Variables nil else Give nil

abbrev pub defined : Place → Option Plain → Query SiteFault Plain
defined p (Some v) = Give v
defined p None = undefined p

-- what is nil is not there
abbrev pub present : Plain → Option Plain
present nil = None
present v = Some v

-- the value of a key, which is undefined where it is nil
abbrev pub asked : Place → Key → Query SiteFault Plain
asked p k = Ask k (λ v. defined p (present v))

-- a filter whose name no filter has gives its input
abbrev pub unknown_filter : Place → Plain → Query SiteFault Plain
unknown_filter p v = unless_strict p options.Filters v
