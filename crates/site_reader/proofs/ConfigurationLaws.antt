-- The configuration that is found: no value has another form than its key asks.
use Rattle.std.proofs.Common.{◌≡◌, ℕ, Bool, true, false, List, Option, Some, None, Ok, Err, if◌then◌else◌, refl, sym, subst}
use Rattle.std.specs.FinMap.{get}
use Rattle.std.specs.Str.{is_utf8}
use Rattle.site_base.specs.Places.{Files}
use Rattle.site_base.specs.Plain.{Pairs, hash}
use Rattle.site_base.specs.declared.faults.FaultKind.TheVariants as fault
use Rattle.site_config.specs.Config as of
use Rattle.site_config.specs.Table.{wrong_key}
use Rattle.site_config.specs.Texts.{mapping}
use Rattle.site_config.specs.declared.config.Config.{Config}
use Rattle.site_items.specs.Matter as matter
use Rattle.site_items.specs.Outcomes.{Outcome}
use Rattle.site_reader.specs.Paginating.{HasSize}
use Rattle.site_reader.specs.Placing.{config_path}
use Rattle.site_reader.specs.Sites as sites
use Rattle.site_reader.proofs.Weights.{file_found, found_before, found_value}

-- what a mapping says, whose values have their forms
pub record IsFormed (config : Config) : Type 0 where
  pub forms : wrong_key (hash config.all) ≡ None
  pub says : config ≡ of.config (hash config.all)

configured : (wrong : Option (List ℕ)) (ps : Pairs) (config : Config) → wrong ≡ wrong_key (hash ps) → ◌≡◌ {A = Outcome Config} (sites.configured wrong ps) (Ok config) → IsFormed config
configured None ps config is e =
    let made : of.config (hash ps) ≡ config = found_value (of.config (hash ps)) config e in
    subst IsFormed made (record { forms = sym is; says = refl })
configured (Some key) ps config is e = absurd (cc (e))

text_config : (text : Option (List ℕ)) (config : Config) → ◌≡◌ {A = Outcome Config} (sites.text_config text) (Ok config) → IsFormed config
text_config text config e =
    let read = found_before (matter.in_file (mapping text)) _ config e in
    configured (wrong_key (hash read.0)) read.0 config refl read.2

config_in : (bytes : Option (List ℕ)) (config : Config) → ◌≡◌ {A = Outcome Config} (sites.config_in bytes) (Ok config) → IsFormed config
config_in None config e = text_config None config e
config_in (Some bytes) config e = by (is_utf8 bytes) e
  where
    by : (b : Bool) → ◌≡◌ {A = Outcome Config} (if b then sites.text_config (Some bytes) else Err (0, fault.NotUtf8)) (Ok config) → IsFormed config
    by true is = text_config (Some bytes) config is
    by false is = absurd (cc (is))

pub config_formed : (files : Files) (config : Config) → sites.config files ≡ Ok config → IsFormed config
config_formed files config e = config_in (get files config_path) config (file_found config_path (sites.config_in (get files config_path)) config e)

-- a configuration that a mapping says has the number that its value says
pub has_size : (ps : Pairs) (config : Config) → config ≡ of.config (hash ps) → HasSize config
has_size ps config is = subst HasSize (sym is) refl

pub sized : {config : Config} → IsFormed config → HasSize config
sized {config} formed = has_size config.all config formed.says
