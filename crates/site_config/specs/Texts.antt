-- What an answer says of the text that was to be a configuration.
use Rattle.std.specs.Prelude.{◌≡◌, ℕ, List, Option, Some, None, Result, Ok, Err}
use Rattle.site_base.specs.Plain.{Pairs, no_pairs, hash}
use Rattle.front_yaml.specs.Reading.{Reading}
use Rattle.front_yaml.specs.Yaml.{yaml_pairs}
use Rattle.site_config.specs.Config.{config}
use Rattle.site_config.specs.Table.{wrong_key}
use Rattle.site_config.specs.declared.config.Config.{Config}
use Rattle.site_config.specs.declared.config_error.ConfigError.{ConfigError}
use Rattle.site_config.specs.declared.config_error.ConfigError.TheVariants as config_error

-- the pairs of a text, and none where there is no text
abbrev pub mapping : Option (List ℕ) → Reading Pairs
mapping None = Ok no_pairs
mapping (Some s) = yaml_pairs s

-- the same of a mapping that is there
abbrev pub IsConfigured : Pairs → Result Config ConfigError → Type 0
IsConfigured ps (Ok made) = (wrong_key (hash ps) ≡ None) × (made ≡ config (hash ps))
IsConfigured ps (Err (config_error.Yaml fault)) = ⊥
IsConfigured ps (Err (config_error.Key key)) = wrong_key (hash ps) ≡ Some key
IsConfigured ps (Err config_error.Memory) = Unit {0}

-- the configuration of a mapping whose values have their forms, or what is wrong first; memory may be wanting with any text
abbrev pub Configures : Option (List ℕ) → Result Config ConfigError → Type 0
Configures s (Ok made) = (ps : Pairs) × (mapping s ≡ Ok ps) × (wrong_key (hash ps) ≡ None) × (made ≡ config (hash ps))
Configures s (Err (config_error.Yaml fault)) = mapping s ≡ Err (fault.line, fault.kind)
Configures s (Err (config_error.Key key)) = (ps : Pairs) × (mapping s ≡ Ok ps) × (wrong_key (hash ps) ≡ Some key)
Configures s (Err config_error.Memory) = Unit {0}
