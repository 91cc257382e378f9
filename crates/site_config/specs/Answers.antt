-- What an answer says of the value that was to be a configuration.
use Rattle.std.specs.Prelude.{◌≡◌, true, false, Some, None}
use Rattle.site_base.specs.Plain.{Plain}
use Rattle.site_config.specs.Config.{config, is_mapping}
use Rattle.site_config.specs.Table.{wrong_key}
use Rattle.site_config.specs.declared.config.Config.{Config}
use Rattle.site_config.specs.declared.value_error.ValueError.{ValueError}
use Rattle.site_config.specs.declared.value_error.ValueError.TheVariants as value_error

-- the mapping's values have their forms, and this is what they say
pub record IsConfig (made : Config) (v : Plain) : Type 0 where
  pub mapping : is_mapping v ≡ true
  pub forms : wrong_key v ≡ None
  pub same : made ≡ config v

-- what is wrong first; memory may be wanting with any value
abbrev pub IsWrong : ValueError → Plain → Type 0
IsWrong value_error.NotMapping v = is_mapping v ≡ false
IsWrong (value_error.Key key) v = (is_mapping v ≡ true) × (wrong_key v ≡ Some key)
IsWrong value_error.Memory v = Unit {0}
