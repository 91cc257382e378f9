-- The configuration that bytes tell, or its first fault.
use Rattle.std.specs.Prelude.{ℕ, List, Option, Some, None, Ok, Err, if◌then◌else◌}
use Rattle.std.specs.Str.{is_utf8}
use Rattle.site_base.specs.Chains.{◌>>=◌}
use Rattle.site_base.specs.Plain.{Pairs, hash}
use Rattle.site_base.specs.declared.faults.FaultKind.TheVariants as fault
use Rattle.site_config.specs.Texts.{mapping}
use Rattle.site_config.specs.Config as of
use Rattle.site_config.specs.Table.{wrong_key}
use Rattle.site_config.specs.declared.config.Config.{Config}
use Rattle.site_items.specs.Matter as matter
use Rattle.site_items.specs.Outcomes.{Outcome}

-- a mapping whose values have their forms
abbrev pub configured : Option (List ℕ) → Pairs → Outcome Config
configured None ps = Ok (of.config (hash ps))
configured (Some key) ps = Err (0, fault.Config)

abbrev pub text_config : Option (List ℕ) → Outcome Config
text_config s = matter.in_file (mapping s) >>= λ ps. configured (wrong_key (hash ps)) ps

abbrev pub config_in : Option (List ℕ) → Outcome Config
config_in None = text_config None
config_in (Some bytes) = if is_utf8 bytes then text_config (Some bytes) else Err (0, fault.NotUtf8)
