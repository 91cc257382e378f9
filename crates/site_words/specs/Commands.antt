-- The options of the commands, as the parser of command lines knows them.
use Rattle.std.specs.Prelude.{◌≡◌, Bool, true, false, List, codes, Option, Some, None, ℕ, if◌then◌else◌}
use Rattle.clap.specs.Words.{App, Row, Rule, first_of, new_app, new_rule, one_of, with_rule}
use Rattle.clap.specs.Simple.{on_top}
use Rattle.site_words.specs.Words.{Given}
use Rattle.clap.specs.declared.builder.action.ArgAction.{ArgAction}
use Rattle.clap.specs.declared.builder.action.ArgAction.TheVariants.{Set, SetTrue}

abbrev pub long_option : List ℕ → ArgAction → Rule
long_option name action = record (new_rule name) { long = Some name; action = Some action }

-- words alone, without the program's name, and no option that is not named
abbrev pub plain_app : App
plain_app = on_top (λ s. record s { no_binary_name = true; disable_help_flag = true; disable_version_flag = true }) (new_app (codes "sitebuild"))

abbrev pub settings_app : App
settings_app = with_rule (with_rule plain_app (long_option (codes "drafts") SetTrue)) (long_option (codes "future") SetTrue)

abbrev pub jobs_app : App
jobs_app = with_rule (with_rule settings_app (long_option (codes "jobs") Set)) (long_option (codes "why") SetTrue)

abbrev pub options_app : Bool → App
options_app takes_jobs = if takes_jobs then jobs_app else settings_app

-- what the matches hold of a flag: its word as text, or nothing where it is not given
abbrev pub IsFlag : Option (List ℕ) → Bool → Type 0
IsFlag (Some text) b = text ≡ (if b then codes "true" else codes "false")
IsFlag None b = b ≡ false

-- the matches tell which options were given
pub record Tells (rows : List Row) (given : Given) : Type 0 where
  pub drafts : IsFlag (one_of (codes "drafts") rows) given.drafts
  pub future : IsFlag (one_of (codes "future") rows) given.future
  pub why : IsFlag (one_of (codes "why") rows) given.why
  pub jobs : first_of (codes "jobs") rows ≡ given.jobs
