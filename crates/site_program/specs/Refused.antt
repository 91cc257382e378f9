-- What a run does whose words are no command line.
use Rattle.std.specs.Prelude.{◌≡◌, ℕ, List, Some}
use Rattle.site_words.specs.declared.faults.UsageKind.{UsageKind}
use Rattle.site_program.specs.Checks.{Said}
use Rattle.site_program.specs.Once.{WasUsage}
use Rattle.site_program.specs.Stages.{Stage}
use Rattle.site_program.specs.Usage.{usage_line}
use Rattle.site_program.specs.declared.status.Status.{Status}
use Rattle.site_program.specs.declared.status.Status.TheVariants.{Usage}

-- it is answered and told what is wrong with them, unless the sink fails or memory is wanting, and nothing is done
pub record IsUsage {S D : Type 0} (kind : UsageKind) (was now : Stage S D) (ended : Status) : Type 0 where
  pub comes : WasUsage kind ended
  pub said : (before : List ℕ) → was.sink.taken ≡ Some before → Said (usage_line kind) (Usage kind) before now.sink.taken ended
  pub untouched : now.scene ≡ was.scene
