use Rattle.std.proofs.Common.{◌≡◌, drop}
use Rattle.site_base.specs.Plain.{onto}
use Rattle.site_variables.specs.Hashes.{copied}
use Rattle.site_variables.specs.Lists.{each}
use Rattle.site_variables.proofs.hashes.static_files.Given as goal

abbrev pub invariant-loop-file : goal.invariant-loop-file
invariant-loop-file l = onto l.list (each copied (drop l.file-index l.files)) ≡ each copied l.files
