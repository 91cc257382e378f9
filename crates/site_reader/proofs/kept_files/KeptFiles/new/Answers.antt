use Rattle.site_reader.proofs.PlacementLaws.{no_bytes, none_placed}
use Rattle.site_reader.proofs.kept_files.KeptFiles.new.Goals as goal

pub returns-clause-files : goal.returns-clause-files
returns-clause-files c = no_bytes c.new.result c.new.ensures

pub returns-clause-sound : goal.returns-clause-sound
returns-clause-sound c = none_placed _ _ c.new.result c.new.ensures
