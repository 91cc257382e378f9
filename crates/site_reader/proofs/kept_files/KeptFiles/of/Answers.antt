use Rattle.site_reader.proofs.PlacementLaws.{entries_kept}
use Rattle.site_reader.proofs.kept_files.KeptFiles.of.Goals as goal

pub returns-clause-files : goal.returns-clause-files
returns-clause-files c = entries_kept c.from_rising.result c.args.files.items c.requires c.from_rising.ensures
