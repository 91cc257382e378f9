use Rattle.std.proofs.Common.{ap, sym, ◌∙◌}
use Rattle.std.specs.Option.{option_map}
use Rattle.site_reader.specs.declared.site_file.SiteFile.{SiteFile}
use Rattle.site_reader.proofs.PlacementLaws.{get_bytes, get_placed}
use Rattle.site_reader.proofs.kept_files.KeptFiles.get.Goals as goal

pub returns-clause-is : goal.returns-clause-is
returns-clause-is c = ap (option_map (λ (file : SiteFile). file.file)) c.get.ensures ∙ sym (get_bytes c.args.self.now.files c.args.path.now)

pub returns-clause-placed : goal.returns-clause-placed
returns-clause-placed c = get_placed c.args.self.now c.args.path.now c.get.result c.requires c.get.ensures
