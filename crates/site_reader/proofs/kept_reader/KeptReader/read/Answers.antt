use Rattle.std.proofs.Common.{IfOk}
use Rattle.std.proofs.lemmas.Int.{to_z-of_z}
use Rattle.site_reader.specs.Lawful.{IsLawful}
use Rattle.site_reader.proofs.LawfulSites.{few_held, read_archived, read_lawfully}
use Rattle.site_reader.proofs.kept_reader.KeptReader.read.Goals as goal

pub returns-in-Ok-clause-lawful : goal.returns-in-Ok-clause-lawful
returns-in-Ok-clause-lawful g c =
    read_lawfully c.args.held.now c.args.moment c.args.settings.now c.in-Ok.config c.read_under.result c.in-Ok.ensures.read c.requires (simp (to_z-of_z, c.ranges.moment) at c.read_under.ensures.read)

pub returns-in-Ok-clause-few : goal.returns-in-Ok-clause-few
returns-in-Ok-clause-few g c =
    let lawful : IfOk c.read_under.result (IsLawful c.args.held.now) =
    read_lawfully c.args.held.now c.args.moment c.args.settings.now c.in-Ok.config c.read_under.result c.in-Ok.ensures.read c.requires (simp (to_z-of_z, c.ranges.moment) at c.read_under.ensures.read) in
    few_held c.args.held.now c.read_under.result c.read_under.ensures.within lawful

pub returns-in-Ok-clause-archived : goal.returns-in-Ok-clause-archived
returns-in-Ok-clause-archived g c =
    read_archived c.args.held.now c.args.moment c.args.settings.now c.in-Ok.config c.read_under.result c.in-Ok.ensures.read c.requires (simp (to_z-of_z, c.ranges.moment) at c.read_under.ensures.read)
