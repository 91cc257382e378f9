use Rattle.std.proofs.Common.{IfOk}
use Rattle.std.proofs.lemmas.Int.{to_z-of_z}
use Rattle.site_reader.specs.Lawful.{IsLawful}
use Rattle.site_reader.proofs.LawfulSites.{few_under, read_archived, read_lawfully}
use Rattle.site_reader.proofs.reading.read_site.Goals as goal

pub returns-in-Ok-clause-lawful : goal.returns-in-Ok-clause-lawful
returns-in-Ok-clause-lawful c =
    read_lawfully c.args.held.now c.args.moment c.args.settings.now c.in-Ok.config c.site_with.result c.in-Ok.ensures.read c.requires (simp (to_z-of_z, c.ranges.moment) at c.site_with.ensures.read)

pub returns-in-Ok-clause-few : goal.returns-in-Ok-clause-few
returns-in-Ok-clause-few c =
    let lawful : IfOk c.site_with.result (IsLawful c.args.held.now) =
    read_lawfully c.args.held.now c.args.moment c.args.settings.now c.in-Ok.config c.site_with.result c.in-Ok.ensures.read c.requires (simp (to_z-of_z, c.ranges.moment) at c.site_with.ensures.read) in
    few_under c.args.held.now c.site_with.result c.site_with.ensures.within.few lawful

pub returns-in-Ok-clause-archived : goal.returns-in-Ok-clause-archived
returns-in-Ok-clause-archived c =
    read_archived c.args.held.now c.args.moment c.args.settings.now c.in-Ok.config c.site_with.result c.in-Ok.ensures.read c.requires (simp (to_z-of_z, c.ranges.moment) at c.site_with.ensures.read)
