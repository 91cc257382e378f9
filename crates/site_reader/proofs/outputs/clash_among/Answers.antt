use Rattle.std.proofs.Common.{◌∙◌, Some, ap}
use Rattle.site_reader.proofs.RisingLaws.{clash_by}
use Rattle.site_reader.proofs.outputs.clash_among.Goals as goal

pub returns-in-Some : goal.returns-in-Some
returns-in-Some c =
    ap Some c.in_ok-copy-in-Some.ensures ∙ c.in-Some.ensures.first ∙ clash_by c.from_rising-paths.result c.args.won.items c.requires c.from_rising-paths.ensures

pub returns : goal.returns
returns c = c.in-None.ensures.first ∙ clash_by c.from_rising-paths.result c.args.won.items c.requires c.from_rising-paths.ensures
