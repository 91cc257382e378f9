use Rattle.std.proofs.Common.{FitsSigned, w32, w64}
use Rattle.std.proofs.lemmas.Int.{to_z-of_z}
use Rattle.site_dates.proofs.Clocks.{shown}
use Rattle.site_dates.proofs.local.LocalTime.at.Goals as goal

pub returns : goal.returns
returns c =
    let moment_fits : FitsSigned w64 c.args.moment = c.ranges.moment in
    let offset_fits : FitsSigned w32 c.args.offset = c.ranges.offset in
    let clock = simp to_z-of_z at c.clock_at.ensures in
    simp to_z-of_z (shown c.args.moment c.args.offset c.clock_at.result c.requires.moment c.requires.offset clock)
