use Rattle.std.proofs.Common.{subst, sym}
use Rattle.std.proofs.Math.Facts.{to_z-of_z}
use Rattle.site_dates.specs.Moment.{IsMoment}
use Rattle.site_session.proofs.Moments.{moment}
use Rattle.site_session.proofs.output.output_one_by_one.Goals as goal

-- an i64 that is handed on is the same number
pub site-requires : goal.site-requires
site-requires g c = subst (λ m. IsMoment m) (sym (to_z-of_z c.ranges.moment)) (moment c.args.moment c.requires)
