use Rattle.std.proofs.Common.{◌∙◌, ap, subst, sym}
use Rattle.std.proofs.Math.Facts.{to_z-of_z}
use Rattle.site_dates.specs.Moment.{IsMoment}
use Rattle.site_reader.specs.Found.{Found, IsFirst}
use Rattle.site_reader.specs.Sites.{site}
use Rattle.site_reader.specs.declared.site.Site.{Site}
use Rattle.site_session.specs.Outputs.{IsOutputAnew}
use Rattle.site_session.proofs.Full.{unread_anew}
use Rattle.site_session.proofs.Moments.{moment}
use Rattle.site_session.proofs.output.output_anew.Goals as goal

-- an i64 that is handed on is the same number
pub read_site-requires : goal.read_site-requires
read_site-requires g c = subst (λ m. IsMoment m) (sym (to_z-of_z c.ranges.moment)) (moment c.args.moment c.requires)

pub returns-in-Ok : goal.returns-in-Ok
returns-in-Ok g c =
    let same = ap (λ m. site c.args.held.now m c.args.settings.now) (sym (to_z-of_z c.ranges.moment)) in
    subst (λ (found : Found Site). IsOutputAnew c.args.held.now found c.site_anew.result c.args.tally.now c.site_anew.new.tally) (sym (same ∙ c.in-Ok.ensures.read)) c.site_anew.ensures

pub returns-in-Err : goal.returns-in-Err
returns-in-Err g c =
    let first = subst (λ m. IsFirst (site c.args.held.now m c.args.settings.now) c.in-Err.error) (to_z-of_z c.ranges.moment) c.in-Err.ensures.read in
    unread_anew c.args.held.now (site c.args.held.now c.args.moment c.args.settings.now) c.in-Err.error c.args.tally.now first
