use Rattle.std.proofs.Common.{◌≡◌, ◌∙◌, Option, Some, ap, subst, sym}
use Rattle.std.proofs.Math.Facts.{to_z-of_z}
use Rattle.std.specs.Result.{IfOk}
use Rattle.site_base.specs.declared.faults.SiteFault.{SiteFault}
use Rattle.site_dates.specs.Moment.{IsMoment}
use Rattle.site_reader.specs.Found.{IsFirst}
use Rattle.site_reader.specs.Sites.{site}
use Rattle.site_session.proofs.Full.{fault-of-site, fault-of-reading}
use Rattle.site_session.proofs.Moments.{moment}
use Rattle.site_session.proofs.output.first_fault.Goals as goal

-- an i64 that is handed on is the same number
pub read_site-requires : goal.read_site-requires
read_site-requires g c = subst (λ m. IsMoment m) (sym (to_z-of_z c.ranges.moment)) (moment c.args.moment c.requires)

pub returns-in-Ok : goal.returns-in-Ok
returns-in-Ok g c =
    let same = ap (λ m. site c.args.held.now m c.args.settings.now) (sym (to_z-of_z c.ranges.moment)) in
    subst (λ (o : Option SiteFault). IfOk c.first_item_fault.result (λ fault. fault ≡ o))
    (sym (fault-of-site c.args.held.now (site c.args.held.now c.args.moment c.args.settings.now) c.in-Ok.site (same ∙ c.in-Ok.ensures.read))) c.first_item_fault.ensures

pub returns-in-Err-Fault : goal.returns-in-Err-Fault
returns-in-Err-Fault g c =
    let same = subst (λ m. IsFirst (site c.args.held.now m c.args.settings.now) c.in-Err-Fault.field-0) (to_z-of_z c.ranges.moment) c.in-Err-Fault.ensures.read in
    let read = subst (λ e. IsFirst (site c.args.held.now c.args.moment c.args.settings.now) e) c.in-Err-Fault.field-0-is same in
    ap Some c.in-Err-Fault.fault-is ∙ sym (fault-of-reading c.args.held.now (site c.args.held.now c.args.moment c.args.settings.now) c.in-Err-Fault.fault read)
