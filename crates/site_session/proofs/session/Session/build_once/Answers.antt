use Rattle.std.proofs.Common.{FitsSigned, ℤ, refl, rules, subst, w64}
use Rattle.std.proofs.Math.Facts.{to_z-of_z}
use Rattle.std.specs.FinMap.{empty}
use Rattle.site_reader.specs.Sites.{site}
use Rattle.site_session.specs.Outputs.{IsOutputAnew}
use Rattle.site_session.specs.Rebuilds.{BuildsOnce}
use Rattle.site_session.specs.Looking.{bytes_of}
use Rattle.site_session.specs.Standing.{Standing}
use Rattle.site_session.proofs.Full.{laws_in_order}
use Rattle.site_session.proofs.Rebuilding.{rebuilds}
use Rattle.site_session.specs.Rounds.{in_order}
use Rattle.site_session.proofs.session.Session.build_once.Goals as goal

pub returns : goal.returns
returns g c =
    let old = c.self.inside in
    let first : Standing = record { files = old.held; moment = old.moment; settings = old.settings; kept = empty; belief = old.keeper; base = old.base; scanned = bytes_of old.table } in
    let was : Standing = record { files = old.held; moment = old.moment; settings = old.settings; kept = old.memo; belief = old.keeper; base = old.base; scanned = bytes_of old.table } in
    let fits : FitsSigned w64 old.moment = search rules in
    let output = subst (λ (m : ℤ). IsOutputAnew old.held (site old.held m old.settings) c.output_anew-output.result c.args.tally.now c.output_anew-output.new.tally) (to_z-of_z fits) c.output_anew-output.ensures in
    let last : Standing = record { files = old.held; moment = old.moment; settings = old.settings; kept = output.0; belief = c.finish.new.keeper; base = c.finish.new.base; scanned = bytes_of old.table } in
    subst (λ (s : Standing). BuildsOnce g.O.OutTree.contents g.O.OutTree.calls g.O.OutTree.failures s c.finish.result c.args.out.now c.finish.new.out c.args.tally.now c.output_anew-output.new.tally) c.self.view_is (
      last,
      rebuilds in_order laws_in_order g.O.OutTree.contents g.O.OutTree.calls g.O.OutTree.failures first last c.output_anew-output.result c.finish.result c.args.out.now c.finish.new.out c.args.tally.now c.output_anew-output.new.tally
          output.1 c.finish.ensures (refl, refl, refl) refl,
    )
