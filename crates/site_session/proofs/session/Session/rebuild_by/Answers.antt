use Rattle.std.proofs.Common.{FitsSigned, Ok, Option, ℤ, ℕ, refl, rules, subst, sym, w64}
use Rattle.std.proofs.Math.Facts.{to_z-of_z}
use Rattle.std.specs.Option.{IfSome}
use Rattle.site_reader.specs.Sites.{site}
use Rattle.site_session.specs.Outputs.{IsOutput}
use Rattle.site_session.specs.Rebuilds.{Rebuilds}
use Rattle.site_session.specs.Rounds.{in_any_order}
use Rattle.site_session.specs.Settled.{Rests}
use Rattle.site_session.specs.Looking.{bytes_of}
use Rattle.site_session.specs.Standing.{Standing}
use Rattle.site_session.specs.declared.build.Rebuilt.TheVariants as rebuilt
use Rattle.site_session.specs.declared.build.Report.{Report}
use Rattle.site_session.proofs.Full.{laws_in_any_order}
use Rattle.site_session.proofs.Rebuilding.{rebuilds}
use Rattle.site_session.proofs.Resting.{idle_rebuilds, known_after, rests_after}
use Rattle.site_session.proofs.session.Session.rebuild_by.Goals as goal

-- a build that has nothing to do
pub returns-in-Some : goal.returns-in-Some
returns-in-Some g c =
    let old = c.self.inside in
    let first : Standing = record { files = old.held; moment = old.moment; settings = old.settings; kept = old.memo; belief = old.keeper; base = old.base; scanned = bytes_of old.table } in
    let at = Rebuilds in_any_order g.O.OutTree.contents g.O.OutTree.calls g.O.OutTree.failures in
    let rest : Rests first c.in-Some.reused = subst (λ (known : Option ℕ). IfSome known (λ reused. Rests first reused)) c.in-Some.is c.self.invariant.1 in
    subst (λ (s : Standing). at s s (Ok (rebuilt.Built c.idle.result)) c.args.out.now c.args.out.now c.args.tally.now c.args.tally.now) c.self.view_is
    (subst (λ (r : Report). at first first (Ok (rebuilt.Built r)) c.args.out.now c.args.out.now c.args.tally.now c.args.tally.now) (sym c.idle.ensures)
    (idle_rebuilds in_any_order laws_in_any_order g.O.OutTree.contents g.O.OutTree.calls g.O.OutTree.failures first c.in-Some.reused c.args.out.now c.args.tally.now rest))

pub returns : goal.returns
returns g c =
    let old = c.self.inside in
    let first : Standing = record { files = old.held; moment = old.moment; settings = old.settings; kept = old.memo; belief = old.keeper; base = old.base; scanned = bytes_of old.table } in
    let fits : FitsSigned w64 old.moment = search rules in
    let output = subst (λ (m : ℤ). IsOutput in_any_order old.held old.memo (site old.held m old.settings) c.output_by_crew-output.result c.output_by_crew-output.new.memo c.args.tally.now c.output_by_crew-output.new.tally) (to_z-of_z fits) c.output_by_crew-output.ensures in
    let last : Standing = record { files = old.held; moment = old.moment; settings = old.settings; kept = c.output_by_crew-output.new.memo; belief = c.finish-rebuilt.new.keeper; base = c.finish-rebuilt.new.base; scanned = bytes_of old.table } in
    subst (λ (s : Standing). Rebuilds in_any_order g.O.OutTree.contents g.O.OutTree.calls g.O.OutTree.failures s last c.finish-rebuilt.result c.args.out.now c.finish-rebuilt.new.out c.args.tally.now c.output_by_crew-output.new.tally) c.self.view_is
    (rebuilds in_any_order laws_in_any_order g.O.OutTree.contents g.O.OutTree.calls g.O.OutTree.failures first last c.output_by_crew-output.result c.finish-rebuilt.result c.args.out.now c.finish-rebuilt.new.out c.args.tally.now c.output_by_crew-output.new.tally
    output c.finish-rebuilt.ensures (refl, refl, refl) refl)

-- after it nothing is left to do, where it did all that it planned
pub invariant_of-self : goal.invariant_of-self
invariant_of-self g c =
    let old = c.self.inside in
    let first : Standing = record { files = old.held; moment = old.moment; settings = old.settings; kept = old.memo; belief = old.keeper; base = old.base; scanned = bytes_of old.table } in
    let fits : FitsSigned w64 old.moment = search rules in
    let output = subst (λ (m : ℤ). IsOutput in_any_order old.held old.memo (site old.held m old.settings) c.output_by_crew-output.result c.output_by_crew-output.new.memo c.args.tally.now c.output_by_crew-output.new.tally) (to_z-of_z fits) c.output_by_crew-output.ensures in
    let kept = c.output_by_crew-output.new.memo in
    let belief = c.finish-rebuilt.new.keeper in
    let base = c.finish-rebuilt.new.base in
    let last : Standing = record { files = old.held; moment = old.moment; settings = old.settings; kept = kept; belief = belief; base = base; scanned = bytes_of old.table } in
    let made =
    rebuilds in_any_order laws_in_any_order g.O.OutTree.contents g.O.OutTree.calls g.O.OutTree.failures first last c.output_by_crew-output.result c.finish-rebuilt.result c.args.out.now c.finish-rebuilt.new.out c.args.tally.now c.output_by_crew-output.new.tally
    output c.finish-rebuilt.ensures (refl, refl, refl) refl in (
      c.self.invariant.0,
      known_after c.reused_after-self-inside.result c.finish-rebuilt.result last c.reused_after-self-inside.ensures
          (rests_after in_any_order g.O.OutTree.contents g.O.OutTree.calls g.O.OutTree.failures first kept belief base c.output_by_crew-output.result c.finish-rebuilt.result c.args.out.now c.finish-rebuilt.new.out c.args.tally.now c.output_by_crew-output.new.tally
          output c.finish-rebuilt.ensures made),
      λ e. absurd (cc (e)),
    )
