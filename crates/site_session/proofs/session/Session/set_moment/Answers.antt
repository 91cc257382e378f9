use Rattle.std.proofs.Common.{◌≡◌, ℤ, rules, subst, sym, true}
use Rattle.std.proofs.Math.Facts.{to_z-of_z}
use Rattle.std.specs.Option.{IfSome}
use Rattle.site_script.specs.Line.{is_moment}
use Rattle.site_session.specs.Settled.{Rests}
use Rattle.site_session.specs.Looking.{bytes_of}
use Rattle.site_session.specs.Standing.{Standing}
use Rattle.site_session.proofs.Resting.{still}
use Rattle.site_session.proofs.session.Session.set_moment.Goals as goal

-- an i64 that is kept is the same number
pub invariant_of-self : goal.invariant_of-self
invariant_of-self c =
    let old = c.self.inside in
    let first : Standing = record { files = old.held; moment = old.moment; settings = old.settings; kept = old.memo; belief = old.keeper; base = old.base; scanned = bytes_of old.table } in
    let last : Standing = record { files = old.held; moment = c.args.moment; settings = old.settings; kept = old.memo; belief = old.keeper; base = old.base; scanned = bytes_of old.table } in
    let kept = sym (to_z-of_z c.ranges.moment) in (
      subst (λ (m : ℤ). is_moment m ≡ true) kept c.requires,
      subst (λ (m : ℤ). IfSome c.known_still-self-inside.result (λ reused. Rests (record { files = old.held; moment = m; settings = old.settings; kept = old.memo; belief = old.keeper; base = old.base; scanned = bytes_of old.table }) reused)) kept
          (still old.resting c.known_still-self-inside.result _ first last c.known_still-self-inside.ensures
          (λ same.
          let moment : c.args.moment ≡ old.moment = search rules in
          λ i. record { files = old.held; moment = moment i; settings = old.settings; kept = old.memo; belief = old.keeper; base = old.base; scanned = bytes_of old.table })
          c.self.invariant.1),
      c.self.invariant.2,
    )
