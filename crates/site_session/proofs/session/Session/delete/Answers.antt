use Rattle.std.proofs.Common.{◌∙◌, not, sym}
use Rattle.site_session.specs.Looking.{bytes_of}
use Rattle.site_session.specs.Standing.{Standing}
use Rattle.site_session.proofs.Resting.{still}
use Rattle.site_session.proofs.Unchanged.{none_held, remove_absent}
use Rattle.site_session.proofs.session.Session.delete.Goals as goal

pub invariant_of-self : goal.invariant_of-self
invariant_of-self c =
    let old = c.self.inside in
    let first : Standing = record { files = old.held; moment = old.moment; settings = old.settings; kept = old.memo; belief = old.keeper; base = old.base; scanned = bytes_of old.table } in
    let last : Standing = record { files = c.delete-was_held.new.self; moment = old.moment; settings = old.settings; kept = old.memo; belief = old.keeper; base = old.base; scanned = bytes_of old.table } in (
      c.self.invariant.0,
      still old.resting c.known_still-self-inside.result (not c.delete-was_held.result) first last c.known_still-self-inside.ensures
          (λ same.
          let files = c.delete-was_held.ensures.map ∙ remove_absent old.held c.args.path.now (sym c.delete-was_held.ensures.was ∙ none_held c.delete-was_held.result same) in
          λ i. record { files = files i; moment = old.moment; settings = old.settings; kept = old.memo; belief = old.keeper; base = old.base; scanned = bytes_of old.table })
          c.self.invariant.1,
      c.self.invariant.2,
    )
