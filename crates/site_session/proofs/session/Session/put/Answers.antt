use Rattle.std.proofs.Common.{◌≡◌, ◌∙◌, Some, true, ap, refl}
use Rattle.std.specs.FinMap.{get}
use Rattle.site_session.specs.Looking.{bytes_of}
use Rattle.site_session.specs.Standing.{Standing}
use Rattle.site_session.proofs.Resting.{still}
use Rattle.site_session.proofs.Unchanged.{put_same}
use Rattle.site_session.proofs.session.Session.put.Goals as goal

pub invariant_of-self : goal.invariant_of-self
invariant_of-self c =
    let old = c.self.inside in
    let first : Standing = record { files = old.held; moment = old.moment; settings = old.settings; kept = old.memo; belief = old.keeper; base = old.base; scanned = bytes_of old.table } in
    let last : Standing = record { files = c.put.new.self; moment = old.moment; settings = old.settings; kept = old.memo; belief = old.keeper; base = old.base; scanned = bytes_of old.table } in (
      c.self.invariant.0,
      still old.resting c.known_still-self-inside.result c.holds-is_same.result first last c.known_still-self-inside.ensures
          (λ same.
          let has = ap (λ (s : Standing). get s.files c.args.path) c.self.view_is ∙ c.holds-is_same.ensures same ∙ ap Some c.deref.ensures.value in
          let files = c.in-Ok.ensures.0 ∙ put_same old.held c.args.path c.args.bytes.items has in
          λ i. record { files = files i; moment = old.moment; settings = old.settings; kept = old.memo; belief = old.keeper; base = old.base; scanned = bytes_of old.table })
          c.self.invariant.1,
      c.self.invariant.2,
    )

pub invariant_of-self-in-Err : goal.invariant_of-self-in-Err
invariant_of-self-in-Err c =
    let old = c.self.inside in
    let first : Standing = record { files = old.held; moment = old.moment; settings = old.settings; kept = old.memo; belief = old.keeper; base = old.base; scanned = bytes_of old.table } in
    let last : Standing = record { files = c.put.new.self; moment = old.moment; settings = old.settings; kept = old.memo; belief = old.keeper; base = old.base; scanned = bytes_of old.table } in (
      c.self.invariant.0,
      still old.resting old.resting true first last refl
          (λ _ i. record { files = c.in-Err.ensures.0 i; moment = old.moment; settings = old.settings; kept = old.memo; belief = old.keeper; base = old.base; scanned = bytes_of old.table })
          c.self.invariant.1,
      c.self.invariant.2,
    )
