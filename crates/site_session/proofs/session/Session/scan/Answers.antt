use Rattle.std.proofs.Common.{◌≡◌, ◌∙◌, Err, Ok, Result, true, ap, refl, subst, sym, ℕ}
use Rattle.std.specs.FinMap.{entries}
use Rattle.source_tree.specs.Scan.{scan_fault}
use Rattle.source_tree.specs.declared.rescanned.Rescanned.{Rescanned}
use Rattle.source_tree.specs.declared.scan_error.ScanError.{ScanError}
use Rattle.source_tree.specs.declared.scan_error.ScanError.TheVariants.{Limit}
use Rattle.site_base.specs.declared.faults.SiteFault.{SiteFault}
use Rattle.site_session.specs.Looking.{bytes_of}
use Rattle.site_session.specs.Standing.{Standing}
use Rattle.site_session.specs.Session.{scan, event_of}
use Rattle.site_session.proofs.Resting.{still}
use Rattle.site_session.proofs.Steps.{scan_answers}
use Rattle.site_session.proofs.session.Session.scan.Goals as goal

pub invariant_of-self : goal.invariant_of-self
invariant_of-self g c =
    let old = c.self.inside in
    let first : Standing = record { files = old.held; moment = old.moment; settings = old.settings; kept = old.memo; belief = old.keeper; base = old.base; scanned = bytes_of old.table } in
    let last : Standing = record { files = c.rescan.new.self; moment = old.moment; settings = old.settings; kept = old.memo; belief = old.keeper; base = old.base; scanned = bytes_of old.table } in (
      c.self.invariant.0,
      still old.resting c.known_still-self-inside.result c.in-Ok.found.is_same first last c.known_still-self-inside.ensures
          (λ same. let files = c.in-Ok.ensures.is_same.0 same in λ i. record { files = files i; moment = old.moment; settings = old.settings; kept = old.memo; belief = old.keeper; base = old.base; scanned = bytes_of old.table })
          c.self.invariant.1,
      c.self.invariant.2,
    )

pub invariant_of-self-in-Err : goal.invariant_of-self-in-Err
invariant_of-self-in-Err g c =
    let old = c.self.inside in
    let first : Standing = record { files = old.held; moment = old.moment; settings = old.settings; kept = old.memo; belief = old.keeper; base = old.base; scanned = bytes_of old.table } in
    let last : Standing = record { files = c.rescan.new.self; moment = old.moment; settings = old.settings; kept = old.memo; belief = old.keeper; base = old.base; scanned = bytes_of old.table } in (
      c.self.invariant.0,
      still old.resting old.resting true first last refl
          (λ _ i. record { files = c.in-Err.ensures.err i; moment = old.moment; settings = old.settings; kept = old.memo; belief = old.keeper; base = old.base; scanned = bytes_of old.table })
          c.self.invariant.1,
      c.self.invariant.2,
    )

pub returns-in-Ok-clause-answers : goal.returns-in-Ok-clause-answers
returns-in-Ok-clause-answers g c = λ given number reply told is.
    let old = c.self.inside in
    subst (λ (s : Standing). scan given s (scan_fault (entries given.source)) (event_of reply) ≡ (record { files = c.rescan.new.self; moment = old.moment; settings = old.settings; kept = old.memo; belief = old.keeper; base = old.base; scanned = bytes_of old.table }, reply)) c.self.view_is
    (scan_answers given (record { files = old.held; moment = old.moment; settings = old.settings; kept = old.memo; belief = old.keeper; base = old.base; scanned = bytes_of old.table }) c.rescan.new.self (Ok c.in-Ok.found.number) reply
    (c.in-Ok.ensures.held given.source told) (λ fault e. absurd (cc (e))) c.in-Ok.ensures.number tt is)

-- the result of the scan names its error otherwise
limit_of : (error : ScanError) (fault : SiteFault) → ◌≡◌ {A = Result ℕ ScanError} (Err error) (Err (Limit fault)) → ◌≡◌ {A = Result Rescanned ScanError} (Err error) (Err (Limit fault))
limit_of error fault e = let same : error ≡ Limit fault = cc (e) in ap (λ (e : ScanError). Err e) same

pub returns-in-Err-clause-answers : goal.returns-in-Err-clause-answers
returns-in-Err-clause-answers g c = λ given number reply told is.
    let old = c.self.inside in
    subst (λ (s : Standing). scan given s (scan_fault (entries given.source)) (event_of reply) ≡ (record { files = c.rescan.new.self; moment = old.moment; settings = old.settings; kept = old.memo; belief = old.keeper; base = old.base; scanned = bytes_of old.table }, reply)) c.self.view_is
    (scan_answers given (record { files = old.held; moment = old.moment; settings = old.settings; kept = old.memo; belief = old.keeper; base = old.base; scanned = bytes_of old.table }) c.rescan.new.self (Err c.in-Err.error) reply
    tt (λ fault e. c.in-Err.ensures.limit given.source fault told (limit_of c.in-Err.error fault e)) tt c.in-Err.ensures.err is)
