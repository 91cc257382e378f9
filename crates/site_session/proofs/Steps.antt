-- What the answer of a scan makes of a session.
use Rattle.std.proofs.Common.{◌≡◌, ℕ, refl, sym, ◌∙◌, ap, subst, Option, Some, None, Result, Ok, Err}
use Rattle.std.specs.Result.{OnOk, OnErr, IfOk}
use Rattle.std.specs.FinMap.{entries, len}
use Rattle.site_base.specs.Places.{Files}
use Rattle.site_base.specs.declared.faults.SiteFault.{SiteFault}
use Rattle.source_tree.specs.Scan.{scan_fault}
use Rattle.source_tree.specs.declared.scan_error.ScanError.{ScanError}
use Rattle.source_tree.specs.declared.scan_error.ScanError.TheVariants as scan_error
use Rattle.site_session.specs.Standing.{Standing}
use Rattle.site_session.specs.Session.{Given, Reply, Scanned, ScanFailed, Faulty, Nothing, event_of, scan}
use Rattle.site_session.specs.Replies.{scan_reply}

pub scan_answers : (given : Given) (old : Standing) (files : Files) (result : Result ℕ ScanError) (reply : Reply)
    → OnOk result ((files ≡ given.source) × (scan_fault (entries given.source) ≡ None))
    → ((fault : SiteFault) → result ≡ Err (scan_error.Limit fault) → scan_fault (entries given.source) ≡ Some fault)
    → IfOk result (λ count. count ≡ len files) → OnErr result (files ≡ old.files)
    → scan_reply result ≡ Some reply
    → scan given old (scan_fault (entries given.source)) (event_of reply) ≡ (record old { files = files }, reply)
scan_answers given old files (Ok count) reply held limit counts err is =
    let e : Scanned count ≡ reply = cc in
    subst (λ (r : Reply). scan given old (scan_fault (entries given.source)) (event_of r) ≡ (record old { files = files }, r)) e
    (ap (λ (f : Option SiteFault). scan given old f Nothing) held.1 ∙ (λ i. (record old { files = sym held.0 i }, Scanned ((ap (λ (m : Files). len m) (sym held.0) ∙ sym counts) i))))
scan_answers given old files (Err scan_error.Failed) reply held limit counts err is =
    let e : ScanFailed ≡ reply = cc in
    subst (λ (r : Reply). scan given old (scan_fault (entries given.source)) (event_of r) ≡ (record old { files = files }, r)) e
    (failed (scan_fault (entries given.source)) ∙ (λ i. (record old { files = sym err i }, ScanFailed)))
  where
    failed : (fault : Option SiteFault) → scan given old fault (event_of ScanFailed) ≡ (old, ScanFailed)
    failed None = refl
    failed (Some fault) = refl
scan_answers given old files (Err (scan_error.Limit fault)) reply held limit counts err is =
    let e : Faulty fault ≡ reply = cc in
    subst (λ (r : Reply). scan given old (scan_fault (entries given.source)) (event_of r) ≡ (record old { files = files }, r)) e
    (ap (λ (f : Option SiteFault). scan given old f Nothing) (limit fault refl) ∙ (λ i. (record old { files = sym err i }, Faulty fault)))
scan_answers given old files (Err scan_error.Memory) reply held limit counts err is = absurd (cc (is))
