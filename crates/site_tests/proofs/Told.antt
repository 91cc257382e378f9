-- What a run tells, where it began with the same.
use Rattle.std.proofs.Common.{◌≡◌, List, [], Option, subst, ℕ}
use Rattle.site_base.specs.Places.{Files}
use Rattle.site_session.specs.Session.{Given}
use Rattle.site_session.specs.Standing.{Standing}
use Rattle.site_program.specs.Once.{Ended, Took, after_scan}
use Rattle.site_program.specs.Sessions.{SessionRun}
use Rattle.site_program.specs.Stages.{Stage}
use Rattle.site_program.specs.declared.status.Status.{Status}

pub ended : (given : Given) (first start : Standing) (was told tells : Option Files) (status : Status) → first ≡ start → was ≡ told
    → Ended (after_scan given first) was tells status → Ended (after_scan given start) told tells status
ended given first start was told tells status start_is told_is h =
    subst (λ (t : Option Files). Ended (after_scan given start) t tells status) told_is (subst (λ (s : Standing). Ended (after_scan given s) was tells status) start_is h)

pub took : (given : Given) (first start : Standing) (after : Option (List ℕ)) (status : Status) → first ≡ start
    → Took given (after_scan given first) [] after status → Took given (after_scan given start) [] after status
took given first start after status start_is h = subst (λ (s : Standing). Took given (after_scan given s) [] after status) start_is h

pub session : {S D : Type 0} (given : Given) (first start : Standing) (text : List ℕ) (unread : Option (List ℕ)) (was begun last : Stage S D) (status : Status) → first ≡ start → was ≡ begun
    → SessionRun given first text [] unread was last status → SessionRun given start text [] unread begun last status
session {S} {D} given first start text unread was begun last status start_is was_is h =
    subst (λ (x : Stage S D). SessionRun given start text [] unread x last status) was_is (subst (λ (s : Standing). SessionRun given s text [] unread was last status) start_is h)
