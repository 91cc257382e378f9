-- What a rebuild does to a session, its output and a tally.
use Rattle.std.specs.Prelude.{◌≡◌, ◌+◌, ◌-◌, ◌^◌, ◌≤◌, ℕ, min, List, Option, Some, Result, Ok, Err, OnErr, OnOk}
use Rattle.std.specs.FinMap.{empty}
use Rattle.out_tree.specs.declared.step.Call.{Call}
use Rattle.site_base.specs.Places.{Files}
use Rattle.site_base.specs.declared.errors.Memory.{Memory}
use Rattle.site_base.specs.declared.faults.SiteFault.{SiteFault}
use Rattle.site_base.specs.declared.item_name.ItemName.{ItemName}
use Rattle.site_script.specs.declared.line.Line.TheVariants as line
use Rattle.site_session.specs.Rounds.{Adds, in_order}
use Rattle.site_session.specs.Full.{full}
use Rattle.site_session.specs.Settled.{IsSettled}
use Rattle.site_session.specs.Replies.{based_by, built_reply, Called, FailedAt, Leaves}
use Rattle.site_session.specs.Session.{Given, Reply, Answers, output_failures, rendered_now}
use Rattle.site_session.specs.Standing.{Standing, Holds}
use Rattle.site_session.specs.Tallied.{Tallied}
use Rattle.site_session.specs.declared.build.Rebuilt.{Rebuilt}
use Rattle.site_session.specs.declared.build.Rebuilt.TheVariants as rebuilt
use Rattle.site_session.specs.declared.build.Report.{Report}
use Rattle.site_session.specs.declared.output.Written.{Written}

-- what a rebuild answers and leaves
pub record Rebuilds {D : Type 0} (adds : Adds) (contents : D → Option Files) (calls : D → Option (List Call)) (failures : D → ℕ) (old new : Standing) (result : Result Rebuilt Memory) (before after : D) (tally tally' : List ItemName) : Type 0 where
  -- it answers as a line `build` of a session is replied
  pub answers : (given : Given) (number : ℕ) (reply : Reply) → Holds (contents before) old.belief given.output → built_reply result ≡ Some reply → Answers given old number line.Build reply new
  -- what is believed stays true
  pub belief : (first : Files) → Holds (contents before) old.belief first → Holds (contents after) new.belief first
  -- the output is exactly what the held files stand for, but for the paths that failed, and these are marked
  pub leaves : (first : Files) (failed : List (List ℕ)) → Holds (contents before) old.belief first → FailedAt result failed → Leaves old failed (contents before) (contents after) new.belief
  pub unlisted : result ≡ Ok rebuilt.Unlisted → contents after ≡ contents before
  -- a fault is that of rendering from nothing, and the output is the same value
  pub fault : (f : SiteFault) → result ≡ Ok (rebuilt.Fault f) → (full old.files old.moment old.settings ≡ Err f) × (new ≡ rendered_now old) × (after ≡ before)
  -- files with a fault make no call on the output; others list it where it was not listed, and then try each step of the plan once
  pub quiet : (f : SiteFault) → full old.files old.moment old.settings ≡ Err f → after ≡ before
  pub called : (first : Files) (written : Written) → Holds (contents before) old.belief first → full old.files old.moment old.settings ≡ Ok written → Called old.belief first written result (calls before) (calls after)
  -- what is rendered is what is stale, each item once
  pub tallied : Tallied adds old result tally tally'
  -- the output's count of failures rises by at least what the answer shows, and stays where all went well
  pub later : failures before ≤ failures after
  pub cause : (reply : Reply) → built_reply result ≡ Some reply → min (failures before + output_failures reply) (2 ^ 64 - 1) ≤ failures after
  pub steady : (report : Report) → result ≡ Ok (rebuilt.Built report) → failures after ≡ failures before
  -- where there is nothing to do, output and tally are the same values; and after a build without a failure there is nothing to do
  pub idle : IsSettled old → (after ≡ before) × OnOk result (tally' ≡ tally)
  pub settled : (report : Report) → result ≡ Ok (rebuilt.Built report) → IsSettled new
  -- where the output was made what the held files stand for, its addresses have the base of that, and else the one of before; no page is looked at
  pub based : (written : Written) → full old.files old.moment old.settings ≡ Ok written → new.base ≡ based_by result old.base written.base
  pub same : (new.files ≡ old.files) × (new.moment ≡ old.moment) × (new.settings ≡ old.settings)
  pub looked : new.scanned ≡ old.scanned
  pub err : OnErr result (contents after ≡ contents before)
  pub unbased : OnErr result (new.base ≡ old.base)
  -- want of memory is not told in the place of a failure
  pub short : OnErr result (failures after ≡ failures before)

-- what a build answers and leaves with which its session ends: what a rebuild does, one item after another, of a session that keeps no
-- renders. It would stand like this then
abbrev pub BuildsOnce : {D : Type 0} → (D → Option Files) → (D → Option (List Call)) → (D → ℕ) → Standing → Result Rebuilt Memory → D → D → List ItemName → List ItemName → Type 0
BuildsOnce contents calls failures old result before after tally tally' =
    (new : Standing) × Rebuilds in_order contents calls failures (record old { kept = empty }) new result before after tally tally'
