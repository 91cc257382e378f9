-- What making an output does.
use Rattle.std.specs.Prelude.{◌≡◌, ◌+◌, ◌-◌, ◌^◌, ◌≤◌, ℕ, min, List, [], Option, Some, Result, Ok, Err, OnErr}
use Rattle.out_tree.specs.Belief.{Belief}
use Rattle.out_tree.specs.declared.step.Call.{Call}
use Rattle.site_base.specs.Places.{Files}
use Rattle.site_base.specs.declared.errors.Memory.{Memory}
use Rattle.site_base.specs.declared.faults.SiteFault.{SiteFault}
use Rattle.site_reader.specs.declared.site_error.SiteError.{SiteError}
use Rattle.site_reader.specs.declared.site_error.SiteError.TheVariants as error
use Rattle.site_session.specs.Replies.{based_by, built_reply, Called, FailedAt}
use Rattle.site_session.specs.Session.{Given, Reply, event_of, build_tree, output_failures, plan}
use Rattle.site_session.specs.Settled.{NothingPlanned}
use Rattle.site_session.specs.Standing.{Standing, Holds, MakesBut, MarksExactly}
use Rattle.site_session.specs.declared.build.Rebuilt.{Rebuilt}
use Rattle.site_session.specs.declared.build.Rebuilt.TheVariants as rebuilt
use Rattle.site_session.specs.declared.build.Report.{Report}
use Rattle.site_session.specs.declared.output.Output.{Output}

-- an output is made what the held files stand for: what was believed of it and what is, the base of its addresses and the output, before and after
pub record Makes {D : Type 0} (contents : D → Option Files) (calls : D → Option (List Call)) (failures : D → ℕ) (output : Output) (result : Result Rebuilt Memory) (was now : Option Belief) (base base' : List ℕ) (before after : D) : Type 0 where
  pub answers : (given : Given) (standing : Standing) (reply : Reply) → standing.belief ≡ was → standing.base ≡ base → Holds (contents before) was given.output → built_reply result ≡ Some reply
      → build_tree given standing output was (event_of reply) ≡ (record standing { belief = now; base = base' }, reply)
  pub based : base' ≡ based_by result base output.written.base
  pub belief : (first : Files) → Holds (contents before) was first → Holds (contents after) now first
  pub made : (first : Files) (failed : List (List ℕ)) → Holds (contents before) was first → FailedAt result failed
      → MakesBut failed output.written (contents before) (contents after) × MarksExactly failed output.written.keep now
  pub unlisted : result ≡ Ok rebuilt.Unlisted → contents after ≡ contents before
  pub no_fault : (fault : SiteFault) → result ≡ Ok (rebuilt.Fault fault) → ⊥
  pub later : failures before ≤ failures after
  pub cause : (reply : Reply) → built_reply result ≡ Some reply → min (failures before + output_failures reply) (2 ^ 64 - 1) ≤ failures after
  pub steady : (report : Report) → result ≡ Ok (rebuilt.Built report) → failures after ≡ failures before
  pub idle : (belief : Belief) → was ≡ Some belief → plan belief output.written ≡ [] → after ≡ before
  pub settled : (report : Report) → result ≡ Ok (rebuilt.Built report) → NothingPlanned output.written now
  pub counts : (report : Report) → result ≡ Ok (rebuilt.Built report) → (report.rendered ≡ output.rendered) × (report.reused ≡ output.reused)
  pub called : (first : Files) → Holds (contents before) was first → Called was first output.written result (calls before) (calls after)
  pub err : OnErr result (contents after ≡ contents before)
  pub short : OnErr result (failures after ≡ failures before)

-- no answer but want of memory
abbrev pub IsShort : Result Rebuilt Memory → Type 0
IsShort (Ok made) = ⊥
IsShort (Err e) = Unit {0}

-- a build makes its output what was found, unless there is a fault or memory was wanting: then the output is the same value
abbrev pub Finishes : {D : Type 0} → (D → Option Files) → (D → Option (List Call)) → (D → ℕ) → Result Output SiteError → Result Rebuilt Memory → Option Belief → Option Belief → (base base' : List ℕ) → D → D → Type 0
Finishes contents calls failures (Ok output) result was now base base' before after = Makes contents calls failures output result was now base base' before after
Finishes contents calls failures (Err (error.Fault fault)) result was now base base' before after = (result ≡ Ok (rebuilt.Fault fault)) × ((now ≡ was) × (base' ≡ base)) × (after ≡ before)
Finishes contents calls failures (Err error.Memory) result was now base base' before after = IsShort result × ((now ≡ was) × (base' ≡ base)) × (after ≡ before)
