-- A session in which a build has nothing to do.
use Rattle.std.specs.Prelude.{◌≡◌, ◌+◌, ℕ, [], Option, Some, None, Result, Ok, Err}
use Rattle.out_tree.specs.Belief.{Belief}
use Rattle.site_session.specs.Full.{full}
use Rattle.site_base.specs.declared.errors.Memory.{Memory}
use Rattle.site_session.specs.Session.{full_now, names_now, plan, rendered_now}
use Rattle.site_session.specs.Standing.{Standing}
use Rattle.site_session.specs.declared.build.Rebuilt.{Rebuilt}
use Rattle.site_session.specs.declared.build.Rebuilt.TheVariants as rebuilt
use Rattle.site_session.specs.declared.build.Report.{Report}
use Rattle.site_session.specs.declared.output.Written.{Written}

-- what is believed of an output is that it needs nothing more to be this
pub record NothingPlanned (written : Written) (now : Option Belief) : Type 0 where
  pub belief : Belief
  pub is : now ≡ Some belief
  pub nothing : plan belief written ≡ []

-- the files that are held have no fault, nothing is stale, and the output needs nothing more to be what they stand for
pub record IsSettled (now : Standing) : Type 0 where
  pub written : Written
  pub stands_for : full now.files now.moment now.settings ≡ Ok written
  pub fresh : names_now now ≡ []
  pub output : NothingPlanned written now.belief

-- what a build tells that had nothing to do, and kept so many items
abbrev pub idle_report : ℕ → Report
idle_report reused = record { rendered = 0; reused = reused; written = 0; removed = 0; why = [] }

-- a build has nothing to do, and keeps so many items: what it would find is known, the addresses have its base, and it would keep what is kept
pub record Rests (now : Standing) (reused : ℕ) : Type 0 where
  pub settled : IsSettled now
  pub found : full_now now ≡ Ok (record { written = settled.written; rendered = 0; reused = reused; why = [] })
  pub kept : rendered_now now ≡ now
  pub based : now.base ≡ settled.written.base

-- how many items a build rendered or kept that did all that it planned
abbrev pub items_of : Result Rebuilt Memory → Option ℕ
items_of (Ok (rebuilt.Built report)) = Some (report.rendered + report.reused)
items_of (Ok (rebuilt.Fault fault)) = None
items_of (Ok (rebuilt.Marked paths)) = None
items_of (Ok rebuilt.Unlisted) = None
items_of (Err error) = None
