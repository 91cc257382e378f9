-- What is found in the files of a site: a value, or the site's first fault.
use Rattle.std.specs.Prelude.{◌≡◌, ℕ, List, [], ◌∷◌, Result, Ok, Err}
use Rattle.site_base.specs.Chains.{◌>>=◌}
use Rattle.site_base.specs.declared.faults.SiteFault.{SiteFault}
use Rattle.site_items.specs.Outcomes.{Outcome}
use Rattle.site_items.specs.declared.item_error.ItemError.{ItemError}
use Rattle.site_items.specs.declared.item_error.ItemError.TheVariants as item_error
use Rattle.site_reader.specs.declared.site_error.SiteError.{SiteError}
use Rattle.site_reader.specs.declared.site_error.SiteError.TheVariants as site_error

abbrev pub Found : Type 0 → Type 0
Found A = Result A SiteFault

-- what is found in one file, whose path names its fault
abbrev pub in_file : {A : Type 0} → List ℕ → Outcome A → Found A
in_file path (Ok x) = Ok x
in_file path (Err f) = Err (record { path = path; line = f.0; kind = f.1 })

-- what the files make one after another, up to the first fault
unfoldable pub each : {F S : Type 0} → (F → S → Found S) → List F → S → Found S
each step [] made = Ok made
each step (file ∷ files) made = step file made >>= each step files

-- the error of a file, by its path, unless memory ran out
abbrev pub Tells : List ℕ → ItemError → SiteError → Type 0
Tells path error site_error.Memory = Unit {0}
Tells path item_error.Memory (site_error.Fault f) = ⊥
Tells path (item_error.Fault e) (site_error.Fault f) = f ≡ record { path = path; line = e.line; kind = e.kind }

-- the fault that there is, unless memory ran out
abbrev pub IsFirst : {A : Type 0} → Found A → SiteError → Type 0
IsFirst found site_error.Memory = Unit {0}
IsFirst found (site_error.Fault f) = found ≡ Err f
