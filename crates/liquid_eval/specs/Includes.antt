-- The texts of includes. After Jekyll 4's manual, "Includes".
use Rattle.std.specs.Prelude.{ℕ, List, ◌∷◌, codes, if◌then◌else◌, Option, Some, None}
use Rattle.site_base.specs.Plain.{Plain}
use Rattle.site_base.specs.declared.faults.SiteFault.{SiteFault}
use Rattle.read_record.specs.Queries.{Query, Give, bind}
use Rattle.liquid_grammar.specs.declared.tag.Include.{Include as IncludeTag}
use Rattle.liquid_values.specs.Names.{Excerpting}
use Rattle.liquid_values.specs.Places.{Place, in_include}
use Rattle.liquid_tags.specs.declared.state.State.{State}
use Rattle.liquid_tags.specs.Includes as includes
use Rattle.liquid_eval.specs.declared.signal.Signal.{Signal}
use Rattle.liquid_eval.specs.declared.signal.Signal.TheVariants.{Next}
use Rattle.liquid_eval.specs.Reached.{Reached, reached, Enter}

-- `include` is what it was where the tag has no parameters
abbrev pub include_locals : Option Plain → List (List ℕ × Plain) → List (List ℕ × Plain)
include_locals None locals = locals
include_locals (Some v) locals = (codes "include", v) ∷ locals

-- outside of loops, `break` and `continue` end the include's text alone
abbrev pub outward : Place → Signal → Signal
outward p signal = if p.looping then signal else Next

abbrev pub included_place : Place → includes.Included → Place
included_place p i = in_include i.file (include_locals i.given p.locals) p

module _ (enter : Enter) where
  abbrev pub entered : Place → State → includes.Included → Query SiteFault Reached
  entered p s i = bind (enter p (included_place p i) i.tree s) (λ r. Give (reached r.state (outward p r.signal)))

  abbrev pub include : Excerpting → Place → IncludeTag → State → Query SiteFault Reached
  include excerpts p i s = bind (includes.include excerpts p s.assigned i) (λ found. entered p s found)

  abbrev pub include_relative : Excerpting → Place → IncludeTag → State → Query SiteFault Reached
  include_relative excerpts p i s = bind (includes.include_relative excerpts p s.assigned i) (λ found. entered p s found)
