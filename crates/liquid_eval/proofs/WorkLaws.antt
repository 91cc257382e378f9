-- What is left of a tag, and what the beginning of one leads to.
use Rattle.std.proofs.Common.{◌≡◌, ◌∙◌, refl, List, ℕ, [], ◌∷◌, Option, Some, None}
use Rattle.std.specs.Borrow.{Bor}
use Rattle.site_base.specs.Plain.{Plain}
use Rattle.read_record.proofs.CallLaws.{stops_at, stops_bind, stops_then, finds_then}
use Rattle.read_record.proofs.QueryLaws.{run_gave, run_failed, run_waits}
use Rattle.read_record.specs.Answers.{Stops}
use Rattle.read_record.specs.Queries.{Query, View, Trace, Ran, RanTo, bind, run}
use Rattle.read_record.specs.declared.stop.Stop.{Stop}
use Rattle.site_base.specs.declared.faults.SiteFault.{SiteFault}
use Rattle.liquid_grammar.specs.Trees.{Tree}
use Rattle.liquid_values.proofs.PlaceLaws.{settles_runs}
use Rattle.liquid_values.specs.Places.{Place}
use Rattle.liquid_tags.specs.Nodes.{else_of}
use Rattle.liquid_tags.specs.declared.state.State.{State}
use Rattle.liquid_eval.specs.Loops as loops
use Rattle.liquid_eval.specs.Reached.{Reached, reached, onward, Enter, enter_part}
use Rattle.liquid_eval.specs.TableRows.{rows_if}
use Rattle.liquid_tags.specs.declared.tables.Grid.{Grid}
use Rattle.liquid_eval.specs.declared.signal.Signal.TheVariants.{Next}
use Rattle.liquid_eval.specs.Works.{inside, over, rows, work}

module _ (enter : Enter) (p : Place) where
  pub inside_is : (s : State) (t : Option Tree) → work enter p (inside t) s ≡ enter_part enter p s t
  inside_is s (Some t) = refl
  inside_is s None = refl

  pub over_is : (x : Bor (List ℕ)) (parts : Tree) (vs : List Plain) (s : State) → work enter p (over x parts vs) s ≡ loops.over enter p x.now parts vs s
  over_is x parts [] s = inside_is s (else_of parts)
  over_is x parts (v ∷ vs) s = refl

  pub rows_are : (x : Bor (List ℕ)) (parts : Tree) (grid : Option Grid) (s : State) → work enter p (rows x parts grid) s ≡ rows_if enter p x.now parts s grid
  rows_are x parts None s = refl
  rows_are x parts (Some grid) s = refl

-- a tag that is done, whose text is the whole of what it does
module _ (view : View) (t : Trace) (q : Query SiteFault State) (whole : Ran SiteFault Reached) (is : whole ≡ run view t (bind q onward)) where
  pub done_by : (s : State) (u : Trace) → run view t q ≡ RanTo s u → whole ≡ RanTo (reached s Next) u
  done_by s u h = is ∙ run_gave view t q onward s u h

  pub stopped_by : (e : Stop SiteFault) (u : Trace) → Stops (run view t q) e u → Stops whole e u
  stopped_by e u h = stops_at whole (run view t (bind q onward)) e u is (stops_bind view t q onward e u h)

pub ruleset leads = (run_gave, run_failed, run_waits, stops_bind, stops_then, finds_then, settles_runs)
