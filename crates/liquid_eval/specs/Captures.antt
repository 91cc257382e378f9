-- The blocks whose text is kept apart: `capture` and `highlight`. After the reference of Liquid 4 (Shopify), "Tags", "Variable", and Jekyll 4's manual, "Tags Filters", "Code snippet highlighting".
use Rattle.std.specs.Prelude.{ℕ, false, List, []}
use Rattle.site_base.specs.Plain.{text}
use Rattle.site_base.specs.declared.faults.SiteFault.{SiteFault}
use Rattle.read_record.specs.Queries.{Query, Give, bind}
use Rattle.liquid_grammar.specs.Trees.{Tree}
use Rattle.liquid_values.specs.Places.{Place, silenced}
use Rattle.liquid_tags.specs.declared.state.State.{State}
use Rattle.liquid_tags.specs.Highlights.{highlighted}
use Rattle.liquid_tags.specs.Nodes.{body_of}
use Rattle.liquid_tags.specs.States.{with_out, assign, written}
use Rattle.liquid_eval.specs.Reached.{Reached, reached, Enter}

module _ (enter : Enter) where
  -- the text of the nodes alone; where a loop ends in them, the text so far
  abbrev pub apart : Place → Tree → State → Query SiteFault Reached
  apart p parts s = enter p (silenced false p) (body_of parts) (with_out [] s)

  abbrev pub capture : Place → List ℕ → State → Tree → Query SiteFault Reached
  capture p x s parts = bind (apart p parts s) (λ r. Give (reached (assign x (text r.state.out) (with_out s.out r.state)) r.signal))

  abbrev pub highlight : Place → List ℕ → State → Tree → Query SiteFault Reached
  highlight p language s parts =
      bind (apart p parts s) (λ r. bind (written p (highlighted language r.state.out) (with_out s.out r.state)) (λ t. Give (reached t r.signal)))
