-- `for`. After the reference of Liquid 4 (Shopify), "Tags", "Iteration".
use Rattle.std.specs.Prelude.{ℕ, ◌+◌, List, [], ◌∷◌, length, codes}
use Rattle.site_base.specs.Plain.{Plain}
use Rattle.site_base.specs.declared.faults.SiteFault.{SiteFault}
use Rattle.read_record.specs.Queries.{Query, Give, bind}
use Rattle.liquid_grammar.specs.declared.tag.Loop.{Loop}
use Rattle.liquid_grammar.specs.Trees.{Tree}
use Rattle.liquid_values.specs.LoopValues.{for_loop}
use Rattle.liquid_values.specs.Names.{Excerpting}
use Rattle.liquid_values.specs.Places.{Place, in_loop}
use Rattle.liquid_tags.specs.declared.state.State.{State}
use Rattle.liquid_tags.specs.Elements.{loop_elements}
use Rattle.liquid_tags.specs.Nodes.{body_of, else_of}
use Rattle.liquid_eval.specs.declared.signal.Signal.TheVariants.{Next, Break, Continue}
use Rattle.liquid_eval.specs.Reached.{Reached, onward, Enter, enter_part}

-- the place of the turn of an element
abbrev pub turn_place : Place → List ℕ → ℕ → ℕ → Plain → Place
turn_place p x len passed v =
    let loop = for_loop len passed p.around in
    in_loop ((x, v) ∷ (codes "forloop", loop) ∷ p.locals) loop p

-- the turns that follow are taken unless the loop ends in this one
abbrev pub go_on : Reached → Query SiteFault State → Query SiteFault State
go_on r next = elim r.signal [ Next ↦ next | Break ↦ Give r.state | Continue ↦ next ]

-- a turn for each of the elements that are left, behind so many
abbrev pub taking : (ℕ → Plain → State → Query SiteFault Reached) → ℕ → List Plain → State → Query SiteFault State
taking turn passed [] s = Give s
taking turn passed (v ∷ vs) s = bind (turn passed v s) (λ r. go_on r (taking turn (passed + 1) vs r.state))

module _ (enter : Enter) where
  -- the turn of an element, of so many
  abbrev pub turn : Place → List ℕ → Tree → ℕ → ℕ → Plain → State → Query SiteFault Reached
  turn p x body len passed v s = enter p (turn_place p x len passed v) body s

  -- the part without an element stands where there is none
  abbrev pub over : Place → List ℕ → Tree → List Plain → State → Query SiteFault Reached
  over p x parts [] s = enter_part enter p s (else_of parts)
  over p x parts (v ∷ vs) s = bind (taking (turn p x (body_of parts) (length (v ∷ vs))) 0 (v ∷ vs) s) onward

  abbrev pub for_block : Excerpting → Place → Loop → Tree → State → Query SiteFault Reached
  for_block excerpts p l parts s = bind (loop_elements excerpts p s.assigned l) (λ vs. over p l.name parts vs s)
