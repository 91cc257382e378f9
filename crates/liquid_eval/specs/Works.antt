-- What is left of a tag once it was begun: nodes to enter, and what is done with what they leave.
use Rattle.std.specs.Prelude.{ℕ, false, List, [], ◌∷◌, length, Option, Some, None}
use Rattle.std.specs.Borrow.{Bor}
use Rattle.site_base.specs.Plain.{Plain, text}
use Rattle.site_base.specs.declared.faults.SiteFault.{SiteFault}
use Rattle.read_record.specs.Queries.{Query, Give, bind}
use Rattle.liquid_grammar.specs.Trees.{Tree}
use Rattle.liquid_values.specs.Places.{Place, silenced}
use Rattle.liquid_tags.specs.Answers.{included_of}
use Rattle.liquid_tags.specs.Highlights.{highlighted}
use Rattle.liquid_tags.specs.Nodes.{body_of, else_of}
use Rattle.liquid_tags.specs.States.{with_out, assign, written}
use Rattle.liquid_tags.specs.declared.state.State.{State}
use Rattle.liquid_tags.specs.declared.tables.Grid.{Grid}
use Rattle.liquid_eval.specs.declared.signal.Signal.TheVariants.{Next}
use Rattle.liquid_eval.specs.declared.work.Apart.{Apart}
use Rattle.liquid_eval.specs.declared.work.Cells.{Cells}
use Rattle.liquid_eval.specs.declared.work.Turns.{Turns}
use Rattle.liquid_eval.specs.declared.work.Use.{Use}
use Rattle.liquid_eval.specs.declared.work.Use.TheVariants as for_use
use Rattle.liquid_eval.specs.declared.work.Work.{Work}
use Rattle.liquid_eval.specs.declared.work.Work.TheVariants as left
use Rattle.liquid_eval.specs.Includes.{entered}
use Rattle.liquid_eval.specs.Loops.{taking, turn}
use Rattle.liquid_eval.specs.Reached.{Reached, reached, onward, Enter}
use Rattle.liquid_eval.specs.TableRows.{cell, first_row, last_row}

-- the nodes of a part; there are none where there is no such part
abbrev pub inside : Option Tree → Work
inside (Some nodes) = left.Inside nodes
inside None = left.Ended Next

-- the part without an element stands where there is none
abbrev pub over : Bor (List ℕ) → Tree → List Plain → Work
over x parts [] = inside (else_of parts)
over x parts (v ∷ vs) = left.Turns (record { name = x; body = body_of parts; elements = v ∷ vs })

-- nil makes no table
abbrev pub rows : Bor (List ℕ) → Tree → Option Grid → Work
rows x parts None = left.Ended Next
rows x parts (Some grid) = left.Cells (record { name = x; body = body_of parts; grid = grid })

abbrev pub kept_apart : Use → Tree → List ℕ → Work
kept_apart usage parts before = left.Apart (record { body = body_of parts; before = before; usage = usage })

-- what becomes of a text that was kept apart; the text before it goes on
abbrev pub used : Place → Use → List ℕ → Reached → Query SiteFault Reached
used p (for_use.Variable x) before r = Give (reached (assign x.now (text r.state.out) (with_out before r.state)) r.signal)
used p (for_use.Code language) before r =
    bind (written p (highlighted language.now r.state.out) (with_out before r.state)) (λ t. Give (reached t r.signal))

module _ (enter : Enter) where
  -- the turn of an element of a loop that was begun
  abbrev pub turn_of : Place → Turns → ℕ → Plain → State → Query SiteFault Reached
  turn_of p t passed v s = turn enter p t.name.now t.body (length t.elements) passed v s

  abbrev pub turns : Place → Turns → State → Query SiteFault State
  turns p t s = taking (turn_of p t) 0 t.elements s

  abbrev pub cell_of : Place → Cells → ℕ → Plain → State → Query SiteFault Reached
  cell_of p c passed v s = cell enter p c.name.now c.body (length c.grid.elements) c.grid.columns passed v s

  abbrev pub filled : Place → Cells → State → Query SiteFault State
  filled p c s = taking (cell_of p c) 0 c.grid.elements s

  -- the first row is opened, and the last is closed
  abbrev pub table : Place → Cells → State → Query SiteFault Reached
  table p c s = bind (written p first_row s) (λ begun. bind (filled p c begun) (λ t. bind (written p last_row t) onward))

  abbrev pub apart : Place → Apart → State → Query SiteFault Reached
  apart p a s = bind (enter p (silenced false p) a.body s) (λ r. used p a.usage a.before r)

  abbrev pub work : Place → Work → State → Query SiteFault Reached
  work p (left.Ended signal) s = Give (reached s signal)
  work p (left.Inside nodes) s = enter p p nodes s
  work p (left.Turns t) s = bind (turns p t s) onward
  work p (left.Cells c) s = table p c s
  work p (left.Apart a) s = apart p a s
  work p (left.Included i) s = entered enter p s (included_of i)
