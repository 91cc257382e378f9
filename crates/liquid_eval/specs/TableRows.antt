-- `tablerow`. After the reference of Liquid 4 (Shopify), "Tags", "Iteration".
use Rattle.std.specs.Prelude.{ℕ, ◌+◌, ◌==◌, ◌&&◌, not, List, ◌∷◌, ◌++◌, length, codes, if◌then◌else◌, Option, Some, None}
use Rattle.std.specs.Fmt.{decimal}
use Rattle.site_base.specs.Plain.{Plain}
use Rattle.site_base.specs.declared.faults.SiteFault.{SiteFault}
use Rattle.read_record.specs.Queries.{Query, Give, bind}
use Rattle.liquid_grammar.specs.declared.tag.Loop.{Loop}
use Rattle.liquid_grammar.specs.Trees.{Tree}
use Rattle.liquid_values.specs.LoopValues.{row_of, column_of, ends_row, row_loop}
use Rattle.liquid_values.specs.Names.{Excerpting}
use Rattle.liquid_values.specs.Places.{Place, in_loop}
use Rattle.liquid_tags.specs.declared.state.State.{State}
use Rattle.liquid_tags.specs.declared.tables.Grid.{Grid}
use Rattle.liquid_tags.specs.Nodes.{body_of}
use Rattle.liquid_tags.specs.States.{written}
use Rattle.liquid_tags.specs.Tables.{table}
use Rattle.liquid_eval.specs.declared.signal.Signal.{Signal}
use Rattle.liquid_eval.specs.declared.signal.Signal.TheVariants.{Next, Break, Continue}
use Rattle.liquid_eval.specs.Loops.{taking}
use Rattle.liquid_eval.specs.Reached.{Reached, reached, onward, Enter}

abbrev pub first_row : List ℕ
first_row = codes "<tr class=\"row1\">\n"

abbrev pub last_row : List ℕ
last_row = codes "</tr>\n"

abbrev pub cell_start : ℕ → List ℕ
cell_start n = codes "<td class=\"col" ++ (decimal n ++ codes "\">")

-- the end of a cell and of its row, and the start of the next
abbrev pub next_row : ℕ → List ℕ
next_row n = codes "</td></tr>\n<tr class=\"row" ++ (decimal n ++ codes "\">")

-- behind a cell: the next row where this one is full and more elements follow
abbrev pub cell_end : ℕ → ℕ → ℕ → List ℕ
cell_end len columns passed = if ends_row columns passed && not (passed + 1 == len) then next_row (row_of columns passed + 2) else codes "</td>"

abbrev pub cell_place : Place → List ℕ → ℕ → ℕ → ℕ → Plain → Place
cell_place p x len columns passed v = in_loop ((x, v) ∷ (codes "tablerowloop", row_loop len columns passed) ∷ p.locals) p.around p

-- a cell in which the loop ends is closed alone
abbrev pub closing : ℕ → ℕ → ℕ → Signal → List ℕ
closing len columns passed Next = cell_end len columns passed
closing len columns passed Break = codes "</td>"
closing len columns passed Continue = cell_end len columns passed

module _ (enter : Enter) where
  -- the cell of an element, of so many
  abbrev pub cell : Place → List ℕ → Tree → ℕ → ℕ → ℕ → Plain → State → Query SiteFault Reached
  cell p x body len columns passed v s =
      bind (written p (cell_start (column_of columns passed + 1)) s) (λ t.
      bind (enter p (cell_place p x len columns passed v) body t) (λ r.
      bind (written p (closing len columns passed r.signal) r.state) (λ u. Give (reached u r.signal))))

  abbrev pub rows : Place → List ℕ → Tree → Grid → State → Query SiteFault Reached
  rows p x parts t s =
      bind (written p first_row s) (λ begun.
      bind (taking (cell p x (body_of parts) (length t.elements) t.columns) 0 t.elements begun) (λ filled.
      bind (written p last_row filled) onward))

  -- nil writes nothing
  abbrev pub rows_if : Place → List ℕ → Tree → State → Option Grid → Query SiteFault Reached
  rows_if p x parts s None = onward s
  rows_if p x parts s (Some t) = rows p x parts t s

  abbrev pub table_block : Excerpting → Place → Loop → Tree → State → Query SiteFault Reached
  table_block excerpts p l parts s = bind (table excerpts p s.assigned l) (λ t. rows_if p l.name parts s t)
