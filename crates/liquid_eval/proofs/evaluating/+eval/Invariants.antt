use Rattle.std.proofs.Common.{◌≡◌, ◌+◌, ◌*◌, drop}
use Rattle.read_record.specs.Queries.{run}
use Rattle.liquid_values.specs.Standing.{place_of}
use Rattle.liquid_tags.specs.Nodes.{node_count}
use Rattle.liquid_eval.specs.Loops.{taking}
use Rattle.liquid_eval.specs.Nodes.{nodes, entering}
use Rattle.liquid_eval.specs.Works.{turn_of, turns, cell_of, filled}
use Rattle.liquid_eval.proofs.evaluating.+eval.Given as goal

-- each call of the cycle counts down, and a level is worth ten

abbrev pub decreases-run_nodes : goal.decreases-run_nodes
decreases-run_nodes g l = 10 * l.place.now.levels + 8

abbrev pub decreases-run_first : goal.decreases-run_first
decreases-run_first g l = 10 * l.place.now.levels + 7

abbrev pub decreases-run_leaf : goal.decreases-run_leaf
decreases-run_leaf g l = 10 * l.place.now.levels + 6

abbrev pub decreases-run_block : goal.decreases-run_block
decreases-run_block g l = 10 * l.place.now.levels + 6

abbrev pub decreases-run_work : goal.decreases-run_work
decreases-run_work g l = 10 * l.place.now.levels + 5

abbrev pub decreases-run_table : goal.decreases-run_table
decreases-run_table g l = 10 * l.place.now.levels + 4

abbrev pub decreases-run_cells : goal.decreases-run_cells
decreases-run_cells g l = 10 * l.place.now.levels + 3

abbrev pub decreases-run_cell : goal.decreases-run_cell
decreases-run_cell g l = 10 * l.place.now.levels + 2

abbrev pub decreases-enter_cell : goal.decreases-enter_cell
decreases-enter_cell g l = 10 * l.place.now.levels + 1

abbrev pub decreases-run_turns : goal.decreases-run_turns
decreases-run_turns g l = 10 * l.place.now.levels + 2

abbrev pub decreases-run_turn : goal.decreases-run_turn
decreases-run_turn g l = 10 * l.place.now.levels + 1

abbrev pub decreases-run_apart : goal.decreases-run_apart
decreases-run_apart g l = 10 * l.place.now.levels + 1

abbrev pub decreases-run_included : goal.decreases-run_included
decreases-run_included g l = 10 * l.place.now.levels + 2

abbrev pub decreases-enter_included : goal.decreases-enter_included
decreases-enter_included g l = 10 * l.place.now.levels + 1

abbrev pub decreases-enter : goal.decreases-enter
decreases-enter g l = 10 * l.place.now.levels + 0

abbrev pub invariant-run_nodes-loop-first : goal.invariant-run_nodes-loop-first
invariant-run_nodes-loop-first g l =
    let ex = g.X.Excerpts.excerpts in let n = l.place.levels in let p = place_of l.place in
    record {
      same : g.L.Look.view l.look ≡ g.L.Look.view l.fn.look;
      left : run (g.L.Look.view l.fn.look) (g.L.Look.trace l.fn.look) (nodes (ex n) (entering ex n) p l.nodes l.fn.state)
          ≡ run (g.L.Look.view l.look) (g.L.Look.trace l.look) (nodes (ex n) (entering ex n) p l.rest l.state);
    }

abbrev pub decreases-run_nodes-loop-first : goal.decreases-run_nodes-loop-first
decreases-run_nodes-loop-first g l = node_count l.rest

abbrev pub invariant-run_turns-loop-passed : goal.invariant-run_turns-loop-passed
invariant-run_turns-loop-passed g l =
    let e = entering g.X.Excerpts.excerpts l.place.levels in let p = place_of l.place in
    record {
      same : g.L.Look.view l.look ≡ g.L.Look.view l.fn.look;
      left : run (g.L.Look.view l.fn.look) (g.L.Look.trace l.fn.look) (turns e p l.turns l.fn.state)
          ≡ run (g.L.Look.view l.look) (g.L.Look.trace l.look) (taking (turn_of e p l.turns) l.passed (drop l.passed l.turns.elements) l.state);
    }

abbrev pub invariant-run_cells-loop-passed : goal.invariant-run_cells-loop-passed
invariant-run_cells-loop-passed g l =
    let e = entering g.X.Excerpts.excerpts l.place.levels in let p = place_of l.place in
    record {
      same : g.L.Look.view l.look ≡ g.L.Look.view l.fn.look;
      left : run (g.L.Look.view l.fn.look) (g.L.Look.trace l.fn.look) (filled e p l.cells l.fn.state)
          ≡ run (g.L.Look.view l.look) (g.L.Look.trace l.look) (taking (cell_of e p l.cells) l.passed (drop l.passed l.cells.grid.elements) l.state);
    }
