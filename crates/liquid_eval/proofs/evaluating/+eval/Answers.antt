use Rattle.std.proofs.Common.{◌≡◌, ◌∙◌, ◌+◌, ℕ, List, ◌∷◌, codes, false, Err, arith, ap, sym, subst, drop, length}
use Rattle.std.proofs.lemmas.Result.{err_from_is_err_and}
use Rattle.site_base.specs.Plain.{Plain}
use Rattle.site_base.specs.View.{plain}
use Rattle.site_base.specs.declared.faults.SiteFault.{SiteFault}
use Rattle.read_record.proofs.CallLaws.{stops_at, stops_bind}
use Rattle.read_record.proofs.QueryLaws.{run_gave}
use Rattle.read_record.specs.Answers.{Stops}
use Rattle.read_record.specs.Queries.{Query, Give, RanTo, bind, run}
use Rattle.liquid_grammar.specs.Trees.{Tree, done}
use Rattle.liquid_values.proofs.PlaceLaws.{settles_runs}
use Rattle.liquid_values.specs.Places.{Place, silenced, in_loop}
use Rattle.liquid_values.specs.Standing.{place_of}
use Rattle.liquid_tags.specs.Answers.{included_of}
use Rattle.liquid_tags.specs.States.{written}
use Rattle.liquid_tags.specs.declared.state.State.{State}
use Rattle.liquid_eval.specs.Answers.{Reaches}
use Rattle.liquid_eval.specs.Firsts.{first_node, behind}
use Rattle.liquid_eval.specs.Includes.{included_place, outward}
use Rattle.liquid_eval.specs.Loops.{taking, turn_place}
use Rattle.liquid_eval.specs.Nodes.{nodes, entering}
use Rattle.liquid_eval.specs.Reached.{Reached, reached, onward}
use Rattle.liquid_eval.specs.TableRows.{cell_place, closing, last_row}
use Rattle.liquid_eval.specs.Works as works
use Rattle.liquid_eval.specs.Works.{turn_of, cell_of, filled, used}
use Rattle.liquid_eval.specs.declared.signal.Signal.{Signal}
use Rattle.liquid_eval.specs.declared.signal.Signal.TheVariants.{Next, Break, Continue}
use Rattle.liquid_eval.specs.declared.work.Work.{Work}
use Rattle.liquid_eval.proofs.ReachLaws.{uses_then, passed, broke, continued, stopped, went_on, went_on_early, left, turn_stops, too_deep, entered_deeper}
use Rattle.liquid_eval.proofs.evaluating.+eval.Goals as goal
use Rattle.liquid_eval.proofs.evaluating.+eval.Goals.{run_cells-in-Next, run_cells-in-Continue, run_turns-in-Next, run_turns-in-Continue}

pub enter-returns-then-place-eq0-clause-gives : goal.enter-returns-then-place-eq0-clause-gives
enter-returns-then-place-eq0-clause-gives g th c =
    let ex = g.X.Excerpts.excerpts in let n = c.args.place.now.levels in let e = entering g.X.Excerpts.excerpts c.args.place.now.levels in let p = place_of c.args.place.now in
    let s = c.args.state.now in let view = g.L.Look.view c.args.look.now in let t = g.L.Look.trace c.args.look.now in
    too_deep ex (place_of c.args.tag.now) p c.args.nodes.now s view t n c.fault.result (omega (arith, c.if-place-eq0.true)) c.fault.ensures

pub enter-returns-clause-gives : goal.enter-returns-clause-gives
enter-returns-clause-gives g th c =
    let ex = g.X.Excerpts.excerpts in let n = c.args.place.now.levels in let e = entering g.X.Excerpts.excerpts c.args.place.now.levels in let p = place_of c.args.place.now in
    let s = c.args.state.now in let view = g.L.Look.view c.args.look.now in let t = g.L.Look.trace c.args.look.now in
    entered_deeper ex (place_of c.args.tag.now) p c.args.nodes.now s view t n c.at_levels-inner.result.levels (place_of c.at_levels-inner.result) c.run_nodes.result c.run_nodes.new.state (g.L.Look.trace c.run_nodes.new.look)
    (omega (arith, c.if-place-eq0.false)) c.at_levels-inner.ensures.levels c.at_levels-inner.ensures.at c.run_nodes.ensures.gives

pub enter_cell-returns-clause-gives : goal.enter_cell-returns-clause-gives
enter_cell-returns-clause-gives g th c =
    let ex = g.X.Excerpts.excerpts in let n = c.args.place.now.levels in let e = entering g.X.Excerpts.excerpts c.args.place.now.levels in let p = place_of c.args.place.now in
    let s = c.args.state.now in let view = g.L.Look.view c.args.look.now in let t = g.L.Look.trace c.args.look.now in
    let cells = c.args.cells.now in let r = c.enter.result in let now = c.enter.new.state in let u = g.L.Look.trace c.enter.new.look in let v = plain c.args.value.now in
    subst (λ (k : ℕ). Reaches (run view t (e p (cell_place p cells.name.now k cells.grid.columns c.args.passed v) cells.body s)) r now u) c.len.ensures
    (subst (λ (x : List ℕ). Reaches (run view t (e p (cell_place p x c.len.result cells.grid.columns c.args.passed v) cells.body s)) r now u) c.as_str.ensures c.enter.ensures.gives)

pub run_turn-returns-clause-gives : goal.run_turn-returns-clause-gives
run_turn-returns-clause-gives g th c =
    let ex = g.X.Excerpts.excerpts in let n = c.args.place.now.levels in let e = entering g.X.Excerpts.excerpts c.args.place.now.levels in let p = place_of c.args.place.now in
    let s = c.args.state.now in let view = g.L.Look.view c.args.look.now in let t = g.L.Look.trace c.args.look.now in
    let turns = c.args.turns.now in let r = c.enter.result in let now = c.enter.new.state in let u = g.L.Look.trace c.enter.new.look in let v = plain c.args.value.now in
    let at : List ℕ → Plain → Place = λ x loop. in_loop ((x, v) ∷ (codes "forloop", loop) ∷ p.locals) loop p in
    subst (λ (k : ℕ). Reaches (run view t (e p (turn_place p turns.name.now k c.args.passed v) turns.body s)) r now u) c.len.ensures
    (subst (λ (x : List ℕ). Reaches (run view t (e p (turn_place p x c.len.result c.args.passed v) turns.body s)) r now u) c.as_str.ensures
    (subst (λ (loop : Plain). Reaches (run view t (e p (at c.as_str.result.now loop) turns.body s)) r now u) c.turn_at-turn.ensures c.enter.ensures.gives))

pub run_apart-returns-in_err-signal-clause-gives : goal.run_apart-returns-in_err-signal-clause-gives
run_apart-returns-in_err-signal-clause-gives g th c =
    let ex = g.X.Excerpts.excerpts in let n = c.args.place.now.levels in let e = entering g.X.Excerpts.excerpts c.args.place.now.levels in let p = place_of c.args.place.now in
    let s = c.args.state.now in let view = g.L.Look.view c.args.look.now in let t = g.L.Look.trace c.args.look.now in
    let a = c.args.apart in let u = g.L.Look.trace c.enter.new.look in let next : Reached → Query SiteFault Reached = λ r. used p a.usage a.before r in let loud = c.silenced-loud.result in
    let stop = c.in_err-signal.field-0.0 in let f = err_from_is_err_and c.from_residual.result c.from_residual.ensures.1 in
    rw (f.1, f.2) (stops_bind view t (e p (silenced false p) a.body s) next stop u
    (subst (λ (q : Place). Stops (run view t (e p q a.body s)) stop u) c.silenced-loud.ensures.at
    (subst (λ (m : ℕ). Stops (run view t (entering ex m p (place_of loud) a.body s)) stop u) c.silenced-loud.ensures.levels c.in_err-signal.ensures.gives)))

pub run_apart-returns-clause-gives : goal.run_apart-returns-clause-gives
run_apart-returns-clause-gives g th c =
    let ex = g.X.Excerpts.excerpts in let n = c.args.place.now.levels in let e = entering g.X.Excerpts.excerpts c.args.place.now.levels in let p = place_of c.args.place.now in
    let s = c.args.state.now in let view = g.L.Look.view c.args.look.now in let t = g.L.Look.trace c.args.look.now in
    let a = c.args.apart in let u = g.L.Look.trace c.enter.new.look in let next : Reached → Query SiteFault Reached = λ r. used p a.usage a.before r in let loud = c.silenced-loud.result in
    let now = reached c.enter.new.state c.in_ok-signal.signal in
    uses_then view t (e p (silenced false p) a.body s) next now u c.use_text.result c.use_text.new.state
    (subst (λ (q : Place). run view t (e p q a.body s) ≡ RanTo now u) c.silenced-loud.ensures.at
    (subst (λ (m : ℕ). run view t (entering ex m p (place_of loud) a.body s) ≡ RanTo now u) c.silenced-loud.ensures.levels c.in_ok-signal.ensures.gives)) c.use_text.ensures

pub run_cell-returns-in_err-signal-clause-gives : goal.run_cell-returns-in_err-signal-clause-gives
run_cell-returns-in_err-signal-clause-gives g th c =
    let ex = g.X.Excerpts.excerpts in let n = c.args.place.now.levels in let e = entering g.X.Excerpts.excerpts c.args.place.now.levels in let p = place_of c.args.place.now in
    let s = c.args.state.now in let view = g.L.Look.view c.args.look.now in let t = g.L.Look.trace c.args.look.now in
    let cells = c.args.cells.now in let len = length cells.grid.elements in let columns = cells.grid.columns in let i = c.args.passed in let v = plain c.args.value.now in let u = g.L.Look.trace c.enter_cell.new.look in
    let begun : State = c.start_cell.new.state in let q : Query SiteFault Reached = e p (cell_place p cells.name.now len columns i v) cells.body begun in
    let give : Reached → State → Query SiteFault Reached = λ r x. Give (reached x r.signal) in
    let next : Reached → Query SiteFault Reached = λ r. bind (written p (closing len columns i r.signal) r.state) (give r) in
    let rest : State → Query SiteFault Reached = λ x. bind (e p (cell_place p cells.name.now len columns i v) cells.body x) next in
    let start : run view t (cell_of e p cells i v s) ≡ run view t (bind q next) = ap (λ (w : Query SiteFault State). run view t (bind w rest)) c.in_ok-start_cell.ensures in
    let stop = c.in_err-signal.field-0.0 in let f = err_from_is_err_and c.from_residual-in_err-signal.result c.from_residual-in_err-signal.ensures.1 in
    rw (f.1, f.2) (stops_at _ _ stop u start (stops_bind view t q next stop u c.in_err-signal.ensures.gives))

pub run_cell-returns-in_err-end_cell-clause-gives : goal.run_cell-returns-in_err-end_cell-clause-gives
run_cell-returns-in_err-end_cell-clause-gives g th c =
    let ex = g.X.Excerpts.excerpts in let n = c.args.place.now.levels in let e = entering g.X.Excerpts.excerpts c.args.place.now.levels in let p = place_of c.args.place.now in
    let s = c.args.state.now in let view = g.L.Look.view c.args.look.now in let t = g.L.Look.trace c.args.look.now in
    let cells = c.args.cells.now in let len = length cells.grid.elements in let columns = cells.grid.columns in let i = c.args.passed in let v = plain c.args.value.now in let u = g.L.Look.trace c.enter_cell.new.look in
    let begun : State = c.start_cell.new.state in let q : Query SiteFault Reached = e p (cell_place p cells.name.now len columns i v) cells.body begun in
    let give : Reached → State → Query SiteFault Reached = λ r x. Give (reached x r.signal) in
    let next : Reached → Query SiteFault Reached = λ r. bind (written p (closing len columns i r.signal) r.state) (give r) in
    let rest : State → Query SiteFault Reached = λ x. bind (e p (cell_place p cells.name.now len columns i v) cells.body x) next in
    let start : run view t (cell_of e p cells i v s) ≡ run view t (bind q next) = ap (λ (w : Query SiteFault State). run view t (bind w rest)) c.in_ok-start_cell.ensures in
    let r : Reached = reached c.enter_cell.new.state c.in_ok-signal.signal in
    let stop = c.in_err-end_cell.field-0.0 in let f = err_from_is_err_and c.from_residual-in_err-end_cell.result c.from_residual-in_err-end_cell.ensures.1 in
    let closes = subst (λ (k : ℕ). Stops (run view u (written p (closing k columns i r.signal) r.state)) stop u) c.len-len.ensures
    (settles_runs view u (written p (closing c.len-len.result columns i r.signal) r.state) (Err stop) c.end_cell.new.state c.in_err-end_cell.ensures) in
    rw (f.1, f.2) (stops_at _ _ stop u (start ∙ run_gave view t q next r u c.in_ok-signal.ensures.gives) (stops_bind view u (written p (closing len columns i r.signal) r.state) (give r) stop u closes))

pub run_cell-returns-clause-gives : goal.run_cell-returns-clause-gives
run_cell-returns-clause-gives g th c =
    let ex = g.X.Excerpts.excerpts in let n = c.args.place.now.levels in let e = entering g.X.Excerpts.excerpts c.args.place.now.levels in let p = place_of c.args.place.now in
    let s = c.args.state.now in let view = g.L.Look.view c.args.look.now in let t = g.L.Look.trace c.args.look.now in
    let cells = c.args.cells.now in let len = length cells.grid.elements in let columns = cells.grid.columns in let i = c.args.passed in let v = plain c.args.value.now in let u = g.L.Look.trace c.enter_cell.new.look in
    let begun : State = c.start_cell.new.state in let q : Query SiteFault Reached = e p (cell_place p cells.name.now len columns i v) cells.body begun in
    let give : Reached → State → Query SiteFault Reached = λ r x. Give (reached x r.signal) in
    let next : Reached → Query SiteFault Reached = λ r. bind (written p (closing len columns i r.signal) r.state) (give r) in
    let rest : State → Query SiteFault Reached = λ x. bind (e p (cell_place p cells.name.now len columns i v) cells.body x) next in
    let start : run view t (cell_of e p cells i v s) ≡ run view t (bind q next) = ap (λ (w : Query SiteFault State). run view t (bind w rest)) c.in_ok-start_cell.ensures in
    let r : Reached = reached c.enter_cell.new.state c.in_ok-signal.signal in
    let closed : written p (closing len columns i r.signal) r.state ≡ Give c.end_cell.new.state =
    subst (λ (k : ℕ). written p (closing k columns i r.signal) r.state ≡ Give c.end_cell.new.state) c.len-len.ensures c.in_ok-end_cell.ensures in
    start ∙ run_gave view t q next r u c.in_ok-signal.ensures.gives ∙ ap (λ (w : Query SiteFault State). run view u (bind w (give r))) closed

pub run_cells-returns-in_err-run_cell-clause-gives : goal.run_cells-returns-in_err-run_cell-clause-gives
run_cells-returns-in_err-run_cell-clause-gives g th c =
    let ex = g.X.Excerpts.excerpts in let n = c.args.place.now.levels in let e = entering g.X.Excerpts.excerpts c.args.place.now.levels in let p = place_of c.args.place.now in
    let s = c.args.state.now in let view = g.L.Look.view c.args.look.now in let t = g.L.Look.trace c.args.look.now in
    let cells = c.args.cells.now in let i = c.loop-passed.passed in let vs = cells.grid.elements in let here = g.L.Look.view c.loop-passed.look in let at = g.L.Look.trace c.loop-passed.look in
    let u = g.L.Look.trace c.run_cell.new.look in let now : State = c.run_cell.new.state in let old : State = c.loop-passed.state in let v = plain c.in_ok-value.value in
    let stop = c.in_err-run_cell.field-0.0 in let f = err_from_is_err_and c.from_residual-in_err-run_cell.result c.from_residual-in_err-run_cell.ensures.1 in
    rw (f.1, f.2) (stops_at _ _ stop u c.loop-passed.invariant.left (turn_stops (cell_of e p cells) here at vs i v c.in_ok-value.ensures old now u stop c.in_err-run_cell.ensures.gives))

pub run_cells-returns-in-Break-clause-gives : goal.run_cells-returns-in-Break-clause-gives
run_cells-returns-in-Break-clause-gives g th c =
    let ex = g.X.Excerpts.excerpts in let n = c.args.place.now.levels in let e = entering g.X.Excerpts.excerpts c.args.place.now.levels in let p = place_of c.args.place.now in
    let s = c.args.state.now in let view = g.L.Look.view c.args.look.now in let t = g.L.Look.trace c.args.look.now in
    let cells = c.args.cells.now in let i = c.loop-passed.passed in let vs = cells.grid.elements in let here = g.L.Look.view c.loop-passed.look in let at = g.L.Look.trace c.loop-passed.look in
    let u = g.L.Look.trace c.run_cell.new.look in let now : State = c.run_cell.new.state in let old : State = c.loop-passed.state in let v = plain c.in_ok-value.value in
    c.loop-passed.invariant.left ∙ left (cell_of e p cells) here at vs i v c.in_ok-value.ensures old now u
    (c.in_ok-run_cell.ensures.gives ∙ ap (λ (signal : Signal). RanTo (reached now signal) u) c.in-Break.is)

pub run_turns-returns-in_err-run_turn-clause-gives : goal.run_turns-returns-in_err-run_turn-clause-gives
run_turns-returns-in_err-run_turn-clause-gives g th c =
    let ex = g.X.Excerpts.excerpts in let n = c.args.place.now.levels in let e = entering g.X.Excerpts.excerpts c.args.place.now.levels in let p = place_of c.args.place.now in
    let s = c.args.state.now in let view = g.L.Look.view c.args.look.now in let t = g.L.Look.trace c.args.look.now in
    let turns = c.args.turns.now in let i = c.loop-passed.passed in let vs = turns.elements in let here = g.L.Look.view c.loop-passed.look in let at = g.L.Look.trace c.loop-passed.look in
    let u = g.L.Look.trace c.run_turn.new.look in let now : State = c.run_turn.new.state in let old : State = c.loop-passed.state in let v = plain c.in_ok-value.value in
    let stop = c.in_err-run_turn.field-0.0 in let f = err_from_is_err_and c.from_residual-in_err-run_turn.result c.from_residual-in_err-run_turn.ensures.1 in
    rw (f.1, f.2) (stops_at _ _ stop u c.loop-passed.invariant.left (turn_stops (turn_of e p turns) here at vs i v c.in_ok-value.ensures old now u stop c.in_err-run_turn.ensures.gives))

pub run_turns-returns-in-Break-clause-gives : goal.run_turns-returns-in-Break-clause-gives
run_turns-returns-in-Break-clause-gives g th c =
    let ex = g.X.Excerpts.excerpts in let n = c.args.place.now.levels in let e = entering g.X.Excerpts.excerpts c.args.place.now.levels in let p = place_of c.args.place.now in
    let s = c.args.state.now in let view = g.L.Look.view c.args.look.now in let t = g.L.Look.trace c.args.look.now in
    let turns = c.args.turns.now in let i = c.loop-passed.passed in let vs = turns.elements in let here = g.L.Look.view c.loop-passed.look in let at = g.L.Look.trace c.loop-passed.look in
    let u = g.L.Look.trace c.run_turn.new.look in let now : State = c.run_turn.new.state in let old : State = c.loop-passed.state in let v = plain c.in_ok-value.value in
    c.loop-passed.invariant.left ∙ left (turn_of e p turns) here at vs i v c.in_ok-value.ensures old now u
    (c.in_ok-run_turn.ensures.gives ∙ ap (λ (signal : Signal). RanTo (reached now signal) u) c.in-Break.is)

pub run_nodes-returns-in-Break-clause-gives : goal.run_nodes-returns-in-Break-clause-gives
run_nodes-returns-in-Break-clause-gives g th c =
    let ex = g.X.Excerpts.excerpts in let n = c.args.place.now.levels in let e = entering g.X.Excerpts.excerpts c.args.place.now.levels in let p = place_of c.args.place.now in
    let s = c.args.state.now in let view = g.L.Look.view c.args.look.now in let t = g.L.Look.trace c.args.look.now in
    let here = g.L.Look.view c.loop-first.look in let at = g.L.Look.trace c.loop-first.look in let u = g.L.Look.trace c.run_first.new.look in
    c.loop-first.invariant.left ∙ broke (ex n) e p here at c.loop-first.rest c.loop-first.state c.run_first.new.state u
    (subst (λ (x : Tree). run here at (first_node (ex n) e p x c.loop-first.state) ≡ RanTo (reached c.run_first.new.state Break) u) (sym c.first-first.ensures) (c.in_ok-run_first.ensures.gives ∙ ap (λ (signal : Signal). RanTo (reached c.run_first.new.state signal) u) c.in-Break.is))

pub run_nodes-returns-in-Continue-clause-gives : goal.run_nodes-returns-in-Continue-clause-gives
run_nodes-returns-in-Continue-clause-gives g th c =
    let ex = g.X.Excerpts.excerpts in let n = c.args.place.now.levels in let e = entering g.X.Excerpts.excerpts c.args.place.now.levels in let p = place_of c.args.place.now in
    let s = c.args.state.now in let view = g.L.Look.view c.args.look.now in let t = g.L.Look.trace c.args.look.now in
    let here = g.L.Look.view c.loop-first.look in let at = g.L.Look.trace c.loop-first.look in let u = g.L.Look.trace c.run_first.new.look in
    c.loop-first.invariant.left ∙ continued (ex n) e p here at c.loop-first.rest c.loop-first.state c.run_first.new.state u
    (subst (λ (x : Tree). run here at (first_node (ex n) e p x c.loop-first.state) ≡ RanTo (reached c.run_first.new.state Continue) u) (sym c.first-first.ensures) (c.in_ok-run_first.ensures.gives ∙ ap (λ (signal : Signal). RanTo (reached c.run_first.new.state signal) u) c.in-Continue.is))

pub run_nodes-returns-in_err-run_first-clause-gives : goal.run_nodes-returns-in_err-run_first-clause-gives
run_nodes-returns-in_err-run_first-clause-gives g th c =
    let ex = g.X.Excerpts.excerpts in let n = c.args.place.now.levels in let e = entering g.X.Excerpts.excerpts c.args.place.now.levels in let p = place_of c.args.place.now in
    let s = c.args.state.now in let view = g.L.Look.view c.args.look.now in let t = g.L.Look.trace c.args.look.now in
    let here = g.L.Look.view c.loop-first.look in let at = g.L.Look.trace c.loop-first.look in let u = g.L.Look.trace c.run_first.new.look in
    let stop = c.in_err-run_first.field-0.0 in let f = err_from_is_err_and c.from_residual.result c.from_residual.ensures.1 in
    rw (f.1, f.2) (stops_at _ _ stop u c.loop-first.invariant.left (stopped (ex n) e p here at c.loop-first.rest c.loop-first.state c.run_first.new.state u stop
    (subst (λ (x : Tree). Stops (run here at (first_node (ex n) e p x c.loop-first.state)) stop u) (sym c.first-first.ensures) c.in_err-run_first.ensures.gives)))

pub run_work-returns-in_ok-run_turns-in-Turns-clause-gives : goal.run_work-returns-in_ok-run_turns-in-Turns-clause-gives
run_work-returns-in_ok-run_turns-in-Turns-clause-gives g th c =
    let ex = g.X.Excerpts.excerpts in let n = c.args.place.now.levels in let e = entering g.X.Excerpts.excerpts c.args.place.now.levels in let p = place_of c.args.place.now in
    let s = c.args.state.now in let view = g.L.Look.view c.args.look.now in let t = g.L.Look.trace c.args.look.now in
    let turns = c.in-Turns.turns in let u = g.L.Look.trace c.run_turns.new.look in
    ap (λ (w : Work). run view t (works.work e p w s)) c.in-Turns.is ∙ run_gave view t (works.turns e p turns s) onward c.run_turns.new.state u c.in_ok-run_turns-in-Turns.ensures.gives

pub run_cells-loop-passed-preserved : goal.run_cells-loop-passed-preserved
run_cells-loop-passed-preserved g th c =
    let ex = g.X.Excerpts.excerpts in let n = c.args.place.now.levels in let e = entering g.X.Excerpts.excerpts c.args.place.now.levels in let p = place_of c.args.place.now in
    let s = c.args.state.now in let view = g.L.Look.view c.args.look.now in let t = g.L.Look.trace c.args.look.now in
    let cells = c.args.cells.now in let i = c.loop-passed.passed in let vs = cells.grid.elements in let here = g.L.Look.view c.loop-passed.look in let at = g.L.Look.trace c.loop-passed.look in
    let u = g.L.Look.trace c.run_cell.new.look in let now : State = c.run_cell.new.state in let old : State = c.loop-passed.state in let v = plain c.in_ok-value.value in
    let turn = cell_of e p cells in let signal_is = λ (signal : Signal). RanTo (reached now signal) u in
    let step : run here at (taking turn i (drop i vs) old) ≡ run here u (taking turn (i + 1) (drop (i + 1) vs) now) =
    elim c.match-branch-3.branch [
      | run_cells-in-Next w ↦ went_on turn here at vs i v c.in_ok-value.ensures old now u (c.in_ok-run_cell.ensures.gives ∙ ap signal_is w.in-Next.is)
      | run_cells-in-Continue w ↦ went_on_early turn here at vs i v c.in_ok-value.ensures old now u (c.in_ok-run_cell.ensures.gives ∙ ap signal_is w.in-Continue.is)
    ] in
    record {
      same = c.in_ok-run_cell.ensures.same ∙ c.loop-passed.invariant.same;
      left = c.loop-passed.invariant.left ∙ step ∙ ap (λ x. run x u (taking turn (i + 1) (drop (i + 1) vs) now)) (sym c.in_ok-run_cell.ensures.same);
    }

pub run_turns-loop-passed-preserved : goal.run_turns-loop-passed-preserved
run_turns-loop-passed-preserved g th c =
    let ex = g.X.Excerpts.excerpts in let n = c.args.place.now.levels in let e = entering g.X.Excerpts.excerpts c.args.place.now.levels in let p = place_of c.args.place.now in
    let s = c.args.state.now in let view = g.L.Look.view c.args.look.now in let t = g.L.Look.trace c.args.look.now in
    let turns = c.args.turns.now in let i = c.loop-passed.passed in let vs = turns.elements in let here = g.L.Look.view c.loop-passed.look in let at = g.L.Look.trace c.loop-passed.look in
    let u = g.L.Look.trace c.run_turn.new.look in let now : State = c.run_turn.new.state in let old : State = c.loop-passed.state in let v = plain c.in_ok-value.value in
    let turn = turn_of e p turns in let signal_is = λ (signal : Signal). RanTo (reached now signal) u in
    let step : run here at (taking turn i (drop i vs) old) ≡ run here u (taking turn (i + 1) (drop (i + 1) vs) now) =
    elim c.match-branch-3.branch [
      | run_turns-in-Next w ↦ went_on turn here at vs i v c.in_ok-value.ensures old now u (c.in_ok-run_turn.ensures.gives ∙ ap signal_is w.in-Next.is)
      | run_turns-in-Continue w ↦ went_on_early turn here at vs i v c.in_ok-value.ensures old now u (c.in_ok-run_turn.ensures.gives ∙ ap signal_is w.in-Continue.is)
    ] in
    record {
      same = c.in_ok-run_turn.ensures.same ∙ c.loop-passed.invariant.same;
      left = c.loop-passed.invariant.left ∙ step ∙ ap (λ x. run x u (taking turn (i + 1) (drop (i + 1) vs) now)) (sym c.in_ok-run_turn.ensures.same);
    }

pub run_nodes-loop-first-preserved : goal.run_nodes-loop-first-preserved
run_nodes-loop-first-preserved g th c =
    let ex = g.X.Excerpts.excerpts in let n = c.args.place.now.levels in let e = entering g.X.Excerpts.excerpts c.args.place.now.levels in let p = place_of c.args.place.now in
    let s = c.args.state.now in let view = g.L.Look.view c.args.look.now in let t = g.L.Look.trace c.args.look.now in
    let here = g.L.Look.view c.loop-first.look in let at = g.L.Look.trace c.loop-first.look in let u = g.L.Look.trace c.run_first.new.look in let now : State = c.run_first.new.state in
    let step = passed (ex n) e p here at c.loop-first.rest c.loop-first.state now u
    (subst (λ (x : Tree). run here at (first_node (ex n) e p x c.loop-first.state) ≡ RanTo (reached now Next) u) (sym c.first-first.ensures)
    (c.in_ok-run_first.ensures.gives ∙ ap (λ (signal : Signal). RanTo (reached now signal) u) c.in-Next.is)) in
    let rest : behind c.loop-first.rest ≡ c.in-Some.nodes = ap behind c.first-first.ensures ∙ sym c.in-Some.ensures.nodes in
    record {
      same = c.in_ok-run_first.ensures.same ∙ c.loop-first.invariant.same;
      left = c.loop-first.invariant.left ∙ step ∙ (λ j. run (sym c.in_ok-run_first.ensures.same j) u (nodes (ex n) e p (rest j) now));
    }

pub run_nodes-returns-in-None-clause-gives : goal.run_nodes-returns-in-None-clause-gives
run_nodes-returns-in-None-clause-gives g th c =
    let ex = g.X.Excerpts.excerpts in let n = c.args.place.now.levels in let e = entering g.X.Excerpts.excerpts c.args.place.now.levels in let p = place_of c.args.place.now in
    let s = c.args.state.now in let view = g.L.Look.view c.args.look.now in let t = g.L.Look.trace c.args.look.now in
    let here = g.L.Look.view c.loop-first.look in let at = g.L.Look.trace c.loop-first.look in let u = g.L.Look.trace c.run_first.new.look in let now : State = c.run_first.new.state in
    let step = passed (ex n) e p here at c.loop-first.rest c.loop-first.state now u
    (subst (λ (x : Tree). run here at (first_node (ex n) e p x c.loop-first.state) ≡ RanTo (reached now Next) u) (sym c.first-first.ensures)
    (c.in_ok-run_first.ensures.gives ∙ ap (λ (signal : Signal). RanTo (reached now signal) u) c.in-Next.is)) in
    let rest : behind c.loop-first.rest ≡ done = ap behind c.first-first.ensures ∙ sym c.in-None.ensures.nodes in
    c.loop-first.invariant.left ∙ step ∙ ap (λ (x : Tree). run here u (nodes (ex n) e p x now)) rest

pub run_table-returns-in_err-run_cells-clause-gives : goal.run_table-returns-in_err-run_cells-clause-gives
run_table-returns-in_err-run_cells-clause-gives g th c =
    let ex = g.X.Excerpts.excerpts in let n = c.args.place.now.levels in let e = entering g.X.Excerpts.excerpts c.args.place.now.levels in let p = place_of c.args.place.now in
    let s = c.args.state.now in let view = g.L.Look.view c.args.look.now in let t = g.L.Look.trace c.args.look.now in
    let cells = c.args.cells.now in let u = g.L.Look.trace c.run_cells.new.look in let begun : State = c.write.new.self in let now : State = c.run_cells.new.state in
    let close : State → Query SiteFault Reached = λ x. bind (written p last_row x) onward in let rest : State → Query SiteFault Reached = λ x. bind (filled e p cells x) close in
    let start : run view t (works.table e p cells s) ≡ run view t (bind (filled e p cells begun) close) = ap (λ (w : Query SiteFault State). run view t (bind w rest)) c.in_ok-write.ensures in
    let stop = c.in_err-run_cells.field-0.0 in let f = err_from_is_err_and c.from_residual-in_err-run_cells.result c.from_residual-in_err-run_cells.ensures.1 in
    rw (f.1, f.2) (stops_at _ _ stop u start (stops_bind view t (filled e p cells begun) close stop u c.in_err-run_cells.ensures.gives))

pub run_table-returns-in_err-write-2-clause-gives : goal.run_table-returns-in_err-write-2-clause-gives
run_table-returns-in_err-write-2-clause-gives g th c =
    let ex = g.X.Excerpts.excerpts in let n = c.args.place.now.levels in let e = entering g.X.Excerpts.excerpts c.args.place.now.levels in let p = place_of c.args.place.now in
    let s = c.args.state.now in let view = g.L.Look.view c.args.look.now in let t = g.L.Look.trace c.args.look.now in
    let cells = c.args.cells.now in let u = g.L.Look.trace c.run_cells.new.look in let begun : State = c.write.new.self in let now : State = c.run_cells.new.state in
    let close : State → Query SiteFault Reached = λ x. bind (written p last_row x) onward in let rest : State → Query SiteFault Reached = λ x. bind (filled e p cells x) close in
    let start : run view t (works.table e p cells s) ≡ run view t (bind (filled e p cells begun) close) = ap (λ (w : Query SiteFault State). run view t (bind w rest)) c.in_ok-write.ensures in
    let stop = c.in_err-write-2.field-0.0 in let f = err_from_is_err_and c.from_residual-in_err-write-2.result c.from_residual-in_err-write-2.ensures.1 in
    let closes = settles_runs view u (written p last_row now) (Err stop) c.write-2.new.self c.in_err-write-2.ensures in
    rw (f.1, f.2) (stops_at _ _ stop u (start ∙ run_gave view t (filled e p cells begun) close now u c.in_ok-run_cells.ensures.gives) (stops_bind view u (written p last_row now) onward stop u closes))

pub run_table-returns-clause-gives : goal.run_table-returns-clause-gives
run_table-returns-clause-gives g th c =
    let ex = g.X.Excerpts.excerpts in let n = c.args.place.now.levels in let e = entering g.X.Excerpts.excerpts c.args.place.now.levels in let p = place_of c.args.place.now in
    let s = c.args.state.now in let view = g.L.Look.view c.args.look.now in let t = g.L.Look.trace c.args.look.now in
    let cells = c.args.cells.now in let u = g.L.Look.trace c.run_cells.new.look in let begun : State = c.write.new.self in let now : State = c.run_cells.new.state in
    let close : State → Query SiteFault Reached = λ x. bind (written p last_row x) onward in let rest : State → Query SiteFault Reached = λ x. bind (filled e p cells x) close in
    let start : run view t (works.table e p cells s) ≡ run view t (bind (filled e p cells begun) close) = ap (λ (w : Query SiteFault State). run view t (bind w rest)) c.in_ok-write.ensures in
    start ∙ run_gave view t (filled e p cells begun) close now u c.in_ok-run_cells.ensures.gives ∙ ap (λ (w : Query SiteFault State). run view u (bind w onward)) c.in_ok-write-2.ensures

pub run_included-returns-clause-gives : goal.run_included-returns-clause-gives
run_included-returns-clause-gives g th c =
    let ex = g.X.Excerpts.excerpts in let n = c.args.place.now.levels in let e = entering g.X.Excerpts.excerpts c.args.place.now.levels in let p = place_of c.args.place.now in
    let s = c.args.state.now in let view = g.L.Look.view c.args.look.now in let t = g.L.Look.trace c.args.look.now in
    let i = included_of c.args.included.now in let u = g.L.Look.trace c.enter_included.new.look in let now : State = c.enter_included.new.state in
    let next : Reached → Query SiteFault Reached = λ r. Give (reached r.state (outward p r.signal)) in
    run_gave view t (e p (included_place p i) i.tree s) next (reached now c.in_ok-signal.signal) u c.in_ok-signal.ensures.gives ∙ ap (λ (signal : Signal). RanTo (reached now signal) u) (sym c.outward.ensures)
