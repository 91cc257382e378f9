use Rattle.std.proofs.Common.{rules, ◌≡◌, ◌≤◌, ◌<◌, ◌∙◌, ap, sym, length, ℕ, List}
use Rattle.round_core.specs.States.{State, knowing}
use Rattle.round_core.proofs.Listing.{one-element, known-there, known-first, with-list, on-ok}
use Rattle.round_core.proofs.state.Core.add_known.Goals as goal

pub returns-then-worker : goal.returns-then-worker
returns-then-worker g c =
    let s = c.args.self.now in
    let inside = c.loop-place.self-inside in
    let state : State g.row.M.Denot = record { claims = inside.claims.items; cells = inside.cells.items; known = inside.known.items } in
    let same : state ≡ s = ap (λ x. record { claims = x.claims.items; cells = x.cells.items; known = x.known.items }) c.loop-place.invariant.same ∙ c.self.view_is in
    let room : c.loop-place.place < length inside.known.items = search rules in
    let mine : c.index_mut.result.now.0 ≡ c.args.worker =
    ap (λ (p : ℕ × List ℕ). p.0) (one-element inside.known.items c.loop-place.place c.index_mut.result.now c.index.result.now room c.index_mut.ensures.value c.index.ensures) ∙ sym c.worker.ensures ∙ c.if-worker.true in
    on-ok c.add.result
    (λ e. with-list state c.args.worker c.args.item _ (known-there state c.args.worker c.args.item c.loop-place.place c.loop-place.invariant.so_far c.index_mut.result.now c.add.new.self room c.index_mut.ensures.value mine e) ∙ ap (knowing c.args.worker c.args.item) same)
    c.add.ensures

pub returns : goal.returns
returns g c =
    let s = c.args.self.now in
    let inside = c.loop-place.self-inside in
    let state : State g.row.M.Denot = record { claims = inside.claims.items; cells = inside.cells.items; known = inside.known.items } in
    let same : state ≡ s = ap (λ x. record { claims = x.claims.items; cells = x.cells.items; known = x.known.items }) c.loop-place.invariant.same ∙ c.self.view_is in
    let none : length inside.known.items ≤ c.loop-place.place = search rules in
    with-list state c.args.worker c.args.item _ (known-first state c.args.worker c.args.item c.loop-place.place c.loop-place.invariant.so_far c.in_ok-known.known c.push.new.self.items none c.in_ok-known.ensures c.in_ok-push.ensures.items) ∙ ap (knowing c.args.worker c.args.item) same
