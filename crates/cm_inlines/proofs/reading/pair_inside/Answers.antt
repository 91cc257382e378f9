use Rattle.std.proofs.Common.{List, ap, drop, ◌+◌, ◌≡◌, ◌∙◌, ℕ}
use Rattle.cm_inlines.specs.Places.{change_each, is_run, places}
use Rattle.cm_inlines.specs.declared.changes.Change.TheVariants.{Freeze}
use Rattle.cm_inlines.proofs.ListLaws.{first_is, inside_shut, inside_starts, inside_value}
use Rattle.cm_inlines.proofs.reading.pair_inside.Goals as goal

pub returns-clause-value : goal.returns-clause-value
returns-clause-value c =
    let f = c.args.found in
    let ns = c.args.nodes.now.items in
    let first = first_is f c.args.delimiters.now ns c.first_behind-first.result c.as_slice.result.now c.requires c.as_slice.ensures.value c.first_behind-first.ensures.value in
    let starts = inside_starts f c.args.delimiters.now ns c.first_behind-first.result c.deref.result.now c.requires c.deref.ensures.value first in
    let frozen : c.change_each.new.nodes.items ≡ change_each Freeze c.in_ok-left.left.items c.pair_runs.new.nodes.items = c.change_each.ensures ∙ ap (λ (ps : List ℕ). change_each Freeze ps c.pair_runs.new.nodes.items) c.as_slice-2.ensures.value in
    inside_value c.args.found.place c.args.nodes.now.items c.pair_runs.new.nodes.items c.change_each.new.nodes.items c.in_ok-left.left.items (c.in_ok-left.ensures (f.place + 1) starts) frozen

pub returns-clause-shut : goal.returns-clause-shut
returns-clause-shut c =
    let f = c.args.found in
    let ns = c.args.nodes.now.items in
    let first = first_is f c.args.delimiters.now ns c.first_behind-first.result c.as_slice.result.now c.requires c.as_slice.ensures.value c.first_behind-first.ensures.value in
    let starts = inside_starts f c.args.delimiters.now ns c.first_behind-first.result c.deref.result.now c.requires c.deref.ensures.value first in
    let frozen : c.change_each.new.nodes.items ≡ change_each Freeze c.in_ok-left.left.items c.pair_runs.new.nodes.items = c.change_each.ensures ∙ ap (λ (ps : List ℕ). change_each Freeze ps c.pair_runs.new.nodes.items) c.as_slice-2.ensures.value in
    inside_shut f.place c.first_behind-first.result ns c.pair_runs.new.nodes.items c.change_each.new.nodes.items c.in_ok-left.left.items c.args.delimiters.now.runs.items c.truncate.new.self.items (places is_run (f.place + 1) (drop (f.place + 1) ns)) (c.in_ok-left.ensures (f.place + 1) starts) frozen c.requires.runs first c.truncate.ensures.items
