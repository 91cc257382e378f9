use Rattle.std.proofs.Common.{◌∙◌, ap, sym, List, ℕ}
use Rattle.std.proofs.lemmas.Result.{err_from_is_err_and}
use Rattle.site_base.specs.declared.faults.SiteFault.{SiteFault}
use Rattle.liquid_grammar.specs.declared.expression.Expr.{Expr}
use Rattle.liquid_grammar.specs.declared.item.Leaf.{Leaf}
use Rattle.liquid_grammar.specs.declared.tag.Assign.{Assign}
use Rattle.liquid_grammar.specs.declared.tag.Cycle.{Cycle}
use Rattle.liquid_grammar.specs.declared.tag.Include.{Include}
use Rattle.liquid_grammar.specs.declared.tag.NamePart.{NamePart}
use Rattle.read_record.proofs.QueryLaws.{run_gave}
use Rattle.read_record.specs.Queries.{Query, bind, run}
use Rattle.liquid_values.specs.Standing.{place_of}
use Rattle.liquid_tags.specs.Answers.{included_of}
use Rattle.liquid_tags.specs.Includes as includes
use Rattle.liquid_tags.specs.Links.{link, post_url}
use Rattle.liquid_tags.specs.Variables.{output, assigned, cycle}
use Rattle.liquid_eval.specs.Includes.{entered}
use Rattle.liquid_eval.specs.Nodes.{leaf_node, entering}
use Rattle.liquid_eval.specs.Reached.{Reached, onward}
use Rattle.liquid_eval.proofs.WorkLaws.{done_by, stopped_by}
use Rattle.liquid_eval.proofs.starting.start_leaf.Goals as goal

pub returns-in_err-output-in-Output-clause-gives : goal.returns-in_err-output-in-Output-clause-gives
returns-in_err-output-in-Output-clause-gives g c =
    let ex = g.X.Excerpts.excerpts c.args.place.now.levels in let enter = entering g.X.Excerpts.excerpts c.args.place.now.levels in let p = place_of c.args.place.now in
    let s = c.args.state.now in let view = g.L.Look.view c.args.look.now in let t = g.L.Look.trace c.args.look.now in
    let whole = run view t (leaf_node ex enter p c.args.leaf.now s) in let is_leaf = ap (λ (l : Leaf). run view t (leaf_node ex enter p l s)) c.in-Output.is in
    let stop = c.in_err-output-in-Output.field-0.0 in let e = err_from_is_err_and c.from_residual-in_err-output-in-Output.result c.from_residual-in_err-output-in-Output.ensures.1 in
    rw (e.1, e.2) (stopped_by view t (output ex p c.get.result.now s) whole (is_leaf ∙ ap (λ (x : Expr). run view t (bind (output ex p x s) onward)) (sym c.get.ensures)) stop (g.L.Look.trace c.output.new.look) c.in_err-output-in-Output.ensures.gives)

pub returns-in_ok-output-in-Output-clause-gives : goal.returns-in_ok-output-in-Output-clause-gives
returns-in_ok-output-in-Output-clause-gives g c =
    let ex = g.X.Excerpts.excerpts c.args.place.now.levels in let enter = entering g.X.Excerpts.excerpts c.args.place.now.levels in let p = place_of c.args.place.now in
    let s = c.args.state.now in let view = g.L.Look.view c.args.look.now in let t = g.L.Look.trace c.args.look.now in
    let whole = run view t (leaf_node ex enter p c.args.leaf.now s) in let is_leaf = ap (λ (l : Leaf). run view t (leaf_node ex enter p l s)) c.in-Output.is in
    done_by view t (output ex p c.get.result.now s) whole (is_leaf ∙ ap (λ (x : Expr). run view t (bind (output ex p x s) onward)) (sym c.get.ensures)) c.output.new.state (g.L.Look.trace c.output.new.look) c.in_ok-output-in-Output.ensures.gives

pub returns-in_err-assign-in-Assign-clause-gives : goal.returns-in_err-assign-in-Assign-clause-gives
returns-in_err-assign-in-Assign-clause-gives g c =
    let ex = g.X.Excerpts.excerpts c.args.place.now.levels in let enter = entering g.X.Excerpts.excerpts c.args.place.now.levels in let p = place_of c.args.place.now in
    let s = c.args.state.now in let view = g.L.Look.view c.args.look.now in let t = g.L.Look.trace c.args.look.now in
    let whole = run view t (leaf_node ex enter p c.args.leaf.now s) in let is_leaf = ap (λ (l : Leaf). run view t (leaf_node ex enter p l s)) c.in-Assign.is in
    let stop = c.in_err-assign-in-Assign.field-0.0 in let e = err_from_is_err_and c.from_residual-in_err-assign-in-Assign.result c.from_residual-in_err-assign-in-Assign.ensures.1 in
    rw (e.1, e.2) (stopped_by view t (assigned ex p c.get-in-Assign.result.now s) whole (is_leaf ∙ ap (λ (x : Assign). run view t (bind (assigned ex p x s) onward)) (sym c.get-in-Assign.ensures)) stop (g.L.Look.trace c.assign.new.look) c.in_err-assign-in-Assign.ensures.gives)

pub returns-in_ok-assign-in-Assign-clause-gives : goal.returns-in_ok-assign-in-Assign-clause-gives
returns-in_ok-assign-in-Assign-clause-gives g c =
    let ex = g.X.Excerpts.excerpts c.args.place.now.levels in let enter = entering g.X.Excerpts.excerpts c.args.place.now.levels in let p = place_of c.args.place.now in
    let s = c.args.state.now in let view = g.L.Look.view c.args.look.now in let t = g.L.Look.trace c.args.look.now in
    let whole = run view t (leaf_node ex enter p c.args.leaf.now s) in let is_leaf = ap (λ (l : Leaf). run view t (leaf_node ex enter p l s)) c.in-Assign.is in
    done_by view t (assigned ex p c.get-in-Assign.result.now s) whole (is_leaf ∙ ap (λ (x : Assign). run view t (bind (assigned ex p x s) onward)) (sym c.get-in-Assign.ensures)) c.assign.new.state (g.L.Look.trace c.assign.new.look) c.in_ok-assign-in-Assign.ensures.gives

pub returns-in_ok-cycle-in-Cycle-clause-gives : goal.returns-in_ok-cycle-in-Cycle-clause-gives
returns-in_ok-cycle-in-Cycle-clause-gives g c =
    let ex = g.X.Excerpts.excerpts c.args.place.now.levels in let enter = entering g.X.Excerpts.excerpts c.args.place.now.levels in let p = place_of c.args.place.now in
    let s = c.args.state.now in let view = g.L.Look.view c.args.look.now in let t = g.L.Look.trace c.args.look.now in
    let whole = run view t (leaf_node ex enter p c.args.leaf.now s) in let is_leaf = ap (λ (l : Leaf). run view t (leaf_node ex enter p l s)) c.in-Cycle.is in
    let is_text = ap (λ (x : List ℕ). run view t (bind (cycle ex p x c.in-Cycle.tag s) onward)) (sym c.get-text.ensures) in
    let is_tag = ap (λ (x : Cycle). run view t (bind (cycle ex p c.get-text.result.now x s) onward)) (sym c.get-tag.ensures) in
    done_by view t (cycle ex p c.get-text.result.now c.get-tag.result.now s) whole (is_leaf ∙ is_text ∙ is_tag) c.cycle.new.state (g.L.Look.trace c.cycle.new.look) c.in_ok-cycle-in-Cycle.ensures.gives

pub returns-in_ok-found-in-Include-clause-gives : goal.returns-in_ok-found-in-Include-clause-gives
returns-in_ok-found-in-Include-clause-gives g c =
    let ex = g.X.Excerpts.excerpts c.args.place.now.levels in let enter = entering g.X.Excerpts.excerpts c.args.place.now.levels in let p = place_of c.args.place.now in
    let s = c.args.state.now in let view = g.L.Look.view c.args.look.now in let t = g.L.Look.trace c.args.look.now in
    let next : includes.Included → Query SiteFault Reached = λ i. entered enter p s i in
    ap (λ (l : Leaf). run view t (leaf_node ex enter p l s)) c.in-Include.is ∙ ap (λ (x : Include). run view t (bind (includes.include ex p s.assigned x) next)) (sym c.get-in-Include.ensures)
    ∙ run_gave view t (includes.include ex p s.assigned c.get-in-Include.result.now) next (included_of c.in_ok-found-in-Include.found) (g.L.Look.trace c.include.new.look) c.in_ok-found-in-Include.ensures.gives

pub returns-in_ok-found-in-IncludeRelative-clause-gives : goal.returns-in_ok-found-in-IncludeRelative-clause-gives
returns-in_ok-found-in-IncludeRelative-clause-gives g c =
    let ex = g.X.Excerpts.excerpts c.args.place.now.levels in let enter = entering g.X.Excerpts.excerpts c.args.place.now.levels in let p = place_of c.args.place.now in
    let s = c.args.state.now in let view = g.L.Look.view c.args.look.now in let t = g.L.Look.trace c.args.look.now in
    let next : includes.Included → Query SiteFault Reached = λ i. entered enter p s i in
    ap (λ (l : Leaf). run view t (leaf_node ex enter p l s)) c.in-IncludeRelative.is ∙ ap (λ (x : Include). run view t (bind (includes.include_relative ex p s.assigned x) next)) (sym c.get-in-IncludeRelative.ensures)
    ∙ run_gave view t (includes.include_relative ex p s.assigned c.get-in-IncludeRelative.result.now) next (included_of c.in_ok-found-in-IncludeRelative.found) (g.L.Look.trace c.include_relative.new.look) c.in_ok-found-in-IncludeRelative.ensures.gives

pub returns-in_ok-link-in-Link-clause-gives : goal.returns-in_ok-link-in-Link-clause-gives
returns-in_ok-link-in-Link-clause-gives g c =
    let ex = g.X.Excerpts.excerpts c.args.place.now.levels in let enter = entering g.X.Excerpts.excerpts c.args.place.now.levels in let p = place_of c.args.place.now in
    let s = c.args.state.now in let view = g.L.Look.view c.args.look.now in let t = g.L.Look.trace c.args.look.now in
    let whole = run view t (leaf_node ex enter p c.args.leaf.now s) in let is_leaf = ap (λ (l : Leaf). run view t (leaf_node ex enter p l s)) c.in-Link.is in
    done_by view t (link ex p c.as_slice.result.now s) whole (is_leaf ∙ ap (λ (x : List NamePart). run view t (bind (link ex p x s) onward)) (sym c.as_slice.ensures)) c.link.new.state (g.L.Look.trace c.link.new.look) c.in_ok-link-in-Link.ensures.gives

pub returns-in_ok-post_url-in-PostUrl-clause-gives : goal.returns-in_ok-post_url-in-PostUrl-clause-gives
returns-in_ok-post_url-in-PostUrl-clause-gives g c =
    let ex = g.X.Excerpts.excerpts c.args.place.now.levels in let enter = entering g.X.Excerpts.excerpts c.args.place.now.levels in let p = place_of c.args.place.now in
    let s = c.args.state.now in let view = g.L.Look.view c.args.look.now in let t = g.L.Look.trace c.args.look.now in
    let whole = run view t (leaf_node ex enter p c.args.leaf.now s) in let is_leaf = ap (λ (l : Leaf). run view t (leaf_node ex enter p l s)) c.in-PostUrl.is in
    done_by view t (post_url ex p c.as_slice-in-PostUrl.result.now s) whole (is_leaf ∙ ap (λ (x : List NamePart). run view t (bind (post_url ex p x s) onward)) (sym c.as_slice-in-PostUrl.ensures)) c.post_url.new.state (g.L.Look.trace c.post_url.new.look) c.in_ok-post_url-in-PostUrl.ensures.gives
