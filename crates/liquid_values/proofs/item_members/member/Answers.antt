use Rattle.std.proofs.Common.{◌≡◌, ◌∙◌, ap, sym, subst}
use Rattle.std.specs.Option.{option_map}
use Rattle.site_base.specs.View.{plain}
use Rattle.read_record.specs.Answers.{Finds}
use Rattle.read_record.specs.Queries.{run}
use Rattle.liquid_values.specs.Answers.{found_of, in_found}
use Rattle.liquid_values.specs.Names.{reached}
use Rattle.liquid_values.specs.Operands.{member}
use Rattle.liquid_values.specs.Standing.{place_of}
use Rattle.liquid_values.proofs.LoopLaws.{loop_member}
use Rattle.liquid_values.proofs.item_members.member.Goals as goal

pub returns-in_ok-for_loop_member-in-ForLoop-clause-gives : goal.returns-in_ok-for_loop_member-in-ForLoop-clause-gives
returns-in_ok-for_loop_member-in-ForLoop-clause-gives g c =
    let view = g.L.Look.view c.args.look.now in let t = g.L.Look.trace c.args.look.now in
    let ex = g.X.Excerpts.excerpts c.args.place.now.levels in let p = place_of c.args.place.now in let x = c.args.name.now in
    let is : member ex p (found_of c.args.found) x ≡ reached p (option_map plain c.in_ok-for_loop_member-in-ForLoop.field-0) =
    ap (λ f. member ex p (found_of f) x) c.in-ForLoop.is ∙ loop_member ex p c.in-ForLoop.turn.now x ∙ ap (reached p) (sym c.in_ok-for_loop_member-in-ForLoop.ensures) in
    subst (λ q. Finds (run view t q) (in_found c.reached.result) (g.L.Look.trace c.reached.new.look)) (sym is) c.reached.ensures.gives

pub returns-in_ok-row_loop_member-in-RowLoop-clause-gives : goal.returns-in_ok-row_loop_member-in-RowLoop-clause-gives
returns-in_ok-row_loop_member-in-RowLoop-clause-gives g c =
    let view = g.L.Look.view c.args.look.now in let t = g.L.Look.trace c.args.look.now in
    let ex = g.X.Excerpts.excerpts c.args.place.now.levels in let p = place_of c.args.place.now in let x = c.args.name.now in
    let is : member ex p (found_of c.args.found) x ≡ reached p (option_map plain c.in_ok-row_loop_member-in-RowLoop.field-0) =
    ap (λ f. member ex p (found_of f) x) c.in-RowLoop.is ∙ ap (reached p) (sym c.in_ok-row_loop_member-in-RowLoop.ensures) in
    subst (λ q. Finds (run view t q) (in_found c.reached-in-RowLoop.result) (g.L.Look.trace c.reached-in-RowLoop.new.look)) (sym is) c.reached-in-RowLoop.ensures.gives
