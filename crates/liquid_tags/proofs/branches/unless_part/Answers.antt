use Rattle.std.proofs.Common.{◌∙◌, ap, subst}
use Rattle.read_record.specs.Answers.{Finds}
use Rattle.read_record.specs.Queries.{RanTo, run}
use Rattle.liquid_values.specs.Standing.{place_of}
use Rattle.liquid_tags.specs.Branches.{if_part}
use Rattle.liquid_tags.proofs.BranchLaws.{unless_taken, unless_passed}
use Rattle.liquid_tags.proofs.branches.unless_part.Goals as goal

pub returns-then-is_taken-clause-gives : goal.returns-then-is_taken-clause-gives
returns-then-is_taken-clause-gives g c =
    let s = g.L.Look.trace c.fails_test.new.look in
    unless_taken g.X.Excerpts.excerpts c.at_line-inside.result.levels c.args.place.now.levels c.args.assigned.now (place_of c.args.place.now) (place_of c.at_line-inside.result)
    c.args.parts.now c.in-Part.line c.in-Part.part.now c.in-Part.body c.in-Part.behind c.in-Part.ensures c.at_line-inside.ensures.at c.at_line-inside.ensures.levels
    (g.L.Look.view c.args.look.now) (g.L.Look.trace c.args.look.now) s (c.in_ok-is_taken-in-Part.ensures.gives ∙ ap (λ b. RanTo b s) c.if-is_taken.true)

pub returns-else-is_taken-clause-gives : goal.returns-else-is_taken-clause-gives
returns-else-is_taken-clause-gives g c =
    let view = g.L.Look.view c.args.look.now in let s = g.L.Look.trace c.fails_test.new.look in let z = g.L.Look.trace c.if_part.new.look in
    let p = place_of c.args.place.now in let vars = c.args.assigned.now in
    unless_passed g.X.Excerpts.excerpts c.at_line-inside.result.levels c.args.place.now.levels vars p (place_of c.at_line-inside.result)
    c.args.parts.now c.in-Part.line c.in-Part.part.now c.in-Part.body c.in-Part.behind c.in-Part.ensures c.at_line-inside.ensures.at c.at_line-inside.ensures.levels
    view (g.L.Look.trace c.args.look.now) s c.if_part.result z (c.in_ok-is_taken-in-Part.ensures.gives ∙ ap (λ b. RanTo b s) c.if-is_taken.false)
    (subst (λ v. Finds (run v s (if_part (g.X.Excerpts.excerpts c.args.place.now.levels) p vars c.in-Part.behind)) c.if_part.result z) c.in_ok-is_taken-in-Part.ensures.same c.if_part.ensures.gives)
