use Rattle.std.proofs.Common.{sym, subst}
use Rattle.site_base.specs.View.{plain}
use Rattle.read_record.specs.Answers.{Finds}
use Rattle.read_record.specs.Queries.{run}
use Rattle.liquid_values.specs.Answers.{in_found}
use Rattle.liquid_values.specs.Operands.{value_member}
use Rattle.liquid_values.specs.Standing.{place_of}
use Rattle.liquid_values.proofs.item_members.value_member.Goals as goal

pub returns-in-Item-clause-gives : goal.returns-in-Item-clause-gives
returns-in-Item-clause-gives g c =
    let view = g.L.Look.view c.args.look.now in let t = g.L.Look.trace c.args.look.now in
    let ex = g.X.Excerpts.excerpts c.args.place.now.levels in let p = place_of c.args.place.now in
    subst (λ v. Finds (run view t (value_member ex p (plain v) c.args.name.now)) (in_found c.item_member.result) (g.L.Look.trace c.item_member.new.look)) (sym c.in-Item.is) c.item_member.ensures.gives
