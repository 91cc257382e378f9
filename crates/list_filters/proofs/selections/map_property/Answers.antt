use Rattle.std.proofs.Common.{List, ℕ, ap, sym, ◌∙◌}
use Rattle.site_base.specs.Plain.{list}
use Rattle.site_base.specs.View.{plain}
use Rattle.read_record.specs.Queries.{Give, bind, run}
use Rattle.read_record.proofs.QueryLaws.{run_gave}
use Rattle.list_filters.specs.Selections.{mapped}
use Rattle.list_filters.proofs.selections.map_property.Goals as goal

pub returns-clause-gives : goal.returns-clause-gives
returns-clause-gives g c =
    let view = g.L.Look.view c.args.look.now in let t = g.L.Look.trace c.args.look.now in let v = plain c.args.input.now in
    ap (λ (name : List ℕ). run view t (bind (mapped name v) (λ ps. Give (list ps)))) (sym (c.as_str.ensures ∙ c.in_ok-name.ensures))
    ∙ run_gave view t (mapped c.as_str.result.now v) (λ ps. Give (list ps)) c.in_ok-mapped.field-0 (g.L.Look.trace c.mapped.new.look) c.in_ok-mapped.ensures.gives
