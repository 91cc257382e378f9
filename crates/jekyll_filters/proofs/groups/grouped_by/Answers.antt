use Rattle.std.proofs.Common.{Some}
use Rattle.site_base.specs.View.{plain}
use Rattle.read_record.proofs.QueryLaws.{run_gave}
use Rattle.filter_base.specs.Answers.{made}
use Rattle.filter_base.specs.Keyed.{Source, keyed}
use Rattle.filter_base.specs.Taken.{source_of}
use Rattle.filter_base.proofs.AnswerLaws.{makes_gives, gives_after}
use Rattle.jekyll_filters.specs.Groups.{grouped, grouped_by}
use Rattle.jekyll_filters.proofs.groups.grouped_by.Goals as goal

pub returns-clause-gives : goal.returns-clause-gives
returns-clause-gives g c =
    let view = g.L.Look.view c.args.look.now in let t = g.L.Look.trace c.args.look.now in let u = g.L.Look.trace c.keyed.new.look in
    let s = source_of c.in_ok-source.source in
    gives_after view t u u (grouped_by c.args.name (plain c.args.input.now)) (made (grouped s)) c.grouped.result
    (run_gave view t (keyed (Some c.args.name) (plain c.args.input.now)) (λ (s : Source). made (grouped s)) s u c.in_ok-source.ensures.gives)
    (makes_gives view u (grouped s) c.grouped.result c.grouped.ensures)
