use Rattle.std.proofs.Common.{List, ℕ, Option, refl, subst}
use Rattle.site_base.specs.View.{plain}
use Rattle.read_record.specs.Queries.{bind}
use Rattle.filter_base.specs.Answers.{Gives, made}
use Rattle.filter_base.specs.Taken.{source_of}
use Rattle.filter_base.proofs.AnswerLaws.{gives_made}
use Rattle.list_filters.specs.Sortings.{ordered, sort_source}
use Rattle.list_filters.proofs.sortings.sort.Goals as goal

pub returns-clause-gives : goal.returns-clause-gives
returns-clause-gives g c =
    let view = g.L.Look.view c.args.look.now in let t = g.L.Look.trace c.args.look.now in let s = g.L.Look.trace c.sort_source.new.look in
    let v = plain c.args.input.now in let nils = c.args.nils in let found = source_of c.in_ok-source.source in
    subst (λ (name : Option (List ℕ)). Gives view t (bind (sort_source name v) (λ x. made (ordered nils x))) c.ordered.result s) c.in_ok-name.ensures
    (gives_made view t s (sort_source c.in_ok-name.name v) (λ x. made (ordered nils x)) found (ordered nils found) c.ordered.result c.in_ok-source.ensures.gives refl c.ordered.ensures)
