use Rattle.std.proofs.Common.{◌∙◌, List, ℕ, ap, sym}
use Rattle.site_base.specs.Plain.{text}
use Rattle.site_base.specs.View.{plain}
use Rattle.serde_json.specs.Data.{Data}
use Rattle.serde_json.specs.View.{view}
use Rattle.serde_json.specs.Written.{compact_text}
use Rattle.read_record.specs.Queries.{Give, RanTo}
use Rattle.read_record.proofs.QueryLaws.{run_gave}
use Rattle.jekyll_filters.specs.JsonTexts.{data_of}
use Rattle.jekyll_filters.proofs.json_texts.json_text.Goals as goal

pub returns-clause-gives : goal.returns-clause-gives
returns-clause-gives g c =
    run_gave (g.L.Look.view c.args.look.now) (g.L.Look.trace c.args.look.now) (data_of (plain c.args.input.now)) (λ (d : Data). Give (text (compact_text d))) (view c.in_ok-json.json) (g.L.Look.trace c.data_of.new.look) c.in_ok-json.ensures.gives
    ∙ ap (λ (t : List ℕ). RanTo (text t) (g.L.Look.trace c.data_of.new.look)) (sym c.in_ok-compact_text.ensures)
