use Rattle.std.proofs.Common.{◌∙◌}
use Rattle.markdown_grammar.specs.Lines.{trim_front}
use Rattle.cm_containers.specs.Spots.{text_at}
use Rattle.cm_containers.proofs.Filling.{kept_quote}
use Rattle.cm_containers.proofs.matching.enter.Goals as goal

pub returns-in-Quote-clause-rest : goal.returns-in-Quote-clause-rest
returns-in-Quote-clause-rest c =
    let t = text_at c.args.line.now c.args.spot in
    rw c.in-Quote.is (c.enter_quote.ensures.rest ∙ kept_quote c.args.is_filled c.args.spot.column t (trim_front t))
