use Rattle.cm_spans.proofs.MissingLaws.{lacks_none}
use Rattle.cm_spans.proofs.missing_ends.MissingEnds.new.Goals as goal

pub returns : goal.returns
returns c = λ t. lacks_none c.new.result t (c.new.ensures t)
