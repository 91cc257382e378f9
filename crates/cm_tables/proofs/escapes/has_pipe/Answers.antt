use Rattle.std.proofs.Common.{◌∙◌, sym}
use Rattle.cm_tables.proofs.EscapeLaws.{no_pipe}
use Rattle.cm_tables.proofs.escapes.has_pipe.Goals as goal

pub returns-clause-same : goal.returns-clause-same
returns-clause-same c = λ none. no_pipe c.args.text.now (rw c.as_bytes.ensures.value at (sym c.contains.ensures.value ∙ none))
