use Rattle.cm_print.proofs.Escapes.{code_is}
use Rattle.cm_print.proofs.writer.Writer.push_code.Goals as goal

pub returns : goal.returns
returns c = rw code_is at c.push_escaped.ensures
