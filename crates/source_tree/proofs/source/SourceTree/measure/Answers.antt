use Rattle.std.proofs.Common.{◌∙◌, ap, length}
use Rattle.source_tree.proofs.source.SourceTree.measure.Goals as goal

pub returns-in-Ok-clause-measures : goal.returns-in-Ok-clause-measures
returns-in-Ok-clause-measures g c = λ files bytes told got. c.len.ensures ∙ (c.in-Ok.bytes.ok.0 ∙ ap length (c.in-Ok.ensures.reads files bytes told got))
