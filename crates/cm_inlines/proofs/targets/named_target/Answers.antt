use Rattle.cm_inlines.proofs.TargetLaws.{cut_kept}
use Rattle.std.proofs.lemmas.Str.{IsCharBoundary-start}
use Rattle.cm_inlines.proofs.targets.named_target.Goals as goal

pub returns-else-is_empty_label-clause-cut : goal.returns-else-is_empty_label-clause-cut
returns-else-is_empty_label-clause-cut c = cut_kept c.defined-else-is_empty_label.result c.args.text.now 0 (IsCharBoundary-start c.args.text.now c.utf8.text) c.defined-else-is_empty_label.ensures.len
