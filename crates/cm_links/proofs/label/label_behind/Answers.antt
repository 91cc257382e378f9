use Rattle.cm_links.proofs.Boundaries.{labelled}
use Rattle.cm_links.proofs.label.label_behind.Goals as goal

pub returns-then-is_label-clause-cuts : goal.returns-then-is_label-clause-cuts
returns-then-is_label-clause-cuts c = labelled c.args.text.now _ (rw c.range_from-inside.ensures.value at c.range_from-inside.utf8) c.requires (rw c.range_from-inside.ensures.value at c.in_ok-n.ensures.end)
