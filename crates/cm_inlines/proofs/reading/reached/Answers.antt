use Rattle.cm_inlines.proofs.TargetLaws.{behind_bracket}
use Rattle.cm_inlines.proofs.reading.reached.Goals as goal

pub range_from-requires : goal.range_from-requires
range_from-requires c = λ some. behind_bracket c.args.text.now c.args.at c.utf8.text c.requires.bracket
