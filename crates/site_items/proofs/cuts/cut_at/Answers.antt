use Rattle.site_items.proofs.Cutting.{cut_parts, cut_shorter}
use Rattle.site_items.proofs.cuts.cut_at.Goals as goal

pub returns-clause-parts : goal.returns-clause-parts
returns-clause-parts c = cut_parts c.args.mark c.args.text.now c.split_once.result c.split_once.ensures.cases c.requires

pub returns-clause-shorter : goal.returns-clause-shorter
returns-clause-shorter c = cut_shorter c.args.mark c.args.text.now c.split_once.result c.split_once.ensures.cases c.requires
