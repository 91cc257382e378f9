use Rattle.std.proofs.Common.{arith}
use Rattle.site_files.proofs.LastMark.{at_last, no_mark}
use Rattle.site_files.proofs.Stems.{stem_of_all, stem_of_front, stem_of_none}
use Rattle.site_files.proofs.names.stem.Goals as goal

pub returns-then-is_empty-clause-stem : goal.returns-then-is_empty-clause-stem
returns-then-is_empty-clause-stem c =
    stem_of_all c.args.name.now c.in-Some.before.now (at_last 46 c.args.name.now c.in-Some.before.now _ (omega arith) c.in-Some.ensures.cases).before_is c.is_empty.ensures c.if-is_empty.true

pub returns-else-is_empty-clause-stem : goal.returns-else-is_empty-clause-stem
returns-else-is_empty-clause-stem c =
    stem_of_front c.args.name.now c.in-Some.before.now (at_last 46 c.args.name.now c.in-Some.before.now _ (omega arith) c.in-Some.ensures.cases).before_is c.is_empty.ensures c.if-is_empty.false

pub returns-in-None-clause-stem : goal.returns-in-None-clause-stem
returns-in-None-clause-stem c = stem_of_none c.args.name.now (no_mark 46 c.args.name.now (omega arith) c.in-None.ensures.cases).before_is
