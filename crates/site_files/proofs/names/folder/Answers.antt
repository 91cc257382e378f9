use Rattle.std.proofs.Common.{arith}
use Rattle.site_files.proofs.LastMark.{at_last, no_mark}
use Rattle.site_files.proofs.names.folder.Goals as goal

pub returns-in-Some : goal.returns-in-Some
returns-in-Some c = (at_last 47 c.args.path.now c.in-Some.folder.now _ (omega arith) c.in-Some.ensures.cases).before_is

pub returns-in-None : goal.returns-in-None
returns-in-None c = (no_mark 47 c.args.path.now (omega arith) c.in-None.ensures.cases).before_is
