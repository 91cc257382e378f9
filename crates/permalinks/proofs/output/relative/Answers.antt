use Rattle.std.proofs.Common.{lit<}
use Rattle.std.specs.Prelude.{None}
use Rattle.std.proofs.lemmas.Str.Pattern.{strip_prefix_char}
use Rattle.permalinks.proofs.Fronts.{relative_same}
use Rattle.permalinks.proofs.output.relative.Goals as goal

pub returns-in-None : goal.returns-in-None
returns-in-None c = relative_same c.args.url.now (strip_prefix_char 47 c.args.url.now None c.in-None.ensures.cases (lit< tt))
