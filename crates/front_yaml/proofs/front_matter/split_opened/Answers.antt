use Rattle.std.proofs.Common.{ap, sym, ◌∙◌}
use Rattle.site_base.proofs.LinesLaws.{no_lines}
use Rattle.front_yaml.proofs.FrontLemmas.{open_at}
use Rattle.front_yaml.proofs.front_matter.split_opened.Goals as goal

pub returns-clause-front : goal.returns-clause-front
returns-clause-front c =
    let at = c.loop-at.at in
    sym (ap (open_at c.args.start at) (no_lines c.args.bytes.now at c.loop-at-test.false)) ∙ c.loop-at.invariant.rest
