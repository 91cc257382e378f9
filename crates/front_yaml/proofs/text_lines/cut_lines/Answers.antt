use Rattle.front_yaml.proofs.LineLaws.{lines_done}
use Rattle.front_yaml.proofs.text_lines.cut_lines.Goals as goal

pub returns : goal.returns
returns c = lines_done c.loop-at.lines.items _ c.loop-at.number c.loop-at.at c.args.text.now c.loop-at-test.false c.loop-at.invariant.told
