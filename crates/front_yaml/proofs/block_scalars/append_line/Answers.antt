use Rattle.std.proofs.Common.{arith}
use Rattle.front_yaml.proofs.LineLaws.{line_added}
use Rattle.front_yaml.proofs.block_scalars.append_line.Goals as goal

pub returns-then-column-indent : goal.returns-then-column-indent
returns-then-column-indent c = line_added c.args.out.now.items _ _ c.args.line.now.text _ _ c.args.column c.in_ok-append_repeated.ensures c.in_ok-append.ensures c.indent-then-column-indent.ensures.value c.inside.ensures (omega (arith, c.if-column-indent.true, c.indent.ensures.value, c.indent-then-column-indent.ensures.value))
