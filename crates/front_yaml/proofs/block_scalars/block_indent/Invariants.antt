use Rattle.std.proofs.Common.{◌≡◌, drop}
use Rattle.front_yaml.specs.BlockScalars.{block_indent}
use Rattle.front_yaml.proofs.block_scalars.block_indent.Given as goal

abbrev pub invariant-loop-line : goal.invariant-loop-line
invariant-loop-line l = block_indent (drop l.line-index l.lines) ≡ block_indent l.fn.lines
