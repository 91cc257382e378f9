use Rattle.std.proofs.Common.{arith, ◌∙◌}
use Rattle.cm_containers.specs.Spots.{text_at}
use Rattle.cm_blocks.proofs.BreakLaws.{excluded_start}
use Rattle.cm_blocks.proofs.opening.start_at.Goals as goal

pub returns-then-is_excluded : goal.returns-then-is_excluded
returns-then-is_excluded c =
    let t = text_at c.args.line.now c.args.spot in
    c.list_mark.ensures
    ∙ excluded_start c.args.line.now c.as_bytes.result.now c.args.spot.column c.args.white.at t c.range_from-rest.result.now c.range_from-rest.ensures.value c.as_bytes.ensures.value c.requires.white.rest (omega (arith, c.requires.white.column, c.if-indent-lt4.true)) (c.is_excluded.ensures c.if-is_excluded.true)
