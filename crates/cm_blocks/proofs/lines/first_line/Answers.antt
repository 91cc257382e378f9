use Rattle.cm_blocks.proofs.LineLaws.{cut_is}
use Rattle.cm_blocks.proofs.lines.first_line.Goals as goal

pub returns : goal.returns
returns c = cut_is c.args.text.now c.as_bytes.result.now c.inside_len-inside.result c.end_len-end.result c.utf8.text c.as_bytes.ensures.value c.inside_len-inside.ensures.value c.inside_len-inside.ensures.cut c.end_len-end.ensures
