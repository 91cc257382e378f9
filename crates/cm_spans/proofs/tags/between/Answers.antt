use Rattle.std.proofs.Common.{refl}
use Rattle.cm_spans.proofs.MissingLaws.{lacks_slice}
use Rattle.cm_spans.proofs.tags.between.Goals as goal

pub next_end-requires : goal.next_end-requires
next_end-requires c = lacks_slice c.args.end.now c.args.text.now _ c.args.missing.now c.in_ok-mark.mark refl c.requires
