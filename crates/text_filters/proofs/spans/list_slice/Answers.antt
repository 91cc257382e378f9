use Rattle.std.proofs.Common.{ap, arith}
use Rattle.site_base.specs.Plain.{count}
use Rattle.site_base.proofs.ValueLaws.{count_length}
use Rattle.text_filters.proofs.spans.list_slice.Goals as goal

pub part-requires : goal.part-requires
part-requires c = omega (arith, count_length c.as_slice.result.now, ap count c.as_slice.ensures, c.len.ensures, c.in-Some.ensures.within)
