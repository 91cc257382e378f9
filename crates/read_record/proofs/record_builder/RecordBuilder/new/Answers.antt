use Rattle.read_record.proofs.BuilderLaws.{built-none}
use Rattle.read_record.proofs.record_builder.RecordBuilder.new.Goals as goal

pub invariant_of-result : goal.invariant_of-result
invariant_of-result c = built-none c.new-2.result.entries c.new.result.items c.new-2.ensures.empty c.new.ensures.items
