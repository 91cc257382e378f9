use Rattle.std.proofs.Common.{map, option_map, sym, ap, subst}
use Rattle.read_record.specs.KeyLayout.{held_in, LeadsRight}
use Rattle.read_record.proofs.KeyTableLaws.{leads-none}
use Rattle.read_record.proofs.key_table.KeyTable.new.Goals as goal

pub invariant_of-result : goal.invariant_of-result
invariant_of-result c = subst (λ es. LeadsRight es c.new-2.result) (sym c.new.ensures.empty) (leads-none c.new-2.result)

pub returns : goal.returns
returns c = ap (map (option_map held_in)) c.new-2.ensures.empty
