use Rattle.std.proofs.Common.{◌∙◌}
use Rattle.memo_table.specs.Names.{same_name}
use Rattle.memo_table.proofs.EntryLaws.{equal-names}
use Rattle.memo_table.proofs.name_key.NameKeyPartialEq.eq.Goals as goal

pub returns : goal.returns
returns c = c.eq.ensures ∙ equal-names c.name.result.now c.name-2.result.now ∙ (λ i. same_name (c.name.ensures i) (c.name-2.ensures i))
