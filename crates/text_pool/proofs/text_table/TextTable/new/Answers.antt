use Rattle.std.proofs.Common.{sym, ap, subst, ◌∙◌}
use Rattle.text_pool.specs.Layout.{as_texts, IsSound}
use Rattle.text_pool.proofs.TableLaws.{sound-empty, texts-empty}
use Rattle.text_pool.proofs.text_table.TextTable.new.Goals as goal

pub invariant_of-result : goal.invariant_of-result
invariant_of-result c = subst (λ es. IsSound es c.new-2.result) (sym c.new.ensures.empty) (sound-empty c.new-2.result c.new-2.ensures.empty)

pub returns : goal.returns
returns c = ap (λ es. as_texts es c.new-2.result) c.new.ensures.empty ∙ texts-empty c.new-2.result
