use Rattle.std.proofs.Common.{sym, ap, subst, ◌∙◌}
use Rattle.text_pool.specs.Texts.{held_ids, HaveOneNumber}
use Rattle.text_pool.proofs.TextLaws.{held_ids-empty, one-empty}
use Rattle.text_pool.proofs.pool.Pool.new.Goals as goal

pub returns-clause-holds : goal.returns-clause-holds
returns-clause-holds c = ap held_ids c.new.ensures ∙ held_ids-empty

pub invariant_of-result : goal.invariant_of-result
invariant_of-result c = (sym (ap held_ids c.new.ensures ∙ held_ids-empty), subst HaveOneNumber (sym c.new.ensures) one-empty)
