use Rattle.std.proofs.Common.{◌∙◌}
use Rattle.read_record.specs.Keys.{same_key}
use Rattle.read_record.proofs.shared_key.TableKeyPartialEq.eq.Goals as goal

pub returns : goal.returns
returns c = c.eq.ensures ∙ (λ i. same_key (c.key.ensures i) (c.key-2.ensures i))
