use Rattle.std.proofs.Common.{ap, ◌∙◌, arith}
use Rattle.std.proofs.lemmas.Result.{IfOk-weaker}
use Rattle.site_base.specs.View.{plain}
use Rattle.filter_base.proofs.ItemLaws.{last_at}
use Rattle.filter_base.proofs.lists.last_of.Goals as goal

pub returns-in-len1-up : goal.returns-in-len1-up
returns-in-len1-up c = IfOk-weaker c.copy.result _ _ (λ v e. ap plain e ∙ last_at c.args.values.now c.value-item.result (omega arith) c.value-item.is) c.copy.ensures
