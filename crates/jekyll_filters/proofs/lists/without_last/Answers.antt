use Rattle.std.proofs.Common.{◌∙◌}
use Rattle.std.proofs.lemmas.Result.{IfOk-weaker}
use Rattle.jekyll_filters.proofs.SentenceLaws.{last_dropped}
use Rattle.jekyll_filters.proofs.lists.without_last.Goals as goal

pub returns-in-len1-up : goal.returns-in-len1-up
returns-in-len1-up c = IfOk-weaker c.list_of.result _ _ (λ v e. e ∙ last_dropped c.args.values.now) c.list_of.ensures
