use Rattle.std.proofs.Common.{◌∙◌, sym}
use Rattle.source_tree.proofs.Holding.{put_refusal-clash, put_refusal-limit}
use Rattle.source_tree.proofs.held.Held.refusal.Goals as goal

pub returns-in-Some : goal.returns-in-Some
returns-in-Some c = sym (put_refusal-limit _ _ _ _ _ _ c.len_besides.ensures c.total_besides.ensures.is (sym c.passed_limit.ensures ∙ c.in-Some.is))

pub returns-in-None : goal.returns-in-None
returns-in-None c = c.clash_refusal.ensures ∙ sym (put_refusal-clash _ _ _ _ _ c.len_besides.ensures c.total_besides.ensures.is (sym c.passed_limit.ensures ∙ c.in-None.is))
