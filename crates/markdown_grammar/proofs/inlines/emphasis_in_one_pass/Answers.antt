use Rattle.markdown_grammar.proofs.Pairing.{is_step, pairs_end}
use Rattle.markdown_grammar.proofs.inlines.emphasis_in_one_pass.Goals as goal

pub returns-clause-step : goal.returns-clause-step
returns-clause-step c = is_step

pub returns-clause-end : goal.returns-clause-end
returns-clause-end c = pairs_end
