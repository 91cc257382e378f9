use Rattle.std.proofs.Common.{◌≡◌}
use Rattle.text_pool.specs.Texts.{held_ids}
use Rattle.round_tests.proofs.pool.use_one_number.Given as goal

abbrev pub invariant-loop-text : goal.invariant-loop-text
invariant-loop-text l = held_ids l.pool ≡ 0
