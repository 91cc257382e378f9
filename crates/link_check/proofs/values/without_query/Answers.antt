use Rattle.std.proofs.Common.{◌∙◌, ap, take, ℕ}
use Rattle.site_text.proofs.Runs.{run_prefix}
use Rattle.link_check.specs.Targets.{is_of_path}
use Rattle.link_check.proofs.values.without_query.Goals as goal

pub returns : goal.returns
returns c = ap (λ (n : ℕ). take n c.args.value.now) (c.path_len.ensures.value ∙ run_prefix is_of_path c.args.value.now)
