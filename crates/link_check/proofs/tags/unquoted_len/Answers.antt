use Rattle.std.proofs.Common.{◌∙◌, ap, true}
use Rattle.std.specs.List.{prefix_len}
use Rattle.site_text.proofs.Runs.{run_cut, run_prefix}
use Rattle.link_check.specs.Tags.{is_unquoted}
use Rattle.link_check.proofs.Runs.{unquoted_beyond}
use Rattle.link_check.proofs.tags.unquoted_len.Goals as goal

pub returns-clause-value : goal.returns-clause-value
returns-clause-value c = c.unquoted_run.ensures ∙ ap (prefix_len is_unquoted) c.as_bytes.ensures.value ∙ run_prefix is_unquoted c.args.text.now

pub returns-clause-cut : goal.returns-clause-cut
returns-clause-cut c = run_cut is_unquoted true c.args.text.now c.unquoted_run.result unquoted_beyond c.utf8.text (c.unquoted_run.ensures ∙ ap (prefix_len is_unquoted) c.as_bytes.ensures.value ∙ run_prefix is_unquoted c.args.text.now)
