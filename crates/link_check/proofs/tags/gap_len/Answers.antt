use Rattle.std.proofs.Common.{◌∙◌, ap, false}
use Rattle.std.specs.List.{prefix_len}
use Rattle.site_text.proofs.Runs.{run_cut, run_prefix}
use Rattle.link_check.specs.Tags.{is_gap}
use Rattle.link_check.proofs.Runs.{gap_beyond}
use Rattle.link_check.proofs.tags.gap_len.Goals as goal

pub returns-clause-value : goal.returns-clause-value
returns-clause-value c = c.gap_run.ensures ∙ ap (prefix_len is_gap) c.as_bytes.ensures.value ∙ run_prefix is_gap c.args.text.now

pub returns-clause-cut : goal.returns-clause-cut
returns-clause-cut c = run_cut is_gap false c.args.text.now c.gap_run.result gap_beyond c.utf8.text (c.gap_run.ensures ∙ ap (prefix_len is_gap) c.as_bytes.ensures.value ∙ run_prefix is_gap c.args.text.now)
