use Rattle.std.proofs.Common.{◌∙◌}
use Rattle.site_text.specs.Classes.{is_in}
use Rattle.site_text.proofs.Runs.{run_prefix, run_stops}
use Rattle.site_text.proofs.classes.class_run.Goals as goal

pub returns-clause-value : goal.returns-clause-value
returns-clause-value c = c.count_at_front.ensures.value ∙ run_prefix (is_in c.args.class) c.args.bytes.now

pub returns-clause-stops : goal.returns-clause-stops
returns-clause-stops c = run_stops (is_in c.args.class) c.args.bytes.now c.count_at_front.result (c.count_at_front.ensures.value ∙ run_prefix (is_in c.args.class) c.args.bytes.now)
