use Rattle.site_text.specs.Classes.{is_in}
use Rattle.site_text.proofs.Ascii.{beyond, beyond_ascii}
use Rattle.site_text.proofs.Runs.{run_cut}
use Rattle.site_text.proofs.classes.class_len.Goals as goal

pub returns-clause-cut : goal.returns-clause-cut
returns-clause-cut c =
    run_cut (is_in c.args.class) (beyond c.args.class) c.args.text.now c.class_run.result (beyond_ascii c.args.class) c.utf8.text (rw c.as_bytes.ensures.value at c.class_run.ensures.value)
