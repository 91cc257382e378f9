use Rattle.std.specs.Prelude.{codes}
use Rattle.site_program.specs.declared.status.Status.TheVariants.{Done}
use Rattle.site_program.proofs.Checking.{cut_said}
use Rattle.site_program.proofs.check.tell_clean.Goals as goal

pub returns-in-Err-clause-took : goal.returns-in-Err-clause-took
returns-in-Err-clause-took g c = λ before w.
    let p = c.in-Err.ensures.taken.part before w in
    cut_said (codes "clean\n") Done before _ p.0 p.1
