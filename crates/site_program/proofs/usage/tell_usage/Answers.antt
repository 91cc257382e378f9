use Rattle.std.proofs.Common.{◌∙◌, ◌++◌, ap, take, Some}
use Rattle.site_program.specs.Usage.{usage_line}
use Rattle.site_program.specs.declared.status.Status.TheVariants.{Usage}
use Rattle.site_program.proofs.Checking.{cut_said}
use Rattle.site_program.proofs.usage.tell_usage.Goals as goal

pub returns-clause-took : goal.returns-clause-took
returns-clause-took g c = λ before w.
    let p = c.in-Err.ensures.taken.part before w in
    cut_said (usage_line c.args.kind) (Usage c.args.kind) before _ p.0 (p.1 ∙ ap (λ b. Some (before ++ take p.0 b)) (c.as_bytes.ensures.value ∙ c.in-Ok.ensures))
