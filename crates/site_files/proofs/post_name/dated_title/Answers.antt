use Rattle.std.proofs.Common.{ap, sym, ◌∙◌, rules, FitsSigned, w64}
use Rattle.std.proofs.lemmas.Int.{to_z-of_z}
use Rattle.site_files.specs.PostNames.{with_moment}
use Rattle.site_files.proofs.post_name.dated_title.Goals as goal

pub returns-in-Some-clause-parts : goal.returns-in-Some-clause-parts
returns-in-Some-clause-parts c =
    let found = simp (to_z-of_z, c.ranges.offset) at c.read_moment.ensures.is in
    let fits : FitsSigned w64 c.in-Some.moment = search rules in
    simp (to_z-of_z, fits) (ap (λ m. with_moment m c.args.title.now) (sym c.in-Some.is ∙ found))

pub returns-in-None-clause-parts : goal.returns-in-None-clause-parts
returns-in-None-clause-parts c =
    let found = simp (to_z-of_z, c.ranges.offset) at c.read_moment.ensures.is in
    ap (λ m. with_moment m c.args.title.now) (sym c.in-None.is ∙ found)
