use Rattle.std.proofs.Common.{ap, ap₂, ◌∙◌, take}
use Rattle.std.specs.Prelude.{option_and_then}
use Rattle.std.proofs.lemmas.Int.{to_z-of_z}
use Rattle.site_dates.specs.Moment.{read_moment}
use Rattle.site_files.specs.PostNames.{behind_dash, with_moment}
use Rattle.site_files.proofs.Dated.{no_cut}
use Rattle.site_files.proofs.post_name.dated_name.Goals as goal

pub returns-in-Some-clause-parts : goal.returns-in-Some-clause-parts
returns-in-Some-clause-parts c =
    let made = simp (to_z-of_z, c.ranges.offset) at c.dated_rest.ensures.parts in
    made ∙ ap₂ (λ date rest. option_and_then (with_moment (read_moment date c.args.offset)) (behind_dash rest)) c.in-Some.ensures.front c.in-Some.ensures.back

pub returns-in-None-clause-parts : goal.returns-in-None-clause-parts
returns-in-None-clause-parts c =
    ap (option_and_then (with_moment (read_moment (take 10 c.args.name.now) c.args.offset)))
    (no_cut c.args.name.now 10 (λ at. absurd (cc (c.in-None.ensures.variant.1 at))))
