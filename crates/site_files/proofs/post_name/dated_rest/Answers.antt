use Rattle.std.proofs.Common.{◌≡◌, ◌∷◌, Some, None, ap, sym, ◌∙◌, arith}
use Rattle.std.specs.Prelude.{option_and_then}
use Rattle.std.proofs.lemmas.Int.{to_z-of_z}
use Rattle.std.proofs.lemmas.Str.Pattern.{strip_prefix_char}
use Rattle.site_dates.specs.Moment.{read_moment}
use Rattle.site_files.specs.PostNames.{behind_dash, with_moment}
use Rattle.site_files.proofs.Dated.{no_dash}
use Rattle.site_files.proofs.post_name.dated_rest.Goals as goal

pub returns-in-Some-clause-parts : goal.returns-in-Some-clause-parts
returns-in-Some-clause-parts c =
    let is : c.args.rest.now ≡ 45 ∷ c.in-Some.title.now = strip_prefix_char 45 c.args.rest.now (Some c.in-Some.title) c.in-Some.ensures.cases (omega arith) in
    let made = simp (to_z-of_z, c.ranges.offset) at c.dated_title.ensures.parts in
    made ∙ sym (ap (λ s. option_and_then (with_moment (read_moment c.args.date.now c.args.offset)) (behind_dash s)) is)

pub returns-in-None-clause-parts : goal.returns-in-None-clause-parts
returns-in-None-clause-parts c =
    ap (option_and_then (with_moment (read_moment c.args.date.now c.args.offset)))
    (no_dash c.args.rest.now (strip_prefix_char 45 c.args.rest.now None c.in-None.ensures.cases (omega arith)))
