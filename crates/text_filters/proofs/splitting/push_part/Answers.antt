use Rattle.std.proofs.Common.{◌≡◌, ◌<◌, ◌∙◌, length, ap, arith}
use Rattle.std.proofs.lemmas.Bool.Decides.{nat_tests}
use Rattle.site_base.specs.Plain.{Items, onto}
use Rattle.text_filters.specs.Splitting.{text_items, without_empty_end}
use Rattle.text_filters.proofs.SplitLaws.{one_waits, part_kept}
use Rattle.text_filters.proofs.splitting.push_part.Goals as goal

pub returns-then-is_empty-clause-parts : goal.returns-then-is_empty-clause-parts
returns-then-is_empty-clause-parts c =
    let none : length c.args.part.now ≡ 0 = grind (arith, nat_tests) in
    λ others. one_waits c.args.list.now c.args.waiting c.args.part.now others none

pub returns-clause-parts : goal.returns-clause-parts
returns-clause-parts c =
    let some : 0 < length c.args.part.now = grind (arith, nat_tests) in
    λ others.
    ap (λ (is : Items). onto is (text_items (without_empty_end others))) c.in_ok-push_behind_empty.ensures
    ∙ part_kept c.args.list.now c.args.waiting c.args.part.now others some
