use Rattle.std.proofs.Common.{◌≡◌, ◌∙◌, ap, sym, FitsSigned, w64, rules}
use Rattle.std.proofs.lemmas.Int.{to_z-of_z}
use Rattle.std.proofs.lemmas.Result.{err_from_is_err_and}
use Rattle.site_base.specs.Plain.{Plain, no_items, item, onto}
use Rattle.site_base.specs.View.{plain}
use Rattle.jekyll_filters.specs.Groups.{group}
use Rattle.jekyll_filters.proofs.GroupLaws.{next_group, group_refused}
use Rattle.jekyll_filters.proofs.groups.shown_groups.Goals as goal

pub loop-pair-preserved : goal.loop-pair-preserved
loop-pair-preserved c =
    let is = c.loop-pair.list in let p = c.pair-item.result in let size = c.in_ok-size.size in
    let fits : FitsSigned w64 size = search rules in
    let shown : plain c.in_ok-group.field-0 ≡ group p.key (plain p.value) size = simp (to_z-of_z, fits) at c.in_ok-group.ensures in
    sym (next_group is c.push.new.self c.args.groups.now c.loop-pair.pair-index p size c.loop-pair-test.true c.pair-item.is (sym c.in_ok-size.ensures)
    (c.in_ok-push.ensures.ok ∙ ap (λ (v : Plain). onto is (item v no_items)) shown))
    ∙ c.loop-pair.invariant

pub returns-in_err-size : goal.returns-in_err-size
returns-in_err-size c =
    let e = err_from_is_err_and c.from_residual-in_err-size.result c.from_residual-in_err-size.ensures.1 in
    rw (e.1, e.2) (group_refused c.loop-pair.list c.args.groups.now c.loop-pair.pair-index c.pair-item.result _ c.loop-pair-test.true c.pair-item.is (sym c.in_err-size.ensures) c.loop-pair.invariant)
