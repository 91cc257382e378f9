use Rattle.std.proofs.Common.{◌∙◌, ◌+◌, ap, arith, drop, rules, sym}
use Rattle.site_base.specs.Plain.{item, onto, site_item}
use Rattle.site_base.specs.declared.item_name.ItemName.{ItemName}
use Rattle.site_reader.specs.Paginating.{names}
use Rattle.site_reader.proofs.EachLaws.{at_front, none_left}
use Rattle.site_reader.proofs.PageLaws.{onto_item, onto_nothing}
use Rattle.site_reader.proofs.paginator.post_list.Goals as goal

pub loop-name-preserved : goal.loop-name-preserved
loop-name-preserved c =
    let list = c.loop-name.list in
    let at = c.loop-name.name-index in
    let rest = drop (at + 1) c.args.posts.now in
    ap (λ made. onto made (names rest)) c.in_ok-push.ensures.ok
    ∙ onto_item list (names rest) _
    ∙ ap (λ (n : ItemName). onto list (item (site_item n.path n.part) (names rest))) c.in_ok-copy.ensures
    ∙ ap (λ ns. onto list (names ns)) (sym (at_front c.args.posts.now at c.name-item.result (search rules) c.name-item.is))
    ∙ c.loop-name.invariant

pub returns : goal.returns
returns c =
    sym (onto_nothing c.loop-name.list)
    ∙ ap (λ ns. onto c.loop-name.list (names ns)) (sym (none_left c.args.posts.now c.loop-name.name-index (omega (arith, c.loop-name-test.false))))
    ∙ c.loop-name.invariant
