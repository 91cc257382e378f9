use Rattle.std.proofs.Common.{◌∙◌, ◌++◌, ◌+◌, ap, append_assoc, arith, drop, rules, sym}
use Rattle.site_reader.specs.Paginating.{if_listed, listed}
use Rattle.site_reader.proofs.EachLaws.{all_taken, at_front, none_left}
use Rattle.site_reader.proofs.index_page.listed.Goals as goal

pub loop-item-preserved : goal.loop-item-preserved
loop-item-preserved c =
    let at = c.loop-item.item-index in
    let rest = drop (at + 1) c.args.items.now in
    ap (λ ns. ns ++ listed rest) c.in_ok-add_listed.ensures
    ∙ append_assoc c.loop-item.names.items (if_listed c.item-item.result) (listed rest)
    ∙ ap (λ is. c.loop-item.names.items ++ listed is) (sym (at_front c.args.items.now at c.item-item.result (search rules) c.item-item.is))
    ∙ c.loop-item.invariant

pub returns : goal.returns
returns c =
    all_taken c.loop-item.names.items _ (listed c.args.items.now) (ap listed (none_left c.args.items.now c.loop-item.item-index (omega (arith, c.loop-item-test.false)))) c.loop-item.invariant
