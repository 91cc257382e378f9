use Rattle.std.proofs.Common.{List, ap, ◌∙◌, ◌+◌, drop, arith, refl}
use Rattle.std.specs.Prelude.{filter}
use Rattle.site_base.specs.Plain.{Items, onto}
use Rattle.site_reader.specs.declared.site_item.SiteItem.{SiteItem}
use Rattle.site_variables.specs.Choosing.{takes}
use Rattle.site_variables.specs.Lists.{each, named}
use Rattle.site_variables.proofs.Filled.{kept_more, made_end}
use Rattle.site_variables.proofs.lists.chosen.Goals as goal

pub loop-item-preserved : goal.loop-item-preserved
loop-item-preserved c =
    let test = takes c.args.choice c.args.config.now in let xs = c.args.items.now in let i = c.loop-item.item-index in
    ap (λ (is : Items). onto is (each named (filter test (drop (i + 1) xs)))) c.in_ok-push_if.ensures
    ∙ kept_more test c.loop-item.list xs i c.item-item.result c.takes.result c.loop-item-test.true c.item-item.is c.takes.ensures
    ∙ c.loop-item.invariant

pub returns : goal.returns
returns c =
    made_end (λ (xs : List SiteItem). each named (filter (takes c.args.choice c.args.config.now) xs)) c.loop-item.list c.args.items.now c.loop-item.item-index refl (omega arith)
    ∙ c.loop-item.invariant
