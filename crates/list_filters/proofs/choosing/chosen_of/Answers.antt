use Rattle.std.proofs.Common.{List, ap, ◌∙◌, ◌+◌, drop, map, arith, refl}
use Rattle.site_base.specs.Plain.{Items, onto}
use Rattle.filter_base.specs.Taken.{entry_of}
use Rattle.filter_base.specs.declared.keyed.Entry.{Entry}
use Rattle.filter_base.proofs.ItemLaws.{made_end}
use Rattle.list_filters.specs.Choosing.{chosen}
use Rattle.list_filters.specs.Tests.{passes}
use Rattle.list_filters.proofs.SelectionLaws.{chosen_more}
use Rattle.list_filters.proofs.choosing.chosen_of.Goals as goal

pub loop-entry-preserved : goal.loop-entry-preserved
loop-entry-preserved c =
    let test = passes c.args.test.now in let es = c.args.entries.now in let i = c.loop-entry.entry-index in
    ap (λ (is : Items). onto is (chosen test (map entry_of (drop (i + 1) es)))) c.in_ok-push_if.ensures
    ∙ chosen_more entry_of test c.loop-entry.list es i c.entry-item.result c.in_ok-passes.passes c.loop-entry-test.true c.entry-item.is c.in_ok-passes.ensures
    ∙ c.loop-entry.invariant

pub returns : goal.returns
returns c =
    made_end (λ (es : List Entry). chosen (passes c.args.test.now) (map entry_of es)) c.loop-entry.list c.args.entries.now c.loop-entry.entry-index refl (omega arith) ∙ c.loop-entry.invariant
