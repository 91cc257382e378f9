use Rattle.std.proofs.Common.{List, ap, ◌∙◌, ◌+◌, ◌∷◌, drop, map, arith, refl}
use Rattle.std.specs.HashSet as bag
use Rattle.std.specs.Str.{bytes_eq}
use Rattle.site_base.specs.Plain.{Items, onto}
use Rattle.site_base.specs.View.{plain}
use Rattle.filter_base.specs.Taken.{entry_of}
use Rattle.filter_base.specs.declared.keyed.Entry.{Entry}
use Rattle.filter_base.proofs.ItemLaws.{made_end}
use Rattle.list_filters.specs.Choosing.{first_of_each}
use Rattle.list_filters.proofs.SelectionLaws.{first_more, is_new, one_more}
use Rattle.list_filters.proofs.choosing.first_of_each_in.Goals as goal

pub loop-entry-preserved : goal.loop-entry-preserved
loop-entry-preserved c =
    let es = c.args.entries.now in let i = c.loop-entry.entry-index in
    let key = plain c.entry-item.result.key.now in let met = c.loop-entry.invariant.met in
    let made = c.in_ok-code.field-0 in
    let new = is_new met key made.items (bag.contains (λ x y. bytes_eq x.items y.items) c.loop-entry.met made) c.in_ok-is_new.is_new c.in_ok-code.ensures.code c.in_ok-is_new.ensures.added (c.loop-entry.invariant.has made) in
    record {
      met = key ∷ met;
      rest = ap (λ (is : Items). onto is (first_of_each (key ∷ met) (map entry_of (drop (i + 1) es)))) c.in_ok-push_if.ensures
          ∙ first_more entry_of met c.loop-entry.list es i c.entry-item.result c.in_ok-is_new.is_new c.loop-entry-test.true c.entry-item.is new
          ∙ c.loop-entry.invariant.rest;
      has = λ q. one_more met key made.items q.items _ _ c.in_ok-code.ensures.code (c.loop-entry.invariant.has q) (c.in_ok-is_new.ensures.updates.0 q);
    }

pub returns : goal.returns
returns c =
    made_end (λ (es : List Entry). first_of_each c.loop-entry.invariant.met (map entry_of es)) c.loop-entry.list c.args.entries.now c.loop-entry.entry-index refl (omega arith)
    ∙ c.loop-entry.invariant.rest
