use Rattle.std.proofs.Common.{get_or, subst, sym, take}
use Rattle.std.proofs.lemmas.List.{take_more}
use Rattle.link_check.proofs.NumberLaws.{all_push, both_marks, marked_all}
use Rattle.link_check.specs.Numbers.{AreSafe, IsSafe}
use Rattle.link_check.proofs.value_table.mark.Goals as goal

pub loop-number-preserved : goal.loop-number-preserved
loop-number-preserved c =
    let before = c.loop-number.slots.items in
    let after = c.mark_slot.new.slots.items in
    let numbers = c.args.numbers.now in
    let i = c.loop-number.number-index in
    record {
      same = both_marks c.args.slots.now.items before after c.loop-number.invariant.same c.mark_slot.ensures.same;
      safe = subst (AreSafe after) (sym (take_more numbers i 0 c.loop-number-test.true)) (all_push (IsSafe after) (take i numbers) (get_or numbers i 0) (marked_all before after c.mark_slot.ensures.same (take i numbers) c.loop-number.invariant.safe) c.mark_slot.ensures.safe);
    }
