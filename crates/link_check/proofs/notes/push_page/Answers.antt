use Rattle.std.proofs.Common.{List, subst, sym, ℕ}
use Rattle.link_check.specs.Links.{links}
use Rattle.link_check.specs.Numbers.{AreNumbers}
use Rattle.link_check.proofs.NoteLaws.{told_more}
use Rattle.link_check.proofs.notes.push_page.Goals as goal

pub loop-number-preserved : goal.loop-number-preserved
loop-number-preserved g c =
    let values = c.args.values.now in
    let ns = c.deref-number-items.result.now in
    let ts = links c.args.entry.now.1.bytes in
    let numbered : AreNumbers values ns ts = subst (λ (l : List ℕ). AreNumbers values l ts) (sym c.deref-number-items.ensures.value) c.requires.numbered in
    record {
      list = told_more (g.P.Paths.paths c.args.paths.now) c.args.entry.now.0 c.args.base.now c.args.list.now c.loop-number.list c.push_told.new.list values ns ts c.loop-number.number-index numbered c.loop-number-test.true (λ t is. c.in_ok-push_told.ensures.list t is) c.loop-number.invariant.list;
      right = c.push_told.ensures.right;
    }
