use Rattle.std.proofs.Common.{◌<◌, ◌∙◌, All, sym, subst}
use Rattle.std.proofs.lemmas.List.{length-set}
use Rattle.std.proofs.lemmas.List.Elements.{All-take}
use Rattle.render_workers.specs.declared.part.Brought.{Brought}
use Rattle.render_workers.proofs.PlaceLaws.{placed-next}
use Rattle.render_workers.proofs.placing.place_all.Goals as goal

pub loop-last-preserved : goal.loop-last-preserved
loop-last-preserved g c =
    let at = c.loop-last in record {
      within = (let P : Brought g.row.M.Denot → Type 0 = λ b. b.item < c.args.items in subst (All P) (sym c.pop.ensures.rest) (All-take P _ at.brought.items at.invariant.within));
      room = length-set at.places.items c.in-Some.last.item c.put.new.place ∙ at.invariant.room;
      placed = placed-next c.pop.new.self.items at.brought.items c.in-Some.last at.places.items c.put.new.place c.in-Some.ensures.items c.put.ensures ∙ at.invariant.placed;
    }
