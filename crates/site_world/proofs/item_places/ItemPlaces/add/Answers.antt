use Rattle.std.proofs.Common.{◌≡◌, ◌∙◌, Some, cond, sym}
use Rattle.std.proofs.lemmas.Result.{on_ok_weaker}
use Rattle.memo_table.specs.Names.{same_name}
use Rattle.memo_table.specs.SameNames.{same_name-eq}
use Rattle.site_base.specs.declared.item_name.ItemName.{ItemName}
use Rattle.site_world.proofs.Keyed.{stays, fresh}
use Rattle.site_world.specs.Indices.{place_in}
use Rattle.site_world.proofs.item_places.ItemPlaces.add.Goals as goal

pub returns-in-Some : goal.returns-in-Some
returns-in-Some c = λ q.
    stays same_name same_name-eq (place_in c.args.self.now) c.args.name.now q c.args.place c.in-Some._first (sym c.in-Some.ensures)

pub returns-in-None : goal.returns-in-None
returns-in-None c =
    on_ok_weaker c.put.result
    (λ (e : (q : ItemName) → place_in c.put.new.self q ≡ cond (same_name c.args.name.now q) (Some c.args.place) (place_in c.args.self.now q)) q.
    e q ∙ fresh same_name same_name-eq (place_in c.args.self.now) c.args.name.now q c.args.place (sym c.in-None.ensures)) c.put.ensures
