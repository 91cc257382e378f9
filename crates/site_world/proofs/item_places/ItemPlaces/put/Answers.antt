use Rattle.std.proofs.Common.{◌∙◌, ◌&&◌, ◌==◌, Some, cond, ap}
use Rattle.std.specs.Str.{bytes_eq}
use Rattle.memo_table.proofs.EntryLaws.{equal-names}
use Rattle.site_world.specs.Indices.{place_in}
use Rattle.site_world.proofs.item_places.ItemPlaces.put.Goals as goal

pub returns-in-Ok : goal.returns-in-Ok
returns-in-Ok c = λ q.
    let name = c.args.name.now in
    c.in-Ok.ensures.updates.0 (record { path = record { ref_ptr = c.text.result.ref_ptr; now = q.path }; part = q.part })
    ∙ ap (λ b. cond b (Some c.args.place) (place_in c.args.self.now q)) (ap (λ path. bytes_eq path q.path && (name.part == q.part)) c.text.ensures.text ∙ equal-names name q)
