use Rattle.std.proofs.Common.{ap, length, ◌∙◌}
use Rattle.site_reader.proofs.FirstPlaceLaws.{absent, found, place_from}
use Rattle.site_reader.proofs.first_places.FirstPlaces.find.Goals as goal

pub returns-in-Some : goal.returns-in-Some
returns-in-Some c =
    let x = c.args.text.now in
    found c.args.self.now x c.in-Some.place.now (c.in-Some.ensures.value ∙ c.self.invariant x ∙ ap (place_from x 0) c.self.view_is)

pub returns-in-None : goal.returns-in-None
returns-in-None c =
    let x = c.args.text.now in
    c.len.ensures ∙ ap length c.self.view_is ∙ absent c.args.self.now x (c.in-None.ensures.value ∙ c.self.invariant x ∙ ap (place_from x 0) c.self.view_is)
