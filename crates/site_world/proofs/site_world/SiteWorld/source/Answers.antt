use Rattle.std.proofs.Common.{◌≡◌, ◌∙◌, slice_get, Some, None, sym, ap}
use Rattle.site_world.proofs.SourceLaws.{source-at_place}
use Rattle.site_world.specs.Sights.{source_at}
use Rattle.site_world.proofs.site_world.SiteWorld.source.Goals as goal

pub returns-in-Some : goal.returns-in-Some
returns-in-Some c =
    let items = c.args.self.now.site.now.items in
    let path = c.args.path.now in
    let found : slice_get items c.in-Some.place ≡ source_at path items = source-at_place path items (Some c.in-Some.place) (c.in-Some.ensures ∙ c.args.self.now.places_are (record { path = path; part = 0 })) in
    sym c.at.ensures ∙ ap (slice_get items) c.from.ensures ∙ found

pub returns-in-None : goal.returns-in-None
returns-in-None c =
    let items = c.args.self.now.site.now.items in
    let path = c.args.path.now in
    source-at_place path items None (c.in-None.ensures ∙ c.args.self.now.places_are (record { path = path; part = 0 }))
