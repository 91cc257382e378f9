use Rattle.std.proofs.lemmas.Map.Text.{hash_map_updates_str}
use Rattle.site_reader.proofs.first_places.put.Goals as goal

pub returns-in-Ok : goal.returns-in-Ok
returns-in-Ok c = λ x. hash_map_updates_str c.args.text.now c.args.places.now c.insert.new.self _ c.in-Ok.ensures.updates x
