use Rattle.std.proofs.Common.{◌∙◌, ap}
use Rattle.std.proofs.lemmas.Map.Text.{hash_map_updates_str}
use Rattle.std.specs.Option.{option_copied}
use Rattle.std.specs.Str.{bytes_eq}
use Rattle.site_world.proofs.Keyed.{copied-cond}
use Rattle.site_world.proofs.named.Named.put.Goals as goal

pub returns-in-Ok : goal.returns-in-Ok
returns-in-Ok g c = λ x.
    ap option_copied (hash_map_updates_str c.args.name.now c.args.self.now.values c.insert.new.self _ c.in-Ok.ensures.updates x)
    ∙ copied-cond (bytes_eq c.args.name.now x) c.args.value _
