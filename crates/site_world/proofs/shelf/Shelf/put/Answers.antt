use Rattle.std.proofs.Common.{◌∙◌, ap, Some, cond}
use Rattle.std.proofs.lemmas.Map.Text.{btree_map_updates_text}
use Rattle.std.specs.Prelude.{List, ℕ, string_bytes}
use Rattle.std.specs.Str.{bytes_eq}
use Rattle.site_world.specs.Shelves.{shelved}
use Rattle.site_world.proofs.shelf.Shelf.put.Goals as goal

pub returns-in-Ok : goal.returns-in-Ok
returns-in-Ok c = λ x.
    btree_map_updates_text (string_bytes c.in_ok-name.name) c.args.self.now.values c.insert.new.self _ c.in-Ok.ensures.updates x
    ∙ ap (λ (name : List ℕ). cond (bytes_eq name x) (Some c.args.value) (shelved c.args.self.now x)) c.in_ok-name.ensures.ok
