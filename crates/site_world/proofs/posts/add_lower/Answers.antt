use Rattle.std.proofs.Common.{◌≡◌, ◌∙◌, ℕ, List, Some, None, cond, sym}
use Rattle.std.proofs.lemmas.Result.{on_ok_weaker}
use Rattle.std.specs.Str.{bytes_eq}
use Rattle.site_world.proofs.PostLaws.{by_name}
use Rattle.site_world.specs.Named.{named}
use Rattle.site_world.specs.Sights.{lower}
use Rattle.site_world.proofs.posts.add_lower.Goals as goal

pub returns-in-None : goal.returns-in-None
returns-in-None c =
    on_ok_weaker c.put.result
    (λ (e : (x : List ℕ) → named c.put.new.self x ≡ cond (bytes_eq c.args.name.now x) (Some c.args.item.now) (named c.args.made.now x)) x.
    e x ∙ by_name (λ found. lower found c.args.item.now) (named c.args.made.now) c.args.name.now x None (sym c.in-None.ensures)) c.put.ensures
