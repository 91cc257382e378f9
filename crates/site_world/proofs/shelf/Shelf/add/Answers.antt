use Rattle.std.proofs.Common.{◌≡◌, ◌∙◌, ℕ, List, Some, cond, sym}
use Rattle.std.proofs.lemmas.Result.{on_ok_weaker}
use Rattle.std.proofs.lemmas.Slice.Eq.{bytes_eq-Decides}
use Rattle.std.specs.Str.{bytes_eq}
use Rattle.site_world.proofs.Keyed.{stays, fresh}
use Rattle.site_world.specs.Shelves.{shelved}
use Rattle.site_world.proofs.shelf.Shelf.add.Goals as goal

pub returns-in-Some : goal.returns-in-Some
returns-in-Some c = λ x.
    stays bytes_eq (λ a b. (bytes_eq-Decides a b).0) (shelved c.args.self.now) c.args.name.now x c.args.value c.in-Some._first.now (sym c.in-Some.ensures)

pub returns-in-None : goal.returns-in-None
returns-in-None c =
    on_ok_weaker c.put.result
    (λ (e : (x : List ℕ) → shelved c.put.new.self x ≡ cond (bytes_eq c.args.name.now x) (Some c.args.value) (shelved c.args.self.now x)) x.
    e x ∙ fresh bytes_eq (λ a b. (bytes_eq-Decides a b).0) (shelved c.args.self.now) c.args.name.now x c.args.value (sym c.in-None.ensures)) c.put.ensures
