use Rattle.std.proofs.Common.{ℕ, ◌∷◌, [], ap, sym, subst}
use Rattle.text_pool.specs.Texts.{IsHeld}
use Rattle.read_record.specs.Stores.{Store, HasMore}
use Rattle.read_record.proofs.StoreLaws.{one_code_less}
use Rattle.read_record.proofs.read_store.ReadStore.release.Goals as goal

pub returns : goal.returns
returns c =
    let new : Store = record { keys = c.release.new.self; codes = c.give_back.new.self } in
    let old : Store = record { keys = c.self.inside.keys; codes = c.self.inside.codes } in
    let held : IsHeld c.self.inside.codes c.read.inside.code =
    subst (IsHeld c.self.inside.codes) (ap (λ (r : ℕ × ℕ). r.1) (sym c.read.view_is)) (subst (λ (s : Store). IsHeld s.codes c.args.read.1) (sym c.self.view_is) c.requires.code)
    in
    let both : HasMore new old ((c.read.inside.key, c.read.inside.code) ∷ []) = record {
      keys = c.release.ensures;
      codes = one_code_less c.self.inside.codes c.give_back.new.self c.read.inside.code held c.give_back.ensures.counted c.give_back.ensures.kept;
    } in
    subst (λ (s : Store). HasMore new s (c.args.read ∷ [])) c.self.view_is (subst (λ (r : ℕ × ℕ). HasMore new old (r ∷ [])) c.read.view_is both)
