use Rattle.std.proofs.Common.{◌∷◌, [], subst, ◌∙◌}
use Rattle.read_record.specs.Stores.{Store, HasMore}
use Rattle.read_record.proofs.StoreLaws.{one_code_more, code_there}
use Rattle.read_record.proofs.read_store.ReadStore.add.Goals as goal

pub returns-in-Ok-clause-held : goal.returns-in-Ok-clause-held
returns-in-Ok-clause-held c =
    let new : Store = record { keys = c.hold.new.self; codes = c.intern.new.self } in
    subst (λ (s : Store). HasMore s new ((c.in_ok-key.key, c.in-Ok.code) ∷ [])) c.self.view_is (record {
      keys = c.in_ok-key.ensures.held;
      codes = one_code_more c.self.inside.codes c.intern.new.self c.in-Ok.code c.code.result.now c.in-Ok.ensures.ok c.in-Ok.ensures.kept;
    })

pub returns-in-Ok-clause-same : goal.returns-in-Ok-clause-same
returns-in-Ok-clause-same c =
    let key = c.in_ok-key.ensures.key ∙ c.key.ensures in
    let code = code_there c.self.inside.codes c.intern.new.self c.in-Ok.code c.code.result.now c.in-Ok.ensures.ok ∙ c.code.ensures in
    λ i. (key i, code i) ∷ []
