use Rattle.std.proofs.Common.{◌++◌, ◌∷◌, [], ap, ◌∙◌}
use Rattle.read_record.proofs.numbered.NumberedRecord.add.Goals as goal

pub returns-clause-ok : goal.returns-clause-ok
returns-clause-ok c = (
  c.in_ok-numbered.numbered,
  c.push_reserved.ensures.items ∙ ap (λ xs. xs ++ c.in_ok-numbered.numbered ∷ []) (c.in_ok-reserve.ensures.items ∙ c.self.view_is),
  c.in_ok-numbered.ensures.held,
  c.in_ok-numbered.ensures.same,
)
