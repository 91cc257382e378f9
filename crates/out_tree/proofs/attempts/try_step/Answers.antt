use Rattle.std.proofs.Common.{◌∙◌, sym, ap}
use Rattle.std.specs.Result.{is_ok}
use Rattle.out_tree.specs.declared.step.Step.TheVariants.{Write}
use Rattle.out_tree.proofs.Trying.{tells_by}
use Rattle.out_tree.proofs.attempts.try_step.Goals as goal

pub returns-in-Ok-clause-tells : goal.returns-in-Ok-clause-tells
returns-in-Ok-clause-tells g c = tells_by _ _ _ _ _ _ c.in-Remove.is (ap is_ok c.in-Ok.is) c.remove.ensures.tells

pub returns-in-Err-clause-tells : goal.returns-in-Err-clause-tells
returns-in-Err-clause-tells g c = tells_by _ _ _ _ _ _ c.in-Remove.is (ap is_ok c.in-Err.is) c.remove.ensures.tells

pub returns-in-Ok-write-clause-tells : goal.returns-in-Ok-write-clause-tells
returns-in-Ok-write-clause-tells g c = tells_by _ _ _ _ _ _ (c.in-Write.is ∙ ap (λ bytes. Write c.in-Write.path bytes) (sym c.as_slice.ensures)) (ap is_ok c.in-Ok-write.is) c.write.ensures.tells

pub returns-in-Err-write-clause-tells : goal.returns-in-Err-write-clause-tells
returns-in-Err-write-clause-tells g c = tells_by _ _ _ _ _ _ (c.in-Write.is ∙ ap (λ bytes. Write c.in-Write.path bytes) (sym c.as_slice.ensures)) (ap is_ok c.in-Err-write.is) c.write.ensures.tells
