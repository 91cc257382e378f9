use Rattle.std.proofs.Common.{◌∙◌, ap}
use Rattle.std.specs.FinMap.{insert}
use Rattle.out_tree.specs.declared.step.Step.TheVariants.{Write}
use Rattle.out_tree.proofs.InMemory.{tells_same, tells_done}
use Rattle.out_tree.proofs.memory.MemoryOutOutTree.write.Goals as goal

pub returns-then-begins-clause-tells : goal.returns-then-begins-clause-tells
returns-then-begins-clause-tells c = tells_same _ _ (Write c.args.path.now c.args.bytes.now) (ap (λ s. s.files) c.fail.ensures.counted ∙ c.begins.ensures.files)

pub returns-in-Ok-clause-tells : goal.returns-in-Ok-clause-tells
returns-in-Ok-clause-tells c = tells_done _ _ (Write c.args.path.now c.args.bytes.now) (ap (λ s. s.files) c.in-Ok.ensures.ok ∙ ap (λ m. insert m c.args.path.now c.args.bytes.now) c.begins.ensures.files)

pub returns-in-Err-clause-tells : goal.returns-in-Err-clause-tells
returns-in-Err-clause-tells c = tells_same _ _ (Write c.args.path.now c.args.bytes.now) (ap (λ s. s.files) c.fail-in-Err.ensures.counted ∙ ap (λ s. s.files) c.fall_short.ensures ∙ ap (λ s. s.files) c.in-Err.ensures.err ∙ c.begins.ensures.files)
