use Rattle.std.proofs.Common.{◌∙◌, ap}
use Rattle.std.specs.FinMap.{remove}
use Rattle.out_tree.specs.declared.step.Step.TheVariants.{Remove}
use Rattle.out_tree.proofs.InMemory.{tells_same, tells_done}
use Rattle.out_tree.proofs.memory.MemoryOutOutTree.remove.Goals as goal

pub returns-then-begins-clause-tells : goal.returns-then-begins-clause-tells
returns-then-begins-clause-tells c = tells_same _ _ (Remove c.args.path.now) (ap (λ s. s.files) c.fail.ensures.counted ∙ c.begins.ensures.files)

pub returns-clause-tells : goal.returns-clause-tells
returns-clause-tells c = tells_done _ _ (Remove c.args.path.now) (ap (λ s. s.files) c.take.ensures ∙ ap (λ m. remove m c.args.path.now) c.begins.ensures.files)
