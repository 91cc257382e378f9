use Rattle.std.proofs.Common.{ap, ◌∙◌, ◌+◌, drop, arith, refl}
use Rattle.site_base.specs.Plain.{Items, onto}
use Rattle.site_variables.specs.Hashes.{copied}
use Rattle.site_variables.specs.Lists.{each}
use Rattle.site_variables.proofs.Filled.{made_more, made_end}
use Rattle.site_variables.proofs.hashes.static_files.Goals as goal

pub loop-file-preserved : goal.loop-file-preserved
loop-file-preserved c =
    let xs = c.args.files.now in let i = c.loop-file.file-index in
    ap (λ (is : Items). onto is (each copied (drop (i + 1) xs))) c.in_ok-push.ensures.ok
    ∙ made_more (each copied) copied (λ _ _. refl) c.loop-file.list xs i c.file-item.result _ c.loop-file-test.true c.file-item.is c.in_ok-copied.ensures
    ∙ c.loop-file.invariant

pub returns : goal.returns
returns c = made_end (each copied) c.loop-file.list c.args.files.now c.loop-file.file-index refl (omega arith) ∙ c.loop-file.invariant
