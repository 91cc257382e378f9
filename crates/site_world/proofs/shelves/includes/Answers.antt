use Rattle.std.proofs.Common.{ℕ, List, sym}
use Rattle.std.specs.Str.{bytes_eq}
use Rattle.site_base.specs.Plain.{text}
use Rattle.site_items.specs.declared.include_file.IncludeFile.{IncludeFile}
use Rattle.site_world.proofs.Loops.{one_more}
use Rattle.site_world.specs.Shelves.{shelved}
use Rattle.site_world.proofs.shelves.includes.Goals as goal

pub loop-include-preserved : goal.loop-include-preserved
loop-include-preserved c = λ x.
    one_more (λ (x : List ℕ) (include : IncludeFile). bytes_eq include.name x) (λ (include : IncludeFile). text include.body) c.args.includes.now c.loop-include.include-index c.include-item.result
    c.loop-include-test.true (sym c.include-item.is) x (shelved c.loop-include.made x) (shelved c.add_include.new.made x) (c.in_ok-add_include.ensures x) (c.loop-include.invariant x)
