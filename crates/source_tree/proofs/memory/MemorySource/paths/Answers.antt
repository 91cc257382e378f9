use Rattle.std.proofs.Common.{◌∙◌, ap, subst, sym}
use Rattle.std.specs.FinMap.{keys}
use Rattle.site_base.specs.Clash.{ClashFree}
use Rattle.site_base.specs.PathMap.{as_map}
use Rattle.source_tree.specs.Memory.{SourceState}
use Rattle.source_tree.proofs.Clashing.{clash_free-keys}
use Rattle.source_tree.proofs.Plain.{keys-plain_files}
use Rattle.source_tree.proofs.Results.{if_ok}
use Rattle.source_tree.proofs.memory.MemorySource.paths.Goals as goal

pub returns-clause-paths : goal.returns-clause-paths
returns-clause-paths c =
    if_ok _ _ c.paths.result (λ paths is. is ∙ sym (keys-plain_files (as_map c.self.inside.files)) ∙ ap (λ (s : SourceState). keys s.files) c.self.view_is) c.paths.ensures.paths

pub returns-clause-clash_free : goal.returns-clause-clash_free
returns-clause-clash_free c =
    let free : ClashFree (keys (as_map c.self.inside.files)) = subst ClashFree (keys-plain_files (as_map c.self.inside.files)) (clash_free-keys _ c.self.invariant) in
    if_ok _ _ c.paths.result (λ paths is. subst ClashFree (sym is) free) c.paths.ensures.paths
