use Rattle.std.proofs.Common.{◌∙◌, ap, arith, List}
use Rattle.std.proofs.lemmas.List.{take_all}
use Rattle.site_base.specs.Places.{paths_of}
use Rattle.source_tree.specs.Rise.{units}
use Rattle.source_tree.proofs.Apart.{distinct_units}
use Rattle.source_tree.proofs.Fitted.{VecFile}
use Rattle.source_tree.proofs.distinct.distinct_paths.Goals as goal

pub returns : goal.returns
returns c =
    let all = take_all c.loop-file.file-index c.args.files.now (omega arith) in
    distinct_units c.loop-file.paths.items (paths_of c.args.files.now) c.from_entries.result (c.loop-file.invariant ∙ ap (λ (l : List VecFile). units (paths_of l)) all) c.from_entries.ensures
