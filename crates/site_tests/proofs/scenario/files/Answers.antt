use Rattle.std.proofs.Common.{◌≡◌, ◌∙◌, ◌++◌, ap, append-nil, rules, sym}
use Rattle.std.proofs.lemmas.List.{drop_all}
use Rattle.site_base.specs.Places.{paths_of}
use Rattle.source_tree.specs.Put.{plain}
use Rattle.source_tree.proofs.Plain.{paths_of-plain}
use Rattle.site_tests.specs.Scenarios.{file_list}
use Rattle.site_tests.proofs.scenario.files.Goals as goal

pub returns-clause-paths : goal.returns-clause-paths
returns-clause-paths c =
    let none = drop_all c.loop-path.path-index c.args.given.now (search rules) in
    let files = sym (append-nil (plain c.loop-path.files.items)) ∙ ap (λ es. plain c.loop-path.files.items ++ file_list es) (sym none) ∙ c.loop-path.invariant.0 in
    sym (paths_of-plain c.loop-path.files.items) ∙ ap paths_of files
