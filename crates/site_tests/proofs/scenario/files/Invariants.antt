use Rattle.std.proofs.Common.{◌≡◌, ◌++◌, drop}
use Rattle.source_tree.specs.Put.{plain}
use Rattle.site_tests.specs.Scenarios.{file_list, has_refused}
use Rattle.site_tests.proofs.scenario.files.Given as goal

abbrev pub invariant-loop-path : goal.invariant-loop-path
invariant-loop-path l =
    (plain l.files.items ++ file_list (drop l.path-index l.given) ≡ file_list l.given)
    × (has_refused (file_list (drop l.path-index l.given)) ≡ has_refused (file_list l.given))
