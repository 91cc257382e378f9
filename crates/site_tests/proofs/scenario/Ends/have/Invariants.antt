use Rattle.std.proofs.Common.{◌≡◌, drop}
use Rattle.site_tests.specs.Scenarios.{file_list, has_all, has_refused}
use Rattle.site_tests.proofs.scenario.Ends.have.Given as goal

abbrev pub invariant-loop-path : goal.invariant-loop-path
invariant-loop-path l =
    (has_all l.self.out.files (file_list (drop l.path-index l.wanted)) ≡ has_all l.self.out.files (file_list l.wanted))
    × (has_refused (file_list (drop l.path-index l.wanted)) ≡ has_refused (file_list l.wanted))
