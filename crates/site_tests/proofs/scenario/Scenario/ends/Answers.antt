use Rattle.std.proofs.Common.{◌≡◌, ◌∙◌, [], Some, ap, rules}
use Rattle.std.specs.FinMap.{from_entries}
use Rattle.site_base.specs.Places.{path_cmp}
use Rattle.source_tree.proofs.Plain.{plain_files-from_entries}
use Rattle.site_tests.proofs.scenario.Scenario.ends.Goals as goal

pub returns-clause-out : goal.returns-clause-out
returns-clause-out c =
    let files = plain_files-from_entries c.in_ok-outputs.outputs.items ∙ ap (λ es. from_entries {R = path_cmp} es) c.in_ok-outputs.ensures.files in
    let fails : c.in_ok-to_vec-2.field-0.items ≡ c.args.self.now.output_fails.now = search rules in
    c.new-2.ensures ∙ (λ i. record { files = files i; told = Some []; fail = fails i; calls = 0; failures = 0; short = 0 })
