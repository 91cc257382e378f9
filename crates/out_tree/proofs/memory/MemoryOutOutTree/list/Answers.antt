use Rattle.std.proofs.Common.{◌∙◌, sym, ap}
use Rattle.std.specs.FinMap.{keys}
use Rattle.site_base.specs.PathMap.{as_map}
use Rattle.out_tree.proofs.InMemory.{listed_exact}
use Rattle.out_tree.proofs.ValuesLemmas.{keys-map_values}
use Rattle.out_tree.proofs.memory.MemoryOutOutTree.list.Goals as goal

pub returns-clause-lists : goal.returns-clause-lists
returns-clause-lists c =
    let those = sym (keys-map_values (λ bytes. bytes.items) (as_map c.self.inside.files)) ∙ ap (λ s. keys s.files) c.self.view_is ∙ ap keys c.begins.ensures.files in
    record { differ = c.in_ok-paths.ensures.differ; exact = λ files same. listed_exact c.args.self.now.files _ _ c.in_ok-paths.ensures.paths those files same }
