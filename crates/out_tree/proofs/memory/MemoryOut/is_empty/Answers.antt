use Rattle.std.proofs.Common.{◌∙◌, sym, ap}
use Rattle.std.specs.FinMap.{len}
use Rattle.site_base.specs.PathMap.{as_map}
use Rattle.out_tree.proofs.ValuesLemmas.{len-map_values}
use Rattle.out_tree.proofs.memory.MemoryOut.is_empty.Goals as goal

pub returns : goal.returns
returns c =
    let same = sym (len-map_values (λ bytes. bytes.items) (as_map c.self.inside.files)) ∙ ap (λ s. len s.files) c.self.view_is in
    (λ yes. sym same ∙ c.is_empty.ensures.0 yes, λ none. c.is_empty.ensures.1 (same ∙ none))
