use Rattle.std.proofs.Common.{◌∙◌, sym, ap}
use Rattle.std.specs.FinMap.{len}
use Rattle.site_base.specs.PathMap.{as_map}
use Rattle.out_tree.proofs.ValuesLemmas.{len-map_values}
use Rattle.out_tree.proofs.memory.MemoryOut.len.Goals as goal

pub returns : goal.returns
returns c = c.len.ensures ∙ sym (len-map_values (λ bytes. bytes.items) (as_map c.self.inside.files)) ∙ ap (λ s. len s.files) c.self.view_is
