use Rattle.std.proofs.Common.{◌∙◌, ap}
use Rattle.std.specs.FinMap.{remove}
use Rattle.site_base.specs.PathMap.{as_map}
use Rattle.out_tree.specs.Values.{map_values}
use Rattle.out_tree.proofs.ClashLemmas.{no_clash-remove}
use Rattle.out_tree.proofs.ValuesLemmas.{map_values-remove}
use Rattle.out_tree.proofs.memory.MemoryOut.take.Goals as goal

pub invariant_of-self : goal.invariant_of-self
invariant_of-self c = no_clash-remove (as_map c.self.inside.files) _ c.args.path.now c.remove.ensures.map c.self.invariant

pub returns : goal.returns
returns c =
    let files = ap (map_values (λ v. v.items)) c.remove.ensures.map ∙ map_values-remove (λ v. v.items) (as_map c.self.inside.files) c.args.path.now ∙ (λ i. remove (c.self.view_is i).files c.args.path.now) in
    λ i. record { files = files i; told = (c.self.view_is i).told; fail = (c.self.view_is i).fail; calls = (c.self.view_is i).calls; failures = (c.self.view_is i).failures; short = (c.self.view_is i).short }
