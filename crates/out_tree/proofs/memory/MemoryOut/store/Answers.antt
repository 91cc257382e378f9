use Rattle.std.proofs.Common.{◌∙◌, sym, ap}
use Rattle.std.specs.Prelude.{◌||◌}
use Rattle.std.specs.FinMap.{insert, keys}
use Rattle.site_base.specs.Clash.{has_below, has_folder}
use Rattle.site_base.specs.PathMap.{as_map}
use Rattle.out_tree.specs.Values.{map_values}
use Rattle.out_tree.proofs.ClashLemmas.{no_clash-put}
use Rattle.out_tree.proofs.InMemory.{on_ok}
use Rattle.out_tree.proofs.ValuesLemmas.{keys-map_values, map_values-insert}
use Rattle.out_tree.proofs.memory.MemoryOut.store.Goals as goal

pub invariant_of-self : goal.invariant_of-self
invariant_of-self c =
    let same = sym (keys-map_values (λ bytes. bytes.items) (as_map c.self.inside.files)) ∙ ap (λ s. keys s.files) c.self.view_is in
    no_clash-put c.put.result (as_map c.self.inside.files) (as_map c.put.new.self) c.in_ok-path.path c.into_vec.result c.put.ensures.ok c.put.ensures.err c.self.invariant
    ((λ i. has_below (c.in_ok-path.ensures i) (same i) || has_folder (c.in_ok-path.ensures i) (same i)) ∙ c.requires)

pub returns-clause-ok : goal.returns-clause-ok
returns-clause-ok c = on_ok c.put.result _ _ (λ put.
    let bytes = c.into_vec.ensures ∙ c.in_ok-bytes.ensures in
    let files = ap (map_values (λ v. v.items)) put ∙ map_values-insert (λ v. v.items) (as_map c.self.inside.files) c.in_ok-path.path c.into_vec.result ∙ (λ i. insert (c.self.view_is i).files (c.in_ok-path.ensures i) (bytes i)) in
    λ i. record { files = files i; told = (c.self.view_is i).told; fail = (c.self.view_is i).fail; calls = (c.self.view_is i).calls; failures = (c.self.view_is i).failures; short = (c.self.view_is i).short }) c.put.ensures.ok
