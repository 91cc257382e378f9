use Rattle.std.proofs.Common.{◌∙◌, sym, ap}
use Rattle.std.specs.Prelude.{◌||◌}
use Rattle.std.specs.FinMap.{keys}
use Rattle.site_base.specs.Clash.{has_below, has_folder}
use Rattle.site_base.specs.PathMap.{as_map}
use Rattle.out_tree.proofs.ValuesLemmas.{keys-map_values}
use Rattle.out_tree.proofs.memory.MemoryOut.stands_in_way.Goals as goal

pub returns-then-has_below : goal.returns-then-has_below
returns-then-has_below c =
    let same = sym (keys-map_values (λ bytes. bytes.items) (as_map c.self.inside.files)) ∙ ap (λ s. keys s.files) c.self.view_is in
    c.if-has_below.true ∙ ap (λ b. b || has_folder c.args.path.now (keys c.args.self.now.files)) (sym c.if-has_below.true ∙ c.has_below.ensures ∙ ap (has_below c.args.path.now) same)

pub returns-else-has_below : goal.returns-else-has_below
returns-else-has_below c =
    let same = sym (keys-map_values (λ bytes. bytes.items) (as_map c.self.inside.files)) ∙ ap (λ s. keys s.files) c.self.view_is in
    let apart = sym c.if-has_below.false ∙ c.has_below.ensures ∙ ap (has_below c.args.path.now) same in
    c.has_folder.ensures ∙ (λ i. apart i || has_folder c.args.path.now (same i))
