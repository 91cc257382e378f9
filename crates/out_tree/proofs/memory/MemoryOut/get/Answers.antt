use Rattle.std.proofs.Common.{◌∙◌, sym, ap, Some}
use Rattle.std.specs.Option.{option_copied, option_map}
use Rattle.std.specs.FinMap.{get}
use Rattle.site_base.specs.PathMap.{as_map}
use Rattle.out_tree.proofs.ValuesLemmas.{get-map_values}
use Rattle.out_tree.proofs.memory.MemoryOut.get.Goals as goal

pub returns-in-Some : goal.returns-in-Some
returns-in-Some c =
    ap Some c.as_slice.ensures.value ∙ ap (option_map (λ bytes. bytes.items)) (ap option_copied (sym c.in-Some.is) ∙ c.get.ensures)
    ∙ sym (get-map_values (λ bytes. bytes.items) (as_map c.self.inside.files) c.args.path.now) ∙ ap (λ s. get s.files c.args.path.now) c.self.view_is

pub returns-in-None : goal.returns-in-None
returns-in-None c =
    ap (option_map (λ bytes. bytes.items)) (ap option_copied (sym c.in-None.is) ∙ c.get.ensures)
    ∙ sym (get-map_values (λ bytes. bytes.items) (as_map c.self.inside.files) c.args.path.now) ∙ ap (λ s. get s.files c.args.path.now) c.self.view_is
