-- Of an output that has not been listed nothing is believed.
use Rattle.std.proofs.Common.{◌≡◌, ◌∙◌, sym, ap, Option, None}
use Rattle.std.specs.FinMap.{empty}
use Rattle.std.specs.Option.{option_map}
use Rattle.site_base.specs.PathMap.{as_map}
use Rattle.site_base.specs.declared.path_map.PathMap.{PathMap}
use Rattle.out_tree.specs.Belief.{Belief, believed}
use Rattle.out_tree.specs.declared.state.State.{State}

pub none_believed : (belief : Option (PathMap State)) (now : Option Belief) → option_map as_map belief ≡ now → belief ≡ None → believed now ≡ empty
none_believed belief now view is = ap believed (sym view ∙ ap (option_map as_map) is)
