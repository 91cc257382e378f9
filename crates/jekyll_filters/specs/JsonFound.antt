-- What calls make of values, as the data that it stands for.
use Rattle.std.specs.Prelude.{List, map, Result, Ok, Err, Vec, String}
use Rattle.std.specs.BTreeMap.{BTreeMap}
use Rattle.std.specs.declared.alloc.Global.{Global}
use Rattle.serde_json.specs.Data.{Data, Members}
use Rattle.serde_json.specs.View.{view, members_view}
use Rattle.serde_json.specs.declared.value.Value.{Value}
use Rattle.filter_base.specs.Stops.{Stop}

abbrev pub in_data : Result Value Stop → Result Data Stop
in_data (Ok v) = Ok (view v)
in_data (Err e) = Err e

abbrev pub in_list : Result (Vec Value Global) Stop → Result (List Data) Stop
in_list (Ok vs) = Ok (map view vs.items)
in_list (Err e) = Err e

abbrev pub in_members : Result (BTreeMap (String Global) Value) Stop → Result Members Stop
in_members (Ok ms) = Ok (members_view ms.entries)
in_members (Err e) = Err e
