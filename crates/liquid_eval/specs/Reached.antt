-- What nodes leave, and how they are entered.
use Rattle.std.specs.Prelude.{Option, Some, None}
use Rattle.site_base.specs.declared.faults.SiteFault.{SiteFault}
use Rattle.read_record.specs.Queries.{Query, Give}
use Rattle.liquid_grammar.specs.Trees.{Tree}
use Rattle.liquid_values.specs.Places.{Place}
use Rattle.liquid_tags.specs.declared.state.State.{State}
use Rattle.liquid_eval.specs.declared.signal.Signal.{Signal}
use Rattle.liquid_eval.specs.declared.signal.Signal.TheVariants.{Next}

-- what nodes leave
pub record Reached : Type 0 where
  pub state : State
  pub signal : Signal

abbrev pub reached : State → Signal → Reached
reached s signal = record { state = s; signal = signal }

abbrev pub onward : State → Query SiteFault Reached
onward s = Give (reached s Next)

-- how nodes are entered: that of a block, an include or an excerpt, whose tag stands at the first place
abbrev pub Enter : Type 0
Enter = Place → Place → Tree → State → Query SiteFault Reached

-- the nodes of a block's part, entered from the block's tag; a part that is not there is not entered
abbrev pub enter_part : Enter → Place → State → Option Tree → Query SiteFault Reached
enter_part enter p s None = onward s
enter_part enter p s (Some t) = enter p p t s
