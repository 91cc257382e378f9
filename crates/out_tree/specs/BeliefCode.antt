-- By what a belief is told from another.
use Rattle.std.specs.Prelude.{◌≡◌, ℕ, List, Option, refl}
use Rattle.std.specs.FinMap as finmap
use Rattle.std.specs.Coded.{Coded, code_by, coded_ℕ, coded_list, coded_option}
use Rattle.out_tree.specs.Belief.{Belief, known_bytes, state_of}
use Rattle.out_tree.specs.declared.state.State.{State}
use Rattle.out_tree.specs.declared.state.State.TheVariants.{Known, Marked}

abbrev pub state_back : (s : State) → state_of (known_bytes s) ≡ s
state_back (Known bytes) = refl
state_back Marked = refl

abbrev pub state_code : Coded State
state_code = code_by (Option (List ℕ)) (coded_option (coded_list coded_ℕ)) known_bytes state_of state_back

abbrev pub belief_code : Coded (Option Belief)
belief_code = coded_option (finmap.code (coded_list coded_ℕ) state_code)
