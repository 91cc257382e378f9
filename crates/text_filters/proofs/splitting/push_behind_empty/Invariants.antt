use Rattle.std.proofs.Common.{◌≡◌, ◌++◌, ◌∷◌, []}
use Rattle.site_base.specs.Plain.{onto}
use Rattle.text_filters.specs.Splitting.{empties, text_items}
use Rattle.text_filters.proofs.splitting.push_behind_empty.Given as goal

abbrev pub invariant-loop-left : goal.invariant-loop-left
invariant-loop-left l = onto l.list (text_items (empties l.left ++ l.part ∷ [])) ≡ onto l.initial.list (text_items (empties l.waiting ++ l.part ∷ []))

abbrev pub decreases-loop-left : goal.decreases-loop-left
decreases-loop-left l = l.left
