-- What one worker knows.
use Rattle.std.specs.Prelude.{ℕ, List, Option, Some, None, slice_get, slice_set}
use Rattle.read_record.specs.declared.outcome.Outcome.{Outcome}
use Rattle.read_record.specs.declared.outcome.Checked.{Checked}
use Rattle.read_record.specs.declared.outcome.Checked.TheVariants as checked
use Rattle.read_record.specs.Entries.{Kept}

-- of each item the entry, where it is known
abbrev pub Hand : Type 0
Hand = List (Option Kept)

abbrev pub flat : {A : Type 0} → Option (Option A) → Option A
flat (Some x) = x
flat None = None

abbrev pub outcome_in : Option Kept → Option Outcome
outcome_in (Some e) = Some e.outcome
outcome_in None = None

-- the outcomes of the items that are known
abbrev pub hand_outs : Hand → ℕ → Option Outcome
hand_outs hand i = outcome_in (flat (slice_get hand i))

-- a hand once an entry was checked: it is known exactly where it agrees
abbrev pub taken : Checked → ℕ → Kept → Hand → Hand
taken checked.Agrees i e hand = slice_set hand i (Some e)
taken (checked.Differs place) i e hand = hand
taken (checked.Needs j) i e hand = hand
