use Rattle.std.proofs.Common.{◌≡◌, ℕ, get_or}
use Rattle.link_check.specs.declared.notes.Note.TheVariants.{Unknown}
use Rattle.link_check.proofs.notes.no_notes.Given as goal

abbrev pub invariant-loop-place : goal.invariant-loop-place
invariant-loop-place l = (n : ℕ) → get_or l.notes.items n Unknown ≡ Unknown
