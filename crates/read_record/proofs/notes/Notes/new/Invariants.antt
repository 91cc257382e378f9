use Rattle.std.proofs.Common.{◌≡◌, replicate}
use Rattle.read_record.specs.declared.notes.Verdict.TheVariants as verdict
use Rattle.read_record.proofs.notes.Notes.new.Given as goal

abbrev pub invariant-loop : goal.invariant-loop
invariant-loop l = l.notes.items ≡ replicate l.counter (record { code = 0; verdict = verdict.Unknown })
