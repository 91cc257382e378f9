-- What the reading of a text gives: a value, or the first fault in the order of the text.
use Rattle.std.specs.Prelude.{ℕ, ◌+◌, Option, Some, None, Result, Ok, Err}
use Rattle.site_base.specs.declared.faults.YamlKind.{YamlKind}

-- where (the place of a byte in a text, or the number of a line), and what is wrong there
abbrev pub Fault : Type 0
Fault = ℕ × YamlKind

-- a value, or the first fault
abbrev pub Reading : Type 0 → Type 0
Reading A = Result A Fault

-- the fault that there is, or else a reading
abbrev pub unless : {A : Type 0} → Option Fault → Reading A → Reading A
unless (Some f) r = Err f
unless None r = r

-- the same reading of a text in which k bytes stand before
abbrev pub further : {A : Type 0} → ℕ → Reading A → Reading A
further k (Ok x) = Ok x
further k (Err f) = Err (k + f.0, f.1)
