-- What a reader returned, against what the definition reads.
use Rattle.std.specs.Prelude.{◌≡◌, ℕ, List, [], ◌∷◌, Option, Some, None, Result, Ok, Err}
use Rattle.liquid_grammar.specs.Readings.{Reading, More, stop, wrong, one, Refusal, syntax_fault, overflow}
use Rattle.liquid_expr.specs.declared.stop.Stop.{Stop}
use Rattle.liquid_expr.specs.declared.stop.Stop.TheVariants.{NoReading, Memory}
use Rattle.liquid_expr.specs.declared.stop.ReadExprError.{ReadExprError}
use Rattle.liquid_expr.specs.declared.stop.ReadExprError.TheVariants as read_error

-- the value with its number of tokens, unless memory was wanting
abbrev pub IsRead : {X : Type 0} → Result (X × ℕ) Stop → Reading X → Type 0
IsRead (Ok found) r = r ≡ Some found
IsRead (Err NoReading) r = r ≡ None
IsRead (Err Memory) r = Unit {0}

-- what may come once more, unless memory was wanting
abbrev pub IsMore : {X : Type 0} → Result (Option (X × ℕ)) Stop → More X → Type 0
IsMore (Ok (Some found)) m = m ≡ one found.0 found.1
IsMore (Ok None) m = m ≡ stop
IsMore (Err NoReading) m = m ≡ wrong
IsMore (Err Memory) m = Unit {0}

abbrev pub ReadFails : {X : Type 0} → ReadExprError → Result X Refusal → Type 0
ReadFails read_error.Syntax said = said ≡ Err syntax_fault
ReadFails read_error.Overflow said = said ≡ Err overflow
ReadFails read_error.Memory said = Unit {0}

-- the value that a text says, or why it is refused, unless memory was wanting
abbrev pub GivesRead : {X : Type 0} → Result X ReadExprError → Result X Refusal → Type 0
GivesRead (Ok x) said = said ≡ Ok x
GivesRead (Err error) said = ReadFails error said

-- one value as a list
abbrev pub alone : {X : Type 0} → X → List X
alone x = x ∷ []
