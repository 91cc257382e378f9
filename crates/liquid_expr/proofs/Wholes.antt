-- What a whole text says, from its tokens.
use Rattle.std.proofs.Common.{◌≡◌, ℕ, Bool, true, false, eqb, List, [], ◌∷◌, length, Some, None, Ok, Err, refl, sym, ap, ◌∙◌}
use Rattle.std.specs.List.{list_any}
use Rattle.std.proofs.lemmas.Bool.{eq-eqb}
use Rattle.liquid_grammar.specs.Tokens.{Token, is_large, tokens}
use Rattle.liquid_grammar.specs.Readings.{Reading, More, wrong, syntax_fault, overflow, checked, whole_reading, reads_tokens, reads}
use Rattle.liquid_expr.specs.Steps.{codes_of, added, Adds}
use Rattle.liquid_expr.proofs.Adding.{parts}
use Rattle.liquid_grammar.specs.declared.step.Step.{Step}
use Rattle.liquid_grammar.specs.Operands.{Operand, steps_of, operand_of, operand_of-steps_of, AreOfOperand}
use Rattle.liquid_expr.specs.declared.stop.Stop.{Stop}
use Rattle.liquid_expr.specs.declared.stop.Stop.TheVariants.{NoReading, Memory}
use Rattle.liquid_expr.specs.Readings.{alone, IsRead, IsMore}

-- lists of single values are the values themselves
codes_alone : {A : Type 0} (xs : List A) → codes_of alone xs ≡ xs
codes_alone [] = refl
codes_alone {A} (x ∷ xs) = ap (λ (ys : List A). x ∷ ys) (codes_alone xs)

pub from_alone : {A : Type 0} (r : Reading (List A)) (xs : List A) (n : ℕ) → added (codes_of alone) [] r ≡ Some (xs, n) → r ≡ Some (xs, n)
from_alone None xs n e = absurd cc
from_alone (Some r) xs n e = ap (λ ys. Some (ys, r.1)) (sym (codes_alone r.0)) ∙ e

module _ {A : Type 0} (reading : List Token → Reading A) (bytes : List ℕ) (ts : List Token) (is : tokens bytes ≡ Some ts) where
  from_tokens : reads reading bytes ≡ whole_reading (reading ts) ts
  from_tokens = ap (reads_tokens reading) is

  pub none_read : reading ts ≡ None → reads reading bytes ≡ Err syntax_fault
  none_read e = from_tokens ∙ ap (λ r. whole_reading r ts) e

  some_read : (x : A) (n : ℕ) (all : Bool) → reading ts ≡ Some (x, n) → eqb n (length ts) ≡ all → reads reading bytes ≡ elim all [ true ↦ checked x ts | false ↦ Err syntax_fault ]
  some_read x n true e f = from_tokens ∙ ap (λ r. whole_reading r ts) e ∙ rw f refl
  some_read x n false e f = from_tokens ∙ ap (λ r. whole_reading r ts) e ∙ rw f refl

  pub large_read : (x : A) (n : ℕ) → reading ts ≡ Some (x, n) → n ≡ length ts → list_any is_large ts ≡ true → reads reading bytes ≡ Err overflow
  large_read x n e f g = some_read x n true e (eq-eqb n (length ts) f) ∙ rw g refl

  pub whole_read : (x : A) (n : ℕ) → reading ts ≡ Some (x, n) → n ≡ length ts → list_any is_large ts ≡ false → reads reading bytes ≡ Ok x
  whole_read x n e f g = some_read x n true e (eq-eqb n (length ts) f) ∙ rw g refl

-- an error goes through
pub more_stops : {X A : Type 0} (m : More X) (all : Reading A) (error : Stop) → IsMore (Err error) m → (m ≡ wrong → all ≡ None) → IsRead (Err error) all
more_stops m all NoReading h f = f h
more_stops m all Memory h f = tt

pub read_stops : {X A : Type 0} (r : Reading X) (all : Reading A) (error : Stop) → IsRead (Err error) r → (r ≡ None → all ≡ None) → IsRead (Err error) all
read_stops r all NoReading h f = f h
read_stops r all Memory h f = tt

pub read_ends : {X A : Type 0} (r : Reading X) (m : More A) (error : Stop) → IsRead (Err error) r → (r ≡ None → m ≡ wrong) → IsMore (Err error) m
read_ends r m NoReading h f = f h
read_ends r m Memory h f = tt

pub stop_is : {A S : Type 0} (code : A → List S) (old new : List S) (r : Reading A) (error : Stop) → Adds code (Err error) old new r → IsRead (Err error) r
stop_is code old new r NoReading h = h
stop_is code old new r Memory h = tt

-- steps that a reading made
pub made_of_operand : (r : Reading Operand) (steps : List Step) (n : ℕ) → added steps_of [] r ≡ Some (steps, n) → AreOfOperand steps
made_of_operand r steps n e =
    let p = parts steps_of [] r steps n e in
    let is : steps_of p.value ≡ steps = p.list in
    ap steps_of (ap operand_of (sym is) ∙ operand_of-steps_of p.value) ∙ is

pub operand_made : (r : Reading Operand) (steps : List Step) (n : ℕ) → added steps_of [] r ≡ Some (steps, n) → r ≡ Some (operand_of steps, n)
operand_made r steps n e =
    let p = parts steps_of [] r steps n e in
    let is : steps_of p.value ≡ steps = p.list in
    p.read ∙ ap (λ x. Some (x, n)) (sym (operand_of-steps_of p.value) ∙ ap operand_of is)
