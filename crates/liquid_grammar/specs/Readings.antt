-- Readings: what the tokens at the front of a list say, and how many they are.
use Rattle.std.specs.Prelude.{ℕ, zero, suc, ◌+◌, ◌-◌, List, [], ◌∷◌, length, ◌==◌, if◌then◌else◌, Option, Some, None, Result, Ok, Err}
use Rattle.std.specs.List.{list_any}
use Rattle.liquid_grammar.specs.Tokens.{Token, is_large, tokens}

abbrev pub Reading : Type 0 → Type 0
Reading A = Option (A × ℕ)

infixl 10 ◌>>=◌
abbrev pub ◌>>=◌ : {A B : Type 0} → Reading A → (A × ℕ → Reading B) → Reading B
(Some x) >>= f = f x
None >>= f = None

-- the same reading, after n more tokens
abbrev pub after : {A : Type 0} → ℕ → Reading A → Reading A
after n (Some x) = Some (x.0, n + x.1)
after n None = None

-- what may come again and again: nothing more, something wrong, or one more with its number of tokens
pub data More (A : Type 0) : Type 0 where
  stop : More A
  wrong : More A
  one : (x : A) → (n : ℕ) → More A

abbrev pub more_of : {A : Type 0} → Reading A → More A
more_of (Some x) = one x.0 x.1
more_of None = wrong

abbrev pub with_first : {A : Type 0} → A → Reading (List A) → Reading (List A)
with_first x (Some r) = Some (x ∷ r.0, r.1)
with_first x None = None

-- as many as there are, in tokens of which the first are passed over and counted
unfoldable pub many_after : {A : Type 0} → (List Token → More A) → ℕ → List Token → Reading (List A)
many_after next passed [] = Some ([], 0)
many_after next (suc passed) (t ∷ ts) = after 1 (many_after next passed ts)
many_after next zero (t ∷ ts) = elim (next (t ∷ ts)) [
  | stop ↦ Some ([], 0)
  | wrong ↦ None
  | one x n ↦ with_first x (after 1 (many_after next (n - 1) ts))
]

-- as many as there are
abbrev pub many : {A : Type 0} → (List Token → More A) → List Token → Reading (List A)
many next ts = many_after next 0 ts

-- ---- Whole texts

-- why a text is refused
pub data Refusal : Type 0 where
  -- it has no reading
  syntax_fault : Refusal
  -- it has one, and a whole number in it is no i64
  overflow : Refusal

abbrev pub checked : {A : Type 0} → A → List Token → Result A Refusal
checked x ts = if list_any is_large ts then Err overflow else Ok x

-- a reading of all of the tokens
abbrev pub whole_reading : {A : Type 0} → Reading A → List Token → Result A Refusal
whole_reading (Some x) ts = if x.1 == length ts then checked x.0 ts else Err syntax_fault
whole_reading None ts = Err syntax_fault

abbrev pub reads_tokens : {A : Type 0} → (List Token → Reading A) → Option (List Token) → Result A Refusal
reads_tokens reading (Some ts) = whole_reading (reading ts) ts
reads_tokens reading None = Err syntax_fault

-- what a text says as a whole
abbrev pub reads : {A : Type 0} → (List Token → Reading A) → List ℕ → Result A Refusal
reads reading bytes = reads_tokens reading (tokens bytes)
