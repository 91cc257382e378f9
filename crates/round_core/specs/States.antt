-- The state of a round: who claimed which items, what the cells hold, and which items each worker knows.
use Rattle.std.specs.Prelude.{◌≡◌, ℕ, Bool, false, cond, eqb, List, [], ◌∷◌, ◌++◌, Option, Some, None, refl}
use Rattle.std.specs.Coded.{Coded, code_by, coded×, coded_list, coded_option, coded_ℕ}
use Rattle.std.specs.List.{list_any}
use Rattle.read_record.specs.declared.outcome.Outcome.{Outcome}
use Rattle.read_record.specs.Entries.{Kept}
use Rattle.round_core.specs.declared.made.Made.{Made}
use Rattle.round_core.specs.declared.made.Made.TheVariants as made
use Rattle.round_core.specs.Meant.{Given, kept_at}

-- items with the workers that claimed them, items with what their cells hold, workers with the items that they know
pub record State (M : Type 0) : Type 0 where
  pub claims : List (ℕ × ℕ)
  pub cells : List (ℕ × Made M)
  pub known : List (ℕ × List ℕ)

abbrev pub nobody : {M : Type 0} → State M
nobody = record { claims = []; cells = []; known = [] }

module _ {M : Type 0} where
  abbrev pub own_of : Made M → Option Kept
  own_of made.Kept = None
  own_of (made.New e) = Some e

  abbrev pub made_of : Option Kept → Made M
  made_of None = made.Kept
  made_of (Some e) = made.New e

  pub made_of-own : (m : Made M) → made_of (own_of m) ≡ m
  made_of-own made.Kept = refl
  made_of-own (made.New e) = refl

  abbrev pub state_code : Coded Kept → Coded (State M)
  state_code kept =
      code_by (List (ℕ × ℕ) × (List (ℕ × Made M) × List (ℕ × List ℕ)))
      (coded× (coded_list (coded× coded_ℕ coded_ℕ)) (coded× (coded_list (coded× coded_ℕ (code_by (Option Kept) (coded_option kept) own_of made_of made_of-own))) (coded_list (coded× coded_ℕ (coded_list coded_ℕ)))))
      (λ s. (s.claims, (s.cells, s.known))) (λ p. record { claims = p.0; cells = p.1.0; known = p.1.1 }) (λ s. refl)

-- what stands beside a number
abbrev pub at : {A : Type 0} → ℕ → List (ℕ × A) → Option A
at i [] = None
at i (p ∷ ps) = cond (eqb p.0 i) (Some p.1) (at i ps)

abbrev pub has : ℕ → List ℕ → Bool
has i js = list_any (λ j. eqb j i) js

abbrev pub is_in : ℕ → Option (List ℕ) → Bool
is_in i (Some js) = has i js
is_in i None = false

abbrev pub knows : ℕ → ℕ → List (ℕ × List ℕ) → Bool
knows w i known = is_in i (at w known)

-- a worker knows one item more
abbrev pub with_known : ℕ → ℕ → List (ℕ × List ℕ) → List (ℕ × List ℕ)
with_known w i [] = (w, i ∷ []) ∷ []
with_known w i (p ∷ ps) = cond (eqb p.0 w) ((p.0, p.1 ++ i ∷ []) ∷ ps) (p ∷ with_known w i ps)

abbrev pub its_outcome : Option Kept → Option Outcome
its_outcome (Some e) = Some e.outcome
its_outcome None = None

module _ {M : Type 0} where
  -- the entry that a cell stands for
  abbrev pub shown : Option Kept → Option (Made M) → Option Kept
  shown kept None = None
  shown kept (Some made.Kept) = kept
  shown kept (Some (made.New e)) = Some e

  abbrev pub cell_entry : Given → State M → ℕ → Option Kept
  cell_entry g s i = shown (kept_at g i) (at i s.cells)

  -- the outcomes of the items that a worker knows
  abbrev pub outs : Given → State M → ℕ → ℕ → Option Outcome
  outs g s w i = cond (knows w i s.known) (its_outcome (cell_entry g s i)) None

  -- ---- one thing more

  abbrev pub with_claim : ℕ → ℕ → State M → State M
  with_claim w i s = record { claims = s.claims ++ (i, w) ∷ []; cells = s.cells; known = s.known }

  abbrev pub with_cell : ℕ → Made M → State M → State M
  with_cell i m s = record { claims = s.claims; cells = s.cells ++ (i, m) ∷ []; known = s.known }

  abbrev pub knowing : ℕ → ℕ → State M → State M
  knowing w i s = record { claims = s.claims; cells = s.cells; known = with_known w i s.known }
