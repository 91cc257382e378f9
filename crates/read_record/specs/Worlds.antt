-- What a site answers.
use Rattle.std.specs.Prelude.{◌≡◌, ℕ, ◌<◌, Bool, true, false, Option, Some}
use Rattle.site_base.specs.Plain.{Plain}
use Rattle.read_record.specs.declared.key.Key.{Key}
use Rattle.read_record.specs.declared.key.Key.TheVariants.{Content, Output}
use Rattle.read_record.specs.declared.outcome.Outcome.{Outcome}
use Rattle.read_record.specs.Queries.{View, Known, Missing}
use Rattle.read_record.specs.Outcomes.{is_done}

-- the view that a reader has where these outcomes are known
abbrev pub Sight : Type 0
Sight = ℕ → (ℕ → Option Outcome) → View

-- what a key gives rests on no outcome
abbrev pub is_steady : Key → Bool
is_steady (Content name) = false
is_steady (Output name) = false
is_steady _ = true

-- what is answered rests on the outcomes of earlier items, and stays where more are known; what is missed is an earlier item that is not done; a
-- key that rests on no outcome is answered alike for all readers
pub record Lawful (sight : Sight) : Type 0 where
  pub grows : (reader : ℕ) (known more : ℕ → Option Outcome) → ((j : ℕ) (o : Outcome) → j < reader → known j ≡ Some o → more j ≡ Some o)
      → (k : Key) (v : Plain) → sight reader known k ≡ Known v → sight reader more k ≡ Known v
  pub misses : (reader : ℕ) (known : ℕ → Option Outcome) (k : Key) (j : ℕ) → sight reader known k ≡ Missing j → (j < reader) × (is_done (known j) ≡ false)
  pub steady : (k : Key) → is_steady k ≡ true → (reader other : ℕ) (known more : ℕ → Option Outcome) → sight reader known k ≡ sight other more k
