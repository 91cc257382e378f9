-- What the ends of a session show at one moment, and the tally.
use Rattle.std.specs.Prelude.{◌≡◌, ◌+◌, ◌-◌, ◌^◌, ◌≤◌, min, ℕ, List, Option}
use Rattle.out_tree.specs.declared.step.Call.{Call}
use Rattle.site_base.specs.Places.{Files}
use Rattle.site_base.specs.declared.item_name.ItemName.{ItemName}

-- a source: itself, its files where it tells them, and how often it failed
pub record SourceSeen (S : Type 0) : Type 0 where
  pub value : S
  pub files : Option Files
  pub failures : ℕ

abbrev pub source_seen : {S : Type 0} → (S → Option Files) → (S → ℕ) → S → SourceSeen S
source_seen files failures source = record { value = source; files = files source; failures = failures source }

-- an output: itself, its files and the calls that it had where it tells them, and how often it failed
pub record OutputSeen (D : Type 0) : Type 0 where
  pub value : D
  pub files : Option Files
  pub calls : Option (List Call)
  pub failures : ℕ

abbrev pub output_seen : {D : Type 0} → (D → Option Files) → (D → Option (List Call)) → (D → ℕ) → D → OutputSeen D
output_seen files calls failures output = record { value = output; files = files output; calls = calls output; failures = failures output }

-- what a line of a session may change besides the session itself
pub record Scene (S D : Type 0) : Type 0 where
  pub source : SourceSeen S
  pub output : OutputSeen D
  pub tally : List ItemName

-- the scene of these ends, each seen by what it tells
abbrev pub scene : {S D : Type 0} → (S → Option Files) → (S → ℕ) → (D → Option Files) → (D → Option (List Call)) → (D → ℕ) → S → D → List ItemName → Scene S D
scene source_files source_failures output_files output_calls output_failures source output tally = record {
  source = source_seen source_files source_failures source;
  output = output_seen output_files output_calls output_failures output;
  tally = tally;
}

-- a count of failures, which stays at the last u64, rose by at least what is shown, and stayed where nothing is shown
pub record Rises (shown before now : ℕ) : Type 0 where
  pub later : before ≤ now
  pub cause : min (before + shown) (2 ^ 64 - 1) ≤ now
  pub steady : shown ≡ 0 → now ≡ before
