-- Which file an include names, and the value of `include`.
use Rattle.std.proofs.Common.{◌≡◌, ◌∙◌, ◌<◌, ap, refl, arith, ℕ, Bool, true, false, List, [], ◌∷◌, length, Option, Some, None, Result, Ok, Err}
use Rattle.std.specs.Prelude.{is_none, if◌then◌else◌}
use Rattle.site_base.specs.Path.{path_refusal}
use Rattle.site_base.specs.Plain.{Plain, Pairs}
use Rattle.site_base.specs.View.{plain}
use Rattle.site_base.specs.declared.faults.FaultKind.{FaultKind}
use Rattle.site_base.specs.declared.faults.SiteFault.{SiteFault}
use Rattle.site_base.specs.declared.value.Value.{Value}
use Rattle.read_record.specs.declared.key.Key.{Key}
use Rattle.read_record.specs.declared.key.Key.TheVariants.{File}
use Rattle.read_record.specs.Answers.{Stops}
use Rattle.read_record.specs.Queries.{Fail, View, Trace, FailedAt, run}
use Rattle.read_record.specs.declared.stop.Stop.{Stop}
use Rattle.read_record.specs.declared.stop.Stop.TheVariants as stop
use Rattle.filter_base.specs.Answers.{fitted}
use Rattle.filter_base.specs.Limits.{excess, fits, unless}
use Rattle.filter_base.specs.declared.stop.Filtered.{Filtered}
use Rattle.filter_base.specs.declared.stop.Filtered.TheVariants as filtered
use Rattle.liquid_values.specs.Answers.{AnsweredAt, FoundAt, IsFault, IsKnown, in_plain}
use Rattle.liquid_values.specs.Places.{Place}
use Rattle.liquid_grammar.specs.declared.expression.Parameter.{Parameter}
use Rattle.liquid_values.specs.Names.{Excerpting}
use Rattle.liquid_tags.specs.Includes.{if_path, path_or_none, include_value, some_given}
use Rattle.liquid_tags.specs.declared.includes.Wanted.{Wanted}

abbrev wanted_at : List ℕ → Key → Wanted
wanted_at file key = record { file = file; key = key }

module _ (t : List ℕ) where
  pub path_is : (file : List ℕ) → Some file ≡ path_or_none t → file ≡ t
  path_is file e = go (is_none (path_refusal t)) e
    where
      go : (b : Bool) → Some file ≡ (if b then Some t else None) → file ≡ t
      go true h = cc
      go false h = cc

  pub wanted_some : (file : List ℕ) (key : Key) → Some file ≡ path_or_none t → Some (wanted_at file key) ≡ if_path (wanted_at t key)
  wanted_some file key e = go (is_none (path_refusal t)) e
    where
      go : (b : Bool) → Some file ≡ (if b then Some t else None) → Some (wanted_at file key) ≡ (if b then Some (wanted_at t key) else None)
      go true h = let same : file ≡ t = cc in ap (λ (f : List ℕ). Some (wanted_at f key)) same
      go false h = cc

  pub wanted_file : (file copy : List ℕ) → Some file ≡ path_or_none t → copy ≡ file → Some (wanted_at file (File copy)) ≡ if_path (wanted_at t (File t))
  wanted_file file copy e h = ap (λ (f : List ℕ). Some (wanted_at file (File f))) (h ∙ path_is file e) ∙ wanted_some file (File t) e

  pub wanted_none : (key : Key) → None ≡ path_or_none t → None ≡ if_path (wanted_at t key)
  wanted_none key e = go (is_none (path_refusal t)) e
    where
      go : (b : Bool) → None ≡ (if b then Some t else None) → None ≡ (if b then Some (wanted_at t key) else None)
      go true h = cc
      go false h = cc

-- ---- A value within the limits

abbrev fitted_by : Value → Option FaultKind → Filtered
fitted_by v o = elim o [ Some k ↦ filtered.Fault k | None ↦ filtered.Value v ]

pub fitted_known : (v : Value) → IsKnown (fitted v)
fitted_known v = go (excess (plain v))
  where
    go : (o : Option FaultKind) → IsKnown (fitted_by v o)
    go (Some k) = tt
    go None = tt

pub fitted_found : (p : Place) (v : Value) (x : Result Value (Stop SiteFault)) → AnsweredAt p (fitted v) x → FoundAt p (fits (plain v)) (in_plain x)
fitted_found p v x h = go (excess (plain v)) x h
  where
    go : (o : Option FaultKind) (x : Result Value (Stop SiteFault)) → AnsweredAt p (fitted_by v o) x → FoundAt p (unless (plain v) o) (in_plain x)
    go (Some k) (Ok w) h = absurd h
    go (Some k) (Err e) h = h
    go None (Ok w) h = h
    go None (Err e) h = absurd h

-- ---- The fault of the tag

pub fault_stops : (A : Type 0) (view : View) (t : Trace) (f : SiteFault) (e : Stop SiteFault) → IsFault f e → Stops (run {A = A} view t (Fail f)) e t
fault_stops A view t f (stop.Fault g) h = ap (λ k. FailedAt k t) h
fault_stops A view t f (stop.Needs j) h = absurd h
fault_stops A view t f stop.Memory h = tt

-- ---- The value of `include`

pub given_some : (excerpts : Excerpting) (p : Place) (vars : Pairs) (ps : List Parameter) → 0 < length ps → include_value excerpts p vars ps ≡ some_given excerpts p vars ps
given_some excerpts p vars [] some = absurd (omega (arith, some))
given_some excerpts p vars (q ∷ qs) some = refl
