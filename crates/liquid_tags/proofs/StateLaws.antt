-- What is written, and what calls that look nothing up do one after another.
use Rattle.std.proofs.Common.{◌≡◌, ◌∙◌, ap, sym, refl, ◌+◌, ◌++◌, List, ℕ, length, true, false, Result, Ok, Err}
use Rattle.std.specs.Prelude.{nat_lt}
use Rattle.site_base.specs.declared.faults.FaultKind.{FaultKind}
use Rattle.site_base.specs.declared.faults.SiteFault.{SiteFault}
use Rattle.read_record.specs.Queries.{Query, Give, Fail, bind}
use Rattle.read_record.specs.declared.stop.Stop.{Stop}
use Rattle.read_record.specs.declared.stop.Stop.TheVariants as stop
use Rattle.filter_base.specs.Limits.{most_text}
use Rattle.liquid_values.specs.Answers.{FoundAt, IsFault, Settles}
use Rattle.liquid_values.specs.Places.{Place, fault_at, found_at}
use Rattle.liquid_tags.specs.Answers.{Pushes}
use Rattle.liquid_tags.specs.States.{with_out, written_or}
use Rattle.liquid_tags.specs.declared.state.State.{State}

module _ (fault : SiteFault) (t : List ℕ) (s : State) where
  -- where there would be too much
  pub refuses : (e : Stop SiteFault) (now : State) → nat_lt most_text (length s.out + length t) ≡ true → IsFault fault e → Settles (written_or fault t s) (Err e) now
  refuses (stop.Fault f) now h g = rw h (ap Fail g)
  refuses (stop.Needs j) now h g = absurd g
  refuses stop.Memory now h g = tt

  -- and where there would not
  pub pushes : (x : Result (Unit {0}) (Stop SiteFault)) (now : State) → nat_lt most_text (length s.out + length t) ≡ false → Pushes (with_out (s.out ++ t) s) x now → Settles (written_or fault t s) x now
  pushes (Ok done) now h g = rw h (ap Give (sym g))
  pushes (Err (stop.Fault f)) now h g = absurd g
  pushes (Err (stop.Needs j)) now h g = absurd g
  pushes (Err stop.Memory) now h g = tt

module _ {F A B : Type 0} (q : Query F A) (next : A → Query F B) where
  pub settles_bind : (a : A) (x : Result (Unit {0}) (Stop F)) (b : B) → q ≡ Give a → Settles (next a) x b → Settles (bind q next) x b
  settles_bind a x b h g = rw h g

  pub settles_stop : (e : Stop F) (a : A) (b : B) → Settles q (Err e) a → Settles (bind q next) (Err e) b
  settles_stop (stop.Fault f) a b h = rw h refl
  settles_stop (stop.Needs j) a b h = absurd h
  settles_stop stop.Memory a b h = tt

module _ {A B : Type 0} (p : Place) (r : Result A FaultKind) (next : A → Query SiteFault B) where
  pub settles_found : (a : A) (x : Result (Unit {0}) (Stop SiteFault)) (b : B) → FoundAt p r (Ok a) → Settles (next a) x b → Settles (bind (found_at p r) next) x b
  settles_found a x b h g = go r h
    where
      go : (r : Result A FaultKind) → FoundAt p r (Ok a) → Settles (bind (found_at p r) next) x b
      go (Ok c) e = rw e g
      go (Err k) e = absurd e

  pub settles_fault : (e : Stop SiteFault) (b : B) → FoundAt p r (Err e) → Settles (bind (found_at p r) next) (Err e) b
  settles_fault e b h = go r e h
    where
      go : (r : Result A FaultKind) (e : Stop SiteFault) → FoundAt p r (Err e) → Settles (bind (found_at p r) next) (Err e) b
      go (Ok c) e h = absurd h
      go (Err k) (stop.Fault f) h = ap Fail h
      go (Err k) (stop.Needs j) h = absurd h
      go (Err k) stop.Memory h = tt

pub ruleset settled = (settles_bind, settles_stop, settles_found, settles_fault)
