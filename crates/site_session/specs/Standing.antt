-- Where a session stands.
use Rattle.std.specs.Prelude.{◌≡◌, ◌↔◌, ℕ, ℤ, Bool, true, false, List, Option, Some, None, refl}
use Rattle.std.specs.Coded.{Coded, code_by, coded×, coded_ℕ, coded_ℤ, coded_bool, coded_list}
use Rattle.std.specs.FinMap as map
use Rattle.std.specs.FinMap.{get}
use Rattle.site_base.specs.Places.{Files, is_listed}
use Rattle.out_tree.specs.Belief.{Belief, believed, IsTrueOf}
use Rattle.out_tree.specs.BeliefCode.{belief_code}
use Rattle.out_tree.specs.Exact.{IsExactlyBut}
use Rattle.out_tree.specs.Keep.{is_kept}
use Rattle.out_tree.specs.declared.state.State.TheVariants.{Marked}
use Rattle.site_base.specs.declared.settings.Settings.{Settings}
use Rattle.memo_table.specs.Entries.{Entries}
use Rattle.site_session.specs.declared.output.Written.{Written}

-- the files that are held, the moment, the settings, what is kept of the items that were rendered, what is believed of the
-- output (nothing until it has been listed), the base of its addresses, and its pages as they were looked at last
pub record Standing : Type 0 where
  pub files : Files
  pub moment : ℤ
  pub settings : Settings
  pub kept : Entries
  pub belief : Option Belief
  pub base : List ℕ
  pub scanned : Files

abbrev files_code : Coded Files
files_code = map.code (coded_list coded_ℕ) (coded_list coded_ℕ)

abbrev settings_code : Coded Settings
settings_code = code_by (Bool × Bool) (coded× coded_bool coded_bool) (λ s. (s.drafts, s.future)) (λ p. record { drafts = p.0; future = p.1 }) (λ _. refl)

abbrev pub standing_code : Coded Entries → Coded Standing
standing_code entries =
    code_by (Files × (ℤ × (Settings × (Entries × (Option Belief × (List ℕ × Files))))))
    (coded× files_code (coded× coded_ℤ (coded× settings_code (coded× entries (coded× belief_code (coded× (coded_list coded_ℕ) files_code))))))
    (λ s. (s.files, (s.moment, (s.settings, (s.kept, (s.belief, (s.base, s.scanned)))))))
    (λ p. record { files = p.0; moment = p.1.0; settings = p.1.1.0; kept = p.1.1.1.0; belief = p.1.1.1.1.0; base = p.1.1.1.1.1.0; scanned = p.1.1.1.1.1.1 }) (λ _. refl)

-- an output that has not been listed is as it was at first
abbrev pub TrueTo : Option Belief → Files → Files → Type 0
TrueTo None first files = files ≡ first
TrueTo (Some belief) first files = IsTrueOf belief files

-- the output tells its contents, and what is believed is true of them
pub record Holds (told : Option Files) (belief : Option Belief) (first : Files) : Type 0 where
  pub there : Files
  pub told_is : told ≡ Some there
  pub is_true : TrueTo belief first there

-- but for these paths, the output was made exactly this tree, kept paths aside
pub record MakesBut (failed : List (List ℕ)) (written : Written) (told tells : Option Files) : Type 0 where
  pub old : Files
  pub new : Files
  pub told_is : told ≡ Some old
  pub tells_is : tells ≡ Some new
  pub exactly : IsExactlyBut failed written.tree written.keep old new

-- kept paths aside, these and no others are marked
abbrev pub MarksExactly : List (List ℕ) → List (List ℕ) → Option Belief → Type 0
MarksExactly failed keep belief = (path : List ℕ) → is_kept keep path ≡ false → (get (believed belief) path ≡ Some Marked) ↔ (is_listed path failed ≡ true)
