-- Calls of an output in memory.
use Rattle.std.proofs.Common.{◌≡◌, ℕ, true, false, List, refl, sym, ap, ◌∙◌, Some}
use Rattle.std.specs.Prelude.{OnOk, Result, Ok, Err}
use Rattle.std.specs.FinMap.{contains_key, contains_key-keys, get, keys}
use Rattle.site_base.specs.Places.{Files, is_listed}
use Rattle.out_tree.specs.Device.{Tells, done_one}
use Rattle.out_tree.specs.declared.step.Step.{Step}

-- a step that failed and changed no file
pub tells_same : (old new : Files) (step : Step) → new ≡ old → Tells (Some old) (Some new) step false
tells_same old new step same = λ files is. (new, refl, λ q _. ap (λ (m : Files). get m q) (same ∙ told old files is))
  where
    told : (a b : Files) → Some a ≡ Some b → a ≡ b
    told a b e = cc (e)

-- a step that was done
pub tells_done : (old new : Files) (step : Step) → new ≡ done_one old step → Tells (Some old) (Some new) step true
tells_done old new step done = λ files is. (new, refl, done ∙ ap (λ (m : Files). done_one m step) (told old files is))
  where
    told : (a b : Files) → Some a ≡ Some b → a ≡ b
    told a b e = cc (e)

pub listed_exact : (files : Files) (paths : List (List ℕ)) (ks : List (List ℕ)) → paths ≡ ks → ks ≡ keys files → (told : Files) → Some files ≡ Some told → (q : List ℕ) → is_listed q paths ≡ contains_key told q
listed_exact files paths ks is those told same q =
    ap (is_listed q) (is ∙ those) ∙ sym (contains_key-keys files q) ∙ ap (λ (m : Files). contains_key m q) (let e : files ≡ told = cc (same) in e)

pub on_ok : {E : Type 0} (r : Result (Unit {0}) E) (P Q : Type 0) → (P → Q) → OnOk r P → OnOk r Q
on_ok (Ok x) P Q f p = f p
on_ok (Err x) P Q f p = p
