-- An output in memory.
use Rattle.std.specs.Prelude.{◌≡◌, ◌+◌, ◌-◌, ◌^◌, min, ℕ, Bool, true, false, ◌==◌, ◌||◌, List, [], ◌∷◌, Option, Vec, if◌then◌else◌}
use Rattle.std.specs.List.{list_any}
use Rattle.std.specs.FinMap.{FinMap, keys}
use Rattle.std.specs.declared.alloc.Global.{Global}
use Rattle.site_base.specs.Places.{path_cmp, Files}
use Rattle.site_base.specs.Clash.{has_below, has_folder}
use Rattle.out_tree.specs.Device.{done_one, Calls}
use Rattle.out_tree.specs.Values.{map_values}
use Rattle.out_tree.specs.declared.step.Step.{Step}
use Rattle.out_tree.specs.declared.step.Step.TheVariants.{Remove, Write}
use Rattle.out_tree.specs.declared.step.Call.{Call}
use Rattle.out_tree.specs.declared.step.Call.TheVariants as call

-- its files, its calls where it tells them, the calls at which it fails, and counts of calls, of failures and of wants of memory
pub record OutState : Type 0 where
  pub files : Files
  pub told : Option (List Call)
  pub fail : List ℕ
  pub calls : ℕ
  pub failures : ℕ
  pub short : ℕ

-- a map's files, with their bytes as lists
abbrev pub plain_files : FinMap path_cmp (Vec ℕ Global) → Files
plain_files files = map_values (λ bytes. bytes.items) files

-- a u64 count, one later, which stands at its last value
abbrev pub next : ℕ → ℕ
next count = min (count + 1) (2 ^ 64 - 1)

-- the next call is to fail
abbrev pub is_listed_call : OutState → Bool
is_listed_call out = list_any (λ call. call == next out.calls) out.fail

-- the path is a folder of a file, or a file is a folder of the path
abbrev pub stands_in_way : Files → List ℕ → Bool
stands_in_way files path = has_below path (keys files) || has_folder path (keys files)

-- a step that fails, whatever memory there is
abbrev pub is_refused : OutState → Step → Bool
is_refused out (Remove path) = is_listed_call out
is_refused out (Write path bytes) = is_listed_call out || stands_in_way out.files path

-- what a call changes that changes no file: it is counted, and told where there was memory to note it
pub record Counts (old new : OutState) (made : Call) (ok : Bool) : Type 0 where
  pub told : Calls old.told new.told (made ∷ [])
  pub fail : new.fail ≡ old.fail
  pub calls : new.calls ≡ next old.calls
  pub failures : new.failures ≡ (if ok then old.failures else next old.failures)

-- a step is done where it succeeds, and changes no file where it fails. It fails where it is refused, and besides only for want of memory, which `short` counts
pub record Tries (old new : OutState) (step : Step) (ok : Bool) : Type 0 where
  pub counts : Counts old new (call.Try step) ok
  pub files : new.files ≡ (if ok then done_one old.files step else old.files)
  pub refused : is_refused old step ≡ true → ok ≡ false
  pub short : new.short ≡ (if ok || is_refused old step then old.short else next old.short)
