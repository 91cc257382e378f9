-- A source in memory.
use Rattle.std.specs.Prelude.{ℕ, List, Vec, refl}
use Rattle.std.specs.Coded.{Coded, code_by, coded×, coded_list, coded_ℕ}
use Rattle.std.specs.FinMap.{FinMap, code, entries, from_sorted}
use Rattle.std.specs.declared.alloc.Global.{Global}
use Rattle.site_base.specs.Places.{path_cmp, Files}
use Rattle.source_tree.specs.Put.{plain}

-- its files, the calls at which it fails, and counts of calls and of failures
pub record SourceState : Type 0 where
  pub files : Files
  pub fail : List ℕ
  pub calls : ℕ
  pub failures : ℕ

-- how a proof tells two states apart
abbrev pub state_code : Coded SourceState
state_code =
    code_by (Files × (List ℕ × (ℕ × ℕ)))
    (coded× (code (coded_list coded_ℕ) (coded_list coded_ℕ)) (coded× (coded_list coded_ℕ) (coded× coded_ℕ coded_ℕ)))
    (λ s. (s.files, (s.fail, (s.calls, s.failures))))
    (λ t. record { files = t.0; fail = t.1.0; calls = t.1.1.0; failures = t.1.1.1 })
    (λ s. refl)

-- a map's files, with their bytes as lists
abbrev pub plain_files : FinMap path_cmp (Vec ℕ Global) → Files
plain_files files = from_sorted (plain (entries files))
