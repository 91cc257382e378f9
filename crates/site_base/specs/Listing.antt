-- What an end that holds files tells of them.
use Rattle.std.specs.Prelude.{◌≡◌, ℕ, List, take, Result, Option, Some, IfOk, IsTrue, Vec}
use Rattle.std.specs.declared.alloc.Global.{Global}
use Rattle.std.specs.FinMap.{get, contains_key}
use Rattle.site_base.specs.Places.{Files, is_listed, AllDiffer}

-- where the end tells its files, it has this path
abbrev pub Has : Option Files → List ℕ → Type 0
Has told path = (files : Files) → told ≡ Some files → IsTrue (contains_key files path)

-- a list has differing paths, and where the end tells its files exactly theirs
pub record Lists {E : Type 0} (told : Option Files) (result : Result (Vec (List ℕ) Global) E) : Type 0 where
  pub differ : IfOk result (λ paths. AllDiffer paths.items)
  pub exact : (files : Files) → told ≡ Some files → IfOk result (λ paths. (q : List ℕ) → is_listed q paths.items ≡ contains_key files q)

-- where the end tells its files, the bytes are the file's, cut after one more than a file may have
abbrev pub Reads : {E : Type 0} → Option Files → List ℕ → Result (Vec ℕ Global) E → Type 0
Reads told path result = (files : Files) (bytes : List ℕ) → told ≡ Some files → get files path ≡ Some bytes → IfOk result (λ read. read.items ≡ take 16777217 bytes)
