-- How long a file is, as far as that counts.
use Rattle.std.specs.Prelude.{◌≡◌, ℕ, List, length, take, Result, Option, Some, IfOk}
use Rattle.std.specs.FinMap.{get}
use Rattle.site_base.specs.Places.{Files}

-- when the end tells its files, the count is that of the bytes which would be read of the file: all, or one more than a file may have
abbrev pub Measures : {E : Type 0} → Option Files → List ℕ → Result ℕ E → Type 0
Measures told path result = (files : Files) (bytes : List ℕ) → told ≡ Some files → get files path ≡ Some bytes → IfOk result (λ count. count ≡ length (take 16777217 bytes))
