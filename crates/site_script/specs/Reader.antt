-- What a reader of a script knows.
use Rattle.std.specs.Prelude.{ℕ, Bool}

-- the number of the line read last, and whether no line comes any more
pub record ReaderState : Type 0 where
  pub lines : ℕ
  pub over : Bool
