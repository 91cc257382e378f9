-- Results one after another.
use Rattle.std.specs.Prelude.{Result, Ok, Err}

-- what is found first, and where it is no error what is found then
infixl 10 ◌>>=◌
abbrev pub ◌>>=◌ : {A B E : Type 0} → Result A E → (A → Result B E) → Result B E
(Ok x) >>= f = f x
(Err e) >>= f = Err e
