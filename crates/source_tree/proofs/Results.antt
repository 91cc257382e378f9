-- What follows of an answer where it is there.
use Rattle.std.proofs.Common.{◌≡◌, true, Bor, Err, IfOk, IsSome, Ok, Option, None, Result, Some, refl}
use Rattle.std.specs.Option.{is_some, option_copied}

pub if_ok : {T E : Type 0} (P Q : T → Type 0) (result : Result T E) → ((x : T) → P x → Q x) → IfOk result P → IfOk result Q
if_ok P Q (Ok x) turn h = turn x h
if_ok P Q (Err e) turn h = h

pub some_lent : {X : Type 0} (o : Option (Bor X)) → is_some (option_copied o) ≡ true → IsSome o
some_lent None e = absurd (cc (e))
some_lent (Some x) e = refl
