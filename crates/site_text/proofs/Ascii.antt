-- Beyond ASCII a class has all bytes or none.
use Rattle.std.proofs.Common.{◌≡◌, Bool, List, [], arith, codes, false, refl, true, ℕ, ◌&&◌, ◌==◌, ◌∷◌, ◌≤◌, nat_lt}
use Rattle.std.specs.List.{list_all}
use Rattle.site_text.specs.Bytes.{is_one_of}
use Rattle.site_text.specs.Classes.{is_in}
use Rattle.site_text.specs.declared.classes.Class.{Class}
use Rattle.site_text.specs.declared.classes.Class.TheVariants.{Address, Alphanumeric, AttributeName, NoWhite, Digit, HexDigit, Hyphenated, Literal, Mailbox, Name, NoDoubleQuote, NoSingleQuote, Plain, Scheme, Space, Textual, Unquoted}

abbrev pub beyond : Class → Bool
beyond Space = false
beyond NoWhite = true
beyond Digit = false
beyond HexDigit = false
beyond Alphanumeric = false
beyond Hyphenated = false
beyond Name = false
beyond AttributeName = false
beyond Unquoted = true
beyond NoSingleQuote = true
beyond NoDoubleQuote = true
beyond Scheme = false
beyond Address = true
beyond Mailbox = false
beyond Literal = true
beyond Textual = true
beyond Plain = true

differs : (d c : ℕ) → nat_lt d 128 ≡ true → 128 ≤ c → (d == c) ≡ false
differs d c h k = grind arith

and_first : (a b : Bool) → (a && b) ≡ true → a ≡ true
and_first true b h = refl
and_first false b h = h

and_second : (a b : Bool) → (a && b) ≡ true → b ≡ true
and_second true b h = h
and_second false b h = absurd cc

none_listed : (w : List ℕ) (c : ℕ) → list_all (λ d. nat_lt d 128) w ≡ true → 128 ≤ c → is_one_of w c ≡ false
none_listed [] c h k = refl
none_listed (d ∷ ds) c h k = go (d == c) (differs d c (and_first _ _ h) k) (none_listed ds c (and_second _ _ h) k) where
  go : (b : Bool) → b ≡ false → is_one_of ds c ≡ false → elim b as (λ x. Bool) [ true ↦ true | false ↦ is_one_of ds c ] ≡ false
  go true e n = absurd cc
  go false e n = n

pub beyond_ascii : (class : Class) (c : ℕ) → 128 ≤ c → is_in class c ≡ beyond class
beyond_ascii Space c h = grind arith
beyond_ascii NoWhite c h = grind arith
beyond_ascii Digit c h = grind arith
beyond_ascii HexDigit c h = grind arith
beyond_ascii Alphanumeric c h = grind arith
beyond_ascii Hyphenated c h = grind arith
beyond_ascii Name c h = grind arith
beyond_ascii AttributeName c h = grind (arith, none_listed (codes "_.:-") c refl h)
beyond_ascii Unquoted c h = grind (arith, none_listed (codes "\"'=<>`") c refl h)
beyond_ascii NoSingleQuote c h = grind arith
beyond_ascii NoDoubleQuote c h = grind arith
beyond_ascii Scheme c h = grind (arith, none_listed (codes "+.-") c refl h)
beyond_ascii Address c h = grind (arith, none_listed (codes "<>") c refl h)
beyond_ascii Mailbox c h = grind (arith, none_listed (codes ".!#$%&'*+/=?^_`{|}~-") c refl h)
beyond_ascii Literal c h = grind arith
beyond_ascii Textual c h = grind (arith, none_listed (codes "\\&`<*_![] \n") c refl h)
beyond_ascii Plain c h = grind (arith, none_listed (codes "\\&`<*_![] \n") c refl h)
