-- What stands at the front of a text. Texts are lists of bytes in UTF-8.
use Rattle.std.specs.Prelude.{Bool, List, [], false, suc, true, ℕ, ◌==◌, ◌∷◌}

-- the first byte, or 0
abbrev pub first_byte : List ℕ → ℕ
first_byte [] = 0
first_byte (c ∷ cs) = c

-- how many bytes at the front pass a test: std's `prefix_len`, but it computes no further than to the first that fails
abbrev pub run_len : (ℕ → Bool) → List ℕ → ℕ
run_len p [] = 0
run_len p (c ∷ cs) = elim (p c) [ true ↦ suc (run_len p cs) | false ↦ 0 ]

-- the text begins with these bytes
abbrev pub begins_with : List ℕ → List ℕ → Bool
begins_with [] cs = true
begins_with (w ∷ ws) [] = false
begins_with (w ∷ ws) (c ∷ cs) = elim (w == c) [ true ↦ begins_with ws cs | false ↦ false ]

-- some byte or character passes a test
abbrev pub has_one : (ℕ → Bool) → List ℕ → Bool
has_one p [] = false
has_one p (c ∷ cs) = elim (p c) [ true ↦ true | false ↦ has_one p cs ]
