-- Words on the bytes of a text.
use Rattle.std.specs.Prelude.{ℕ, zero, suc, ◌+◌, ◌-◌, ◌==◌, Bool, true, false, ◌||◌, List, [], ◌∷◌, length, take, Option, Some, None}
use Rattle.std.specs.List.{prefix_len, suffix_len}

abbrev pub later : Option ℕ → Option ℕ
later None = None
later (Some n) = Some (suc n)

-- a place in a text, told from i bytes before it
abbrev pub added : ℕ → Option ℕ → Option ℕ
added i None = None
added i (Some n) = Some (i + n)

abbrev pub starts : ℕ → List ℕ → Bool
starts b [] = false
starts b (c ∷ cs) = c == b

abbrev pub is_empty : List ℕ → Bool
is_empty [] = true
is_empty (c ∷ cs) = false

abbrev pub is_white : ℕ → Bool
is_white c = (c == 32) || (c == 9)

abbrev pub is_gap : ℕ → Bool
is_gap c = is_white c || (c == 10)

abbrev pub white_len : List ℕ → ℕ
white_len = prefix_len is_white

abbrev pub repeated : ℕ → ℕ → List ℕ
repeated zero c = []
repeated (suc n) c = c ∷ repeated n c

-- without the white space and line ends at its end
abbrev pub trim : List ℕ → List ℕ
trim s = take (length s - suffix_len is_gap s) s
