-- White space, and texts without it at their ends. After the reference of Liquid 4 (Shopify), "Filters": `strip`.
use Rattle.std.specs.Prelude.{ℕ, ◌-◌, ◌==◌, nat_lt, Bool, false, ◌&&◌, ◌||◌, List, [], ◌∷◌, length, drop, take}
use Rattle.std.specs.List.{prefix_len, suffix_len}

-- space, tab, LF, VT, FF and CR
abbrev pub is_white : ℕ → Bool
is_white c = (c == 32) || (nat_lt 8 c && nat_lt c 14)

abbrev pub begins_white : List ℕ → Bool
begins_white [] = false
begins_white (c ∷ cs) = is_white c

abbrev pub without_front : List ℕ → List ℕ
without_front t = drop (prefix_len is_white t) t

abbrev pub without_end : List ℕ → List ℕ
without_end t = take (length t - suffix_len is_white t) t
