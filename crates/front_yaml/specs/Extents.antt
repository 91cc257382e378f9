-- Where a flow value ends: at the bracket that closes all, whatever stands inside.
use Rattle.std.specs.Prelude.{ℕ, zero, suc, ◌+◌, ◌-◌, ◌==◌, Bool, true, false, ◌&&◌, ◌||◌, not, List, [], ◌∷◌, nat_le, Some, None}
use Rattle.front_yaml.specs.declared.extents.Before.{Before}
use Rattle.front_yaml.specs.declared.extents.Before.TheVariants.{Fresh, Plainly, Ended}
use Rattle.front_yaml.specs.Bytes.{is_gap}
use Rattle.front_yaml.specs.PlainScalars.{separates}
use Rattle.front_yaml.specs.Quotes.{is_quote, quote_len}

abbrev pub opens : ℕ → Bool
opens c = (c == 91) || (c == 123)

abbrev pub begins_value : List ℕ → Bool
begins_value [] = false
begins_value (c ∷ cs) = opens c

abbrev pub closes : ℕ → Bool
closes c = (c == 93) || (c == 125)

-- a separator stands before, or a part of a plain scalar, or the end of a value
abbrev pub may_end_key : Before → Bool
may_end_key Ended = true
may_end_key b = false

abbrev pub is_fresh : Before → Bool
is_fresh Fresh = true
is_fresh b = false

-- a comma, or a `:` that ends a key
abbrev pub is_separator : Before → ℕ → List ℕ → Bool
is_separator before c cs = (c == 44) || (c == 58) && (may_end_key before || separates true cs)

-- the bracket that closes all stands in the text; `gap` where white space stands before, and `skip` bytes still belong to a quote
abbrev pub has_end : Before → (gap comment : Bool) → (skip : ℕ) → (depth : ℕ) → List ℕ → Bool
has_end before gap comment skip d [] = false
has_end before gap comment (suc k) d (c ∷ cs) = has_end before gap comment k d cs
has_end before gap true zero d (c ∷ cs) = has_end before true (not (c == 10)) zero d cs
has_end before gap false zero d (c ∷ cs) =
    elim (gap && (c == 35)) [
      | true ↦ has_end before true true zero d cs
      | false ↦ elim (is_quote c && is_fresh before) [
        | true ↦ elim (quote_len c cs) [ None ↦ false | Some k ↦ has_end Ended false false (k + 1) d cs ]
        | false ↦ elim (opens c) [
          | true ↦ has_end Fresh false false zero (suc d) cs
          | false ↦ elim (closes c) [
            | true ↦ elim (nat_le d 1) [ true ↦ true | false ↦ has_end Ended false false zero (d - 1) cs ]
            | false ↦ elim (is_separator before c cs) [
              | true ↦ has_end Fresh false false zero d cs
              | false ↦ elim (is_gap c) [ true ↦ has_end before true false zero d cs | false ↦ has_end Plainly false false zero d cs ]
            ]
          ]
        ]
      ]
    ]

-- a flow value at the front is closed
abbrev pub is_closed : List ℕ → Bool
is_closed s = has_end Fresh false false 0 0 s
