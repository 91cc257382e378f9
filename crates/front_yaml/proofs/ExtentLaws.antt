-- The search of a flow value's end, behind a quote.
use Rattle.std.proofs.Common.{◌≡◌, ℕ, zero, suc, ◌+◌, Bool, true, false, ◌&&◌, List, [], ◌∷◌, drop, refl, ap, ◌∙◌, arith}
use Rattle.std.specs.Prelude.{◌==◌, ◌-◌, nat_le, Option, Some, None}
use Rattle.front_yaml.specs.Quotes.{is_quote, quote_len}
use Rattle.front_yaml.specs.Extents.{is_fresh, opens, closes, is_separator, has_end}
use Rattle.front_yaml.specs.Bytes.{is_gap}
use Rattle.front_yaml.specs.declared.extents.Before.{Before}
use Rattle.front_yaml.specs.declared.extents.Before.TheVariants.{Fresh, Plainly, Ended}

past_skip : (before : Before) (gap : Bool) (k d : ℕ) (s : List ℕ) → has_end before gap false k d s ≡ has_end before gap false 0 d (drop k s)
past_skip before gap zero d s = refl
past_skip before gap (suc k) d [] = refl
past_skip before gap (suc k) d (c ∷ cs) = past_skip before gap k d cs

abbrev by_len : Option ℕ → ℕ → List ℕ → Bool
by_len o d cs = elim o [ None ↦ false | Some k ↦ has_end Ended false false (k + 1) d cs ]

-- what follows where no comment begins, by whether a quote does
abbrev by_quote : Bool → Before → Bool → ℕ → ℕ → List ℕ → Bool
by_quote quote before gap d c cs = elim quote [
  | true ↦ by_len (quote_len c cs) d cs
  | false ↦ elim (opens c) [
    | true ↦ has_end Fresh false false zero (suc d) cs
    | false ↦ elim (closes c) [
      | true ↦ elim (nat_le d 1) [ true ↦ true | false ↦ has_end Ended false false zero (d - 1) cs ]
      | false ↦ elim (is_separator before c cs) [
        | true ↦ has_end Fresh false false zero d cs
        | false ↦ elim (is_gap c) [ true ↦ has_end before true false zero d cs | false ↦ has_end Plainly false false zero d cs ]
      ]
    ]
  ]
]

abbrev by_hash : Bool → Before → Bool → ℕ → ℕ → List ℕ → Bool
by_hash hash before gap d c cs = elim hash [ true ↦ has_end before true true zero d cs | false ↦ by_quote (is_quote c && is_fresh before) before gap d c cs ]

pub quote_passed : (before : Before) (gap comment : Bool) (d c : ℕ) (cs : List ℕ) (k : ℕ) → comment ≡ false → gap && (c == 35) ≡ false → is_quote c && is_fresh before ≡ true → quote_len c cs ≡ Some k
    → has_end before gap comment 0 d (c ∷ cs) ≡ has_end Ended false false 0 d (drop (k + 2) (c ∷ cs))
quote_passed before gap true d c cs k o p q r = cc
quote_passed before gap false d c cs k o p q r =
    let two : suc (k + 1) ≡ k + 2 = omega arith in
    ap (λ t. by_hash t before gap d c cs) p ∙ ap (λ t. by_quote t before gap d c cs) q ∙ ap (λ l. by_len l d cs) r ∙ past_skip Ended false (k + 1) d cs ∙ ap (λ n. has_end Ended false false 0 d (drop n (c ∷ cs))) two
