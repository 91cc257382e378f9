-- Behind all white space.
use Rattle.std.proofs.Common.{◌≡◌, ◌∙◌, Bool, List, [], ap, arith, drop, false, length, nat_lt, refl, replicate, suc, sym, true, ℕ, ◌++◌, ◌+◌, ◌-◌, ◌<◌, ◌==◌, ◌∷◌, ◌≤◌, ◌*◌, ◌||◌}
use Rattle.markdown_grammar.specs.Columns.{indent, shifted, tab_width}
use Rattle.site_text.specs.Bytes.{is_space}
use Rattle.site_text.specs.Fronts.{run_len}
use Rattle.markdown_grammar.specs.Lines.{trim_front}
use Rattle.cm_containers.specs.Spots.{BehindWhite, IsSpot, rest_at, text_at}
use Rattle.cm_containers.specs.declared.spots.Spot.{Spot}
use Rattle.cm_containers.proofs.Entering.{columns_before, text_before}
use Rattle.cm_containers.proofs.Texts.{text_part, text_whole}

-- no space comes first behind all white space
no_space : (t u : List ℕ) → trim_front t ≡ 32 ∷ u → ⊥
no_space [] u e = absurd cc
no_space (c ∷ cs) u e = go (c == 32) (c == 9) refl (no_space cs u) e where
  go : (s b : Bool) → (c == 32) ≡ s → (trim_front cs ≡ 32 ∷ u → ⊥) → drop (elim (s || b) as (λ x. ℕ) [ true ↦ suc (run_len is_space cs) | false ↦ 0 ]) (c ∷ cs) ≡ 32 ∷ u → ⊥
  go true b f h e = h e
  go false true f h e = h e
  go false false f h e = let c_is : c ≡ 32 = cc in absurd (let bad : (32 == 32) ≡ false = ap (λ (n : ℕ). n == 32) (sym c_is) ∙ f in cc)

lt_true : (a b : ℕ) → nat_lt a b ≡ true → a < b
lt_true a b e = grind (arith, e)

lt_false : (a b : ℕ) → nat_lt a b ≡ false → b ≤ a
lt_false a b e = grind (arith, e)

pub white_behind : (line : List ℕ) (s t : Spot) → (k : ℕ) → k ≡ length line * 4 + 8 → IsSpot line s → IsSpot line t → rest_at line t ≡ shifted k s.column (text_at line s) → BehindWhite line s t
white_behind line s t k size from is e =
    let col = columns_before line s t k e in
    let less : indent s.column (text_at line s) < k = omega (arith, col, is.small, is.near, is.within, size) in
    let text = text_before line s t k e less in
    let whole = is_whole text (nat_lt t.start t.column) refl in
    record {
      spot = is;
      column = omega (arith, col, less);
      rest = sym (text_whole t.start t.at t.column line (omega (arith, whole))) ∙ text;
      whole = whole;
    } where
      is_whole : text_at line t ≡ trim_front (text_at line s) → (b : Bool) → nat_lt t.start t.column ≡ b → t.start ≡ t.column
      is_whole text true f =
          let part : t.start < t.column = lt_true t.start t.column f in
          let w : tab_width t.column ≡ suc (tab_width t.column - 1) = omega arith in
          absurd (no_space (text_at line s) (replicate (tab_width t.column - 1) 32 ++ drop (t.at + 1) line) (sym text ∙ text_part t.start t.at t.column line part ∙ ap (λ (n : ℕ). replicate n 32 ++ drop (t.at + 1) line) w))
      is_whole text false f = let le : t.column ≤ t.start = lt_false t.start t.column f in omega (arith, le, is.order)
