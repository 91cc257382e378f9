-- How many containers stand up to the innermost quote. Block quotes: CommonMark 0.31.2, section 5.1.
use Rattle.std.specs.Prelude.{Bool, List, [], false, suc, true, zero, ℕ, ◌∷◌}
use Rattle.cm_containers.specs.declared.kinds.Container.{Container}
use Rattle.cm_containers.specs.declared.kinds.Container.TheVariants.{Item, Quote}

abbrev pub is_quote : Container → Bool
is_quote Quote = true
is_quote (Item content mark number) = false

-- the same, with one container before those
abbrev pub with_outer : Container → ℕ → ℕ
with_outer Quote n = suc n
with_outer (Item content mark number) zero = zero
with_outer (Item content mark number) (suc n) = suc (suc n)

-- the innermost quote is counted too; without a quote there are none
abbrev pub up_to_quote : List Container → ℕ
up_to_quote [] = 0
up_to_quote (k ∷ ks) = with_outer k (up_to_quote ks)
