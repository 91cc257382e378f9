-- What a list or a hash holds weighs less than it.
use Rattle.std.proofs.Common.{zero, suc, ℕ, ◌<◌, List, [], ◌∷◌, length, get_or, arith}
use Rattle.site_base.specs.Plain.{weight, items_weight, pairs_weight}
use Rattle.site_base.specs.View.{plain, items_of, pairs_of}
use Rattle.site_base.specs.declared.value.Value.{Value}
use Rattle.site_base.specs.declared.value.Pair.{Pair}

pub item_lighter : (vs : List Value) (i : ℕ) (d : Value) → i < length vs → weight (plain (get_or vs i d)) < items_weight (items_of vs)
item_lighter [] i d lt = absurd (omega arith)
item_lighter (v ∷ vs) zero d lt = omega arith
item_lighter (v ∷ vs) (suc i) d lt = omega (arith, item_lighter vs i d (omega arith))

pub pair_lighter : (ps : List Pair) (i : ℕ) (d : Pair) → i < length ps → weight (plain (get_or ps i d).value) < pairs_weight (pairs_of ps)
pair_lighter [] i d lt = absurd (omega arith)
pair_lighter (p ∷ ps) zero d lt = omega arith
pair_lighter (p ∷ ps) (suc i) d lt = omega (arith, pair_lighter ps i d (omega arith))
