-- Decimal digits: a number does not fall as digits follow.
use Rattle.std.proofs.Common.{◌≡◌, ℕ, ◌+◌, ◌-◌, ◌*◌, ◌<◌, ◌≤◌, List, [], ◌∷◌, length, get_or, drop, arith}
use Rattle.std.proofs.lemmas.List.{at_drop_more}
use Rattle.front_yaml.specs.Scalars.{number_from}

pub grows : (n : ℕ) (ds : List ℕ) → n ≤ number_from n ds
grows n [] = omega arith
grows n (d ∷ ds) = let h = grows (n * 10 + (d - 48)) ds in omega (arith, h)

-- a number that is too large stays so
pub stays_large : (m n i : ℕ) (ds : List ℕ) → i < length ds → m ≤ n * 10 + (get_or ds i 0 - 48) → m ≤ number_from n (drop i ds)
stays_large m n i ds lt h =
    let step : number_from n (drop i ds) ≡ number_from (n * 10 + (get_or ds i 0 - 48)) (drop (i + 1) ds) = at_drop_more (number_from n) ds i 0 lt in
    let g = grows (n * 10 + (get_or ds i 0 - 48)) (drop (i + 1) ds) in
    omega (arith, step, g, h)
