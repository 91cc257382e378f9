-- Loops over nodes.
use Rattle.std.proofs.Common.{◌≡◌, ◌∙◌, List, Some, [], add-one, ap, arith, get_or, length, refl, slice_get, suc, sym, zero, ℕ, ◌+◌, ◌<◌, ◌∷◌, ◌≤◌}
use Rattle.std.proofs.Math.ListN.{set}
use Rattle.cm_inlines.specs.Machine.{change_between, changed, run_at}
use Rattle.cm_inlines.specs.declared.changes.Change.{Change}
use Rattle.cm_inlines.specs.declared.node.Node.{Node}
use Rattle.cm_inlines.specs.declared.node.Run.{Run}

-- ---- changes

pub change_none : (how : Change) (from to : ℕ) (ns : List Node) → to ≤ from → change_between how from to ns ≡ ns
change_none how from to [] h = refl
change_none how zero zero (n ∷ ns) h = refl
change_none how zero (suc to) (n ∷ ns) h = absurd (omega (arith, h))
change_none how (suc from) zero (n ∷ ns) h = refl
change_none how (suc from) (suc to) (n ∷ ns) h = ap (λ (xs : List Node). n ∷ xs) (change_none how from to ns (omega (arith, h)))

pub change_past : (how : Change) (from to : ℕ) (ns : List Node) → length ns ≤ from → change_between how from to ns ≡ ns
change_past how from to [] h = refl
change_past how zero to (n ∷ ns) h = absurd (omega (arith, h))
change_past how (suc from) zero (n ∷ ns) h = refl
change_past how (suc from) (suc to) (n ∷ ns) h = ap (λ (xs : List Node). n ∷ xs) (change_past how from to ns (omega (arith, h)))

change_one : (how : Change) (place : ℕ) (ns : List Node) (d : Node) → place < length ns → change_between how place (suc place) ns ≡ set ns place (changed how (get_or ns place d))
change_one how place [] d h = absurd (omega (arith, h))
change_one how zero (n ∷ ns) d h = ap (λ (xs : List Node). changed how n ∷ xs) (change_none how zero zero ns (omega arith))
change_one how (suc place) (n ∷ ns) d h = ap (λ (xs : List Node). n ∷ xs) (change_one how place ns d (omega (arith, h)))

set_same : (ns : List Node) (place : ℕ) (d : Node) → place < length ns → set ns place (get_or ns place d) ≡ ns
set_same [] place d h = absurd (omega (arith, h))
set_same (n ∷ ns) zero d h = refl
set_same (n ∷ ns) (suc place) d h = ap (λ (xs : List Node). n ∷ xs) (set_same ns place d (omega (arith, h)))

pub change_some : (how : Change) (place : ℕ) (ns : List Node) (n made : Node) → place < length ns → n ≡ get_or ns place n → made ≡ changed how n → set ns place made ≡ change_between how place (place + 1) ns
change_some how place ns n made lt is e =
    ap (set ns place) (e ∙ ap (changed how) is) ∙ sym (ap (λ (k : ℕ). change_between how place k ns) (add-one place) ∙ change_one how place ns n lt)

pub change_same : (how : Change) (place : ℕ) (ns : List Node) (n : Node) → place < length ns → n ≡ get_or ns place n → n ≡ changed how n → ns ≡ change_between how place (place + 1) ns
change_same how place ns n lt is e = sym (set_same ns place n lt) ∙ ap (set ns place) (sym is) ∙ change_some how place ns n n lt is e

-- ---- a run

pub run_within : (ns : List Node) (place : ℕ) (r : Run) → Some r ≡ run_at (slice_get ns place) → place < length ns
run_within [] place r h = absurd cc
run_within (n ∷ ns) zero r h = omega arith
run_within (n ∷ ns) (suc place) r h = omega (arith, run_within ns place r h)
