-- How deep items and pairs nest.
use Rattle.std.proofs.Common.{◌≡◌, ℕ, ◌+◌, ◌<◌, max, leb, Bool, true, false, ◌&&◌, List, length, drop, get_or, sym, ap, ◌∙◌, arith}
use Rattle.std.proofs.lemmas.List.{at_drop_more}
use Rattle.std.proofs.lemmas.Bool.Decides.{nat_tests}
use Rattle.site_base.specs.View.{plain, items_of, pairs_of}
use Rattle.site_base.specs.declared.value.Value.{Value}
use Rattle.site_base.specs.declared.value.Pair.{Pair}
use Rattle.filter_base.specs.Limits.{nests, items_nest, pairs_nest}

le_max : (a b m : ℕ) → leb (max a b) m ≡ (leb a m && leb b m)
le_max a b m = grind (arith, nat_tests)

abbrev items_fit : ℕ → List Value → Bool
items_fit m vs = leb (items_nest (items_of vs)) m

abbrev pairs_fit : ℕ → List Pair → Bool
pairs_fit m ps = leb (pairs_nest (pairs_of ps)) m

and_step : (b y x whole : Bool) → x ≡ (b && y) → x ≡ whole → b ≡ true → y ≡ whole
and_step true y x whole e w h = sym e ∙ w
and_step false y x whole e w h = absurd cc

and_stop : (b y x whole : Bool) → x ≡ (b && y) → x ≡ whole → b ≡ false → false ≡ whole
and_stop true y x whole e w h = absurd cc
and_stop false y x whole e w h = sym e ∙ w

item_step : (vs : List Value) (i : ℕ) (v : Value) (m : ℕ) → i < length vs → v ≡ get_or vs i v → items_fit m (drop i vs) ≡ (leb (nests (plain v)) m && items_fit m (drop (i + 1) vs))
item_step vs i v m lt e =
    at_drop_more (items_fit m) vs i v lt ∙ le_max (nests (plain (get_or vs i v))) (items_nest (items_of (drop (i + 1) vs))) m
    ∙ ap (λ (w : Value). leb (nests (plain w)) m && items_fit m (drop (i + 1) vs)) (sym e)

pair_step : (ps : List Pair) (i : ℕ) (p : Pair) (m : ℕ) → i < length ps → p ≡ get_or ps i p → pairs_fit m (drop i ps) ≡ (leb (nests (plain p.value)) m && pairs_fit m (drop (i + 1) ps))
pair_step ps i p m lt e =
    at_drop_more (pairs_fit m) ps i p lt ∙ le_max (nests (plain (get_or ps i p).value)) (pairs_nest (pairs_of (drop (i + 1) ps))) m
    ∙ ap (λ (q : Pair). leb (nests (plain q.value)) m && pairs_fit m (drop (i + 1) ps)) (sym e)

-- a loop's step, and its end at an item that nests too deep
pub item_fits : (vs : List Value) (i : ℕ) (v : Value) (m : ℕ) (whole : Bool) → i < length vs → v ≡ get_or vs i v → items_fit m (drop i vs) ≡ whole → leb (nests (plain v)) m ≡ true → items_fit m (drop (i + 1) vs) ≡ whole
item_fits vs i v m whole lt e w h = and_step _ _ _ whole (item_step vs i v m lt e) w h

pub item_passes : (vs : List Value) (i : ℕ) (v : Value) (m : ℕ) (whole : Bool) → i < length vs → v ≡ get_or vs i v → items_fit m (drop i vs) ≡ whole → leb (nests (plain v)) m ≡ false → false ≡ whole
item_passes vs i v m whole lt e w h = and_stop _ _ _ whole (item_step vs i v m lt e) w h

pub pair_fits : (ps : List Pair) (i : ℕ) (p : Pair) (m : ℕ) (whole : Bool) → i < length ps → p ≡ get_or ps i p → pairs_fit m (drop i ps) ≡ whole → leb (nests (plain p.value)) m ≡ true → pairs_fit m (drop (i + 1) ps) ≡ whole
pair_fits ps i p m whole lt e w h = and_step _ _ _ whole (pair_step ps i p m lt e) w h

pub pair_passes : (ps : List Pair) (i : ℕ) (p : Pair) (m : ℕ) (whole : Bool) → i < length ps → p ≡ get_or ps i p → pairs_fit m (drop i ps) ≡ whole → leb (nests (plain p.value)) m ≡ false → false ≡ whole
pair_passes ps i p m whole lt e w h = and_stop _ _ _ whole (pair_step ps i p m lt e) w h
