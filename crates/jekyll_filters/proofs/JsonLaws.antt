-- Data that is made of one value after another.
use Rattle.std.proofs.Common.{◌≡◌, ℕ, zero, suc, ◌+◌, ◌<◌, Bool, true, false, ◌||◌, List, [], ◌∷◌, ◌++◌, Vec, BTreeMap, String, Global, length, drop, get_or, map, refl, sym, ap, ◌∙◌, subst, arith}
use Rattle.std.proofs.lemmas.List.{at_drop_more}
use Rattle.site_base.specs.Plain.{list, hash, Items, Pairs, weight, items_weight, pairs_weight}
use Rattle.site_base.specs.View.{plain, items_of, pairs_of}
use Rattle.site_base.specs.declared.faults.FaultKind.{FaultKind}
use Rattle.site_base.specs.declared.value.Value.{Value}
use Rattle.site_base.specs.declared.value.Pair.{Pair}
use Rattle.serde_json.specs.Data.{Data, array, object, Members, no_members, member, put}
use Rattle.serde_json.specs.View.{view as data_view, items_of as data_items, items_view, members_view}
use Rattle.serde_json.specs.Written.{has_float, items_have_float, members_have_float}
use Rattle.serde_json.specs.declared.value.Value.{Value as Json, Array, Object}
use Rattle.serde_json.proofs.Views.{view-Array, view-Object}
use Rattle.std.specs.Cmp.Lexicographic.{slice_cmp}
use Rattle.std.specs.Ordering.{nat_cmp, match_ordering}
use Rattle.std.specs.declared.cmp.Ordering.{Ordering}
use Rattle.std.specs.declared.cmp.Ordering.TheVariants.{Less, Equal, Greater}
use Rattle.read_record.specs.Queries.{Query, Give, bind, View, Trace, RanTo, run}
use Rattle.read_record.proofs.QueryLaws.{run_gave}
use Rattle.filter_base.specs.Answers.{Stops}
use Rattle.filter_base.specs.Stops.{Stop}
use Rattle.filter_base.proofs.CallLaws.{stops_bind}
use Rattle.jekyll_filters.specs.JsonTexts.{data_of, items_data, pairs_data}

-- ---- what stands in a list or a hash has fewer constructors

pub item_lighter : (vs : List Value) (i : ℕ) (v : Value) → i < length vs → v ≡ get_or vs i v → weight (plain v) < items_weight (items_of vs)
item_lighter [] i v lt e = absurd (omega arith)
item_lighter (w ∷ vs) zero v lt e = omega (arith, ap (λ (x : Value). weight (plain x)) e)
item_lighter (w ∷ vs) (suc i) v lt e = let less = item_lighter vs i v (omega arith) e in omega (arith, less)

pub pair_lighter : (ps : List Pair) (i : ℕ) (p : Pair) → i < length ps → p ≡ get_or ps i p → weight (plain p.value) < pairs_weight (pairs_of ps)
pair_lighter [] i p lt e = absurd (omega arith)
pair_lighter (q ∷ ps) zero p lt e = omega (arith, ap (λ (x : Pair). weight (plain x.value)) e)
pair_lighter (q ∷ ps) (suc i) p lt e = let less = pair_lighter ps i p (omega arith) e in omega (arith, less)

-- ---- one item more

first_item : (ds : List Data) (vs : List Value) (i : ℕ) (v : Value) → i < length vs → v ≡ get_or vs i v
    → items_data (items_of (drop i vs)) ds ≡ bind (data_of (plain v)) (λ d. items_data (items_of (drop (i + 1) vs)) (ds ++ d ∷ []))
first_item ds vs i v lt e =
    at_drop_more (λ xs. items_data (items_of xs) ds) vs i v lt
    ∙ ap (λ (w : Value). bind (data_of (plain w)) (λ d. items_data (items_of (drop (i + 1) vs)) (ds ++ d ∷ []))) (sym e)

map_push : (xs : List Json) (x : Json) → map data_view (xs ++ x ∷ []) ≡ map data_view xs ++ data_view x ∷ []
map_push [] x = refl
map_push (y ∷ xs) x = ap (λ ds. data_view y ∷ ds) (map_push xs x)

pub next_item : (view now : View) (t s : Trace) (xs more : List Json) (vs : List Value) (i : ℕ) (v : Value) (x : Json) → i < length vs → v ≡ get_or vs i v
    → now ≡ view → more ≡ xs ++ x ∷ [] → run view t (data_of (plain v)) ≡ RanTo (data_view x) s
    → run view t (items_data (items_of (drop i vs)) (map data_view xs)) ≡ run now s (items_data (items_of (drop (i + 1) vs)) (map data_view more))
next_item view now t s xs more vs i v x lt e same pushed gave =
    ap (run view t) (first_item (map data_view xs) vs i v lt e)
    ∙ run_gave view t (data_of (plain v)) (λ d. items_data (items_of (drop (i + 1) vs)) (map data_view xs ++ d ∷ [])) (data_view x) s gave
    ∙ ap (λ ds. run view s (items_data (items_of (drop (i + 1) vs)) ds)) (sym (map_push xs x) ∙ ap (map data_view) (sym pushed))
    ∙ ap (λ w. run w s (items_data (items_of (drop (i + 1) vs)) (map data_view more))) (sym same)

pub item_stops : (view : View) (t s : Trace) (ds : List Data) (vs : List Value) (i : ℕ) (v : Value) (e : Stop) → i < length vs → v ≡ get_or vs i v
    → Stops (run view t (data_of (plain v))) e s → Stops (run view t (items_data (items_of (drop i vs)) ds)) e s
item_stops view t s ds vs i v e lt is h =
    subst (λ (q : Query FaultKind (List Data)). Stops (run view t q) e s) (sym (first_item ds vs i v lt is))
    (stops_bind view t (data_of (plain v)) (λ d. items_data (items_of (drop (i + 1) vs)) (ds ++ d ∷ [])) e s h)

pub list_gave : (view : View) (t s : Trace) (v : Value) (is : Items) (vs : List Value) (xs : Vec Json Global) → plain v ≡ list is → items_of vs ≡ is
    → run view t (items_data (items_of vs) []) ≡ RanTo (map data_view xs.items) s → run view t (data_of (plain v)) ≡ RanTo (data_view (Array xs)) s
list_gave view t s v is vs xs shown same gave =
    ap (λ p. run view t (data_of p)) shown ∙ ap (λ js. run view t (data_of (list js))) (sym same)
    ∙ run_gave view t (items_data (items_of vs) []) (λ ds. Give (array (data_items ds))) (map data_view xs.items) s gave
    ∙ ap (λ d. RanTo d s) (sym (view-Array xs))

-- ---- one pair more

first_pair : (ms : Members) (ps : List Pair) (i : ℕ) (p : Pair) → i < length ps → p ≡ get_or ps i p
    → pairs_data (pairs_of (drop i ps)) ms ≡ bind (data_of (plain p.value)) (λ d. pairs_data (pairs_of (drop (i + 1) ps)) (put p.key d ms))
first_pair ms ps i p lt e =
    at_drop_more (λ xs. pairs_data (pairs_of xs) ms) ps i p lt
    ∙ ap (λ (q : Pair). bind (data_of (plain q.value)) (λ d. pairs_data (pairs_of (drop (i + 1) ps)) (put q.key d ms))) (sym e)

pub next_pair : (view now : View) (t s : Trace) (ms more : Members) (ps : List Pair) (i : ℕ) (p : Pair) (d : Data) → i < length ps → p ≡ get_or ps i p
    → now ≡ view → more ≡ put p.key d ms → run view t (data_of (plain p.value)) ≡ RanTo d s
    → run view t (pairs_data (pairs_of (drop i ps)) ms) ≡ run now s (pairs_data (pairs_of (drop (i + 1) ps)) more)
next_pair view now t s ms more ps i p d lt e same set gave =
    ap (run view t) (first_pair ms ps i p lt e)
    ∙ run_gave view t (data_of (plain p.value)) (λ d. pairs_data (pairs_of (drop (i + 1) ps)) (put p.key d ms)) d s gave
    ∙ ap (λ ns. run view s (pairs_data (pairs_of (drop (i + 1) ps)) ns)) (sym set)
    ∙ ap (λ w. run w s (pairs_data (pairs_of (drop (i + 1) ps)) more)) (sym same)

pub pair_stops : (view : View) (t s : Trace) (ms : Members) (ps : List Pair) (i : ℕ) (p : Pair) (e : Stop) → i < length ps → p ≡ get_or ps i p
    → Stops (run view t (data_of (plain p.value))) e s → Stops (run view t (pairs_data (pairs_of (drop i ps)) ms)) e s
pair_stops view t s ms ps i p e lt is h =
    subst (λ (q : Query FaultKind Members). Stops (run view t q) e s) (sym (first_pair ms ps i p lt is))
    (stops_bind view t (data_of (plain p.value)) (λ d. pairs_data (pairs_of (drop (i + 1) ps)) (put p.key d ms)) e s h)

pub hash_gave : (view : View) (t s : Trace) (v : Value) (qs : Pairs) (ps : List Pair) (ms : BTreeMap (String Global) Json) → plain v ≡ hash qs → pairs_of ps ≡ qs
    → run view t (pairs_data (pairs_of ps) no_members) ≡ RanTo (members_view ms.entries) s → run view t (data_of (plain v)) ≡ RanTo (data_view (Object ms)) s
hash_gave view t s v qs ps ms shown same gave =
    ap (λ p. run view t (data_of p)) shown ∙ ap (λ js. run view t (data_of (hash js))) (sym same)
    ∙ run_gave view t (pairs_data (pairs_of ps) no_members) (λ ns. Give (object ns)) (members_view ms.entries) s gave
    ∙ ap (λ d. RanTo d s) (sym (view-Object ms))

-- ---- no fractions

both_false : (a b : Bool) → a ≡ false → b ≡ false → (a || b) ≡ false
both_false a b p q = rw (p, q)

left_false : (a b : Bool) → (a || b) ≡ false → a ≡ false
left_false true b h = h
left_false false b h = refl

right_false : (a b : Bool) → (a || b) ≡ false → b ≡ false
right_false true b h = absurd (cc)
right_false false b h = h

pub none_pushed : (xs more : List Json) (x : Json) → more ≡ xs ++ x ∷ [] → items_have_float (items_view xs) ≡ false → has_float (data_view x) ≡ false → items_have_float (items_view more) ≡ false
none_pushed xs more x pushed h k = ap (λ ys. items_have_float (items_view ys)) pushed ∙ go xs h where
  go : (ys : List Json) → items_have_float (items_view ys) ≡ false → items_have_float (items_view (ys ++ x ∷ [])) ≡ false
  go [] p = both_false (has_float (data_view x)) false k refl
  go (y ∷ ys) p = both_false _ _ (left_false (has_float (data_view y)) _ p) (go ys (right_false (has_float (data_view y)) _ p))

none_in_order : (o : Ordering) (a b c : Members) → members_have_float a ≡ false → members_have_float b ≡ false → members_have_float c ≡ false → members_have_float (match_ordering o a b c) ≡ false
none_in_order Less a b c p q r = p
none_in_order Equal a b c p q r = q
none_in_order Greater a b c p q r = r

pub none_put : (k : List ℕ) (d : Data) (ms more : Members) → more ≡ put k d ms → has_float d ≡ false → members_have_float ms ≡ false → members_have_float more ≡ false
none_put k d ms more set p q = ap members_have_float set ∙ go ms q where
  go : (ns : Members) → members_have_float ns ≡ false → members_have_float (put k d ns) ≡ false
  go no_members r = both_false (has_float d) false p refl
  go (member l e ns) r =
      none_in_order (slice_cmp nat_cmp k l) _ _ _ (both_false (has_float d) _ p r) (both_false (has_float d) _ p (right_false (has_float e) _ r))
      (both_false (has_float e) _ (left_false (has_float e) _ r) (go ns (right_false (has_float e) _ r)))
