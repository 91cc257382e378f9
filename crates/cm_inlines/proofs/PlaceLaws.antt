-- Lists of places.
use Rattle.std.proofs.Common.{◌≡◌, ◌&&◌, cond, nat_le, nat_lt, not, ◌∙◌, All, Bool, List, None, Option, Some, [], add-one, ap, append_assoc, arith, drop, false, get_or, length, length-append, map, refl, suc, sym, take, true, zero, ℕ, ◌++◌, ◌+◌, ◌-◌, ◌<◌, ◌∷◌, ◌≤◌}
use Rattle.std.proofs.lemmas.List.{drop_all, get_or-append_right, get_or_append_left}
use Rattle.std.specs.List.Sorted.{IsPartitionPoint, IsPartitionedBy}
use Rattle.std.proofs.lemmas.List.Elements.{All-cons, All-get_or, All-head, All-nil, All-tail, All-weaker}
use Rattle.cm_inlines.specs.Machine.{change_between, changed, last_place}
use Rattle.cm_inlines.specs.Places.{begins_link, change_each, is_bracket, is_live, is_run, listed, places}
use Rattle.cm_inlines.specs.declared.changes.Change.{Change}
use Rattle.cm_inlines.specs.declared.changes.Change.TheVariants.{Calm, Freeze}
use Rattle.cm_inlines.specs.declared.node.Node.{Node}
use Rattle.cm_inlines.specs.declared.node.Node.TheVariants as node
use Rattle.cm_inlines.proofs.MachineLaws.{change_none}

-- ---- one after another

listed-append : (b : Bool) (at : ℕ) (ps qs : List ℕ) → listed b at (ps ++ qs) ≡ listed b at ps ++ qs
listed-append true at ps qs = refl
listed-append false at ps qs = refl

pub places-append : (q : Node → Bool) (at : ℕ) (ms ns : List Node) → places q at (ms ++ ns) ≡ places q at ms ++ places q (at + length ms) ns
places-append q at [] ns = let e : at ≡ at + 0 = omega arith in ap (λ (k : ℕ). places q k ns) e
places-append q at (m ∷ ms) ns =
    let e : at + 1 + length ms ≡ at + suc (length ms) = omega arith in
    ap (listed (q m) at) (places-append q (at + 1) ms ns ∙ ap (λ (k : ℕ). places q (at + 1) ms ++ places q k ns) e) ∙ listed-append (q m) at (places q (at + 1) ms) (places q (at + suc (length ms)) ns)

-- nodes of which none passes
pub places_none : (q : Node → Bool) (at : ℕ) (ns : List Node) → All (λ n. q n ≡ false) ns → places q at ns ≡ []
places_none q at [] h = refl
places_none q at (n ∷ ns) h = ap (λ (b : Bool). listed b at (places q (at + 1) ns)) (All-head (λ m. q m ≡ false) n ns h) ∙ places_none q (at + 1) ns (All-tail (λ m. q m ≡ false) n ns h)

pub places_same : (p q : Node → Bool) (at : ℕ) (ns : List Node) → All (λ n. p n ≡ q n) ns → places p at ns ≡ places q at ns
places_same p q at [] h = refl
places_same p q at (n ∷ ns) h = ap (λ (b : Bool). listed b at (places p (at + 1) ns)) (All-head (λ m. p m ≡ q m) n ns h) ∙ ap (listed (q n) at) (places_same p q (at + 1) ns (All-tail (λ m. p m ≡ q m) n ns h))

pub none_in : (q : Node → Bool) (at : ℕ) (ns : List Node) → places q at ns ≡ [] → All (λ n. q n ≡ false) ns
none_in q at [] h = All-nil (λ n. q n ≡ false)
none_in q at (n ∷ ns) h = go (q n) refl h (none_in q (at + 1) ns) where
  go : (b : Bool) → q n ≡ b → listed b at (places q (at + 1) ns) ≡ [] → (places q (at + 1) ns ≡ [] → All (λ m. q m ≡ false) ns) → All (λ m. q m ≡ false) (n ∷ ns)
  go true e k rec = absurd cc
  go false e k rec = All-cons (λ m. q m ≡ false) n ns e (rec k)

pub places_map : (p q : Node → Bool) (f : Node → Node) (same : (n : Node) → p (f n) ≡ q n) (at : ℕ) (ns : List Node) → places p at (map f ns) ≡ places q at ns
places_map p q f same at [] = refl
places_map p q f same at (n ∷ ns) = ap (λ (b : Bool). listed b at (places p (at + 1) (map f ns))) (same n) ∙ ap (listed (q n) at) (places_map p q f same (at + 1) ns)

pub places_away : (q : Node → Bool) (f : Node → Node) (none : (n : Node) → q (f n) ≡ false) (at : ℕ) (ns : List Node) → places q at (map f ns) ≡ []
places_away q f none at [] = refl
places_away q f none at (n ∷ ns) = ap (λ (b : Bool). listed b at (places q (at + 1) (map f ns))) (none n) ∙ places_away q f none (at + 1) ns

-- where the places lie
pub places_range : (q : Node → Bool) (at : ℕ) (ns : List Node) → All (λ p. (at ≤ p) × (p < at + length ns)) (places q at ns)
places_range q at [] = All-nil (λ p. (at ≤ p) × (p < at + 0))
places_range q at (n ∷ ns) = go (q n) (All-weaker (λ p. (at + 1 ≤ p) × (p < at + 1 + length ns)) In (λ p h. (omega (arith, h.0), omega (arith, h.1))) (places q (at + 1) ns) (places_range q (at + 1) ns)) where
  In : ℕ → Type 0
  In p = (at ≤ p) × (p < at + length (n ∷ ns))

  go : (b : Bool) → All In (places q (at + 1) ns) → All In (listed b at (places q (at + 1) ns))
  go true h = All-cons In at (places q (at + 1) ns) (omega arith, omega arith) h
  go false h = h

pub all_front : (P : ℕ → Type 0) (ps qs : List ℕ) → All P (ps ++ qs) → All P ps
all_front P [] qs h = All-nil P
all_front P (p ∷ ps) qs h = All-cons P p ps (All-head P p (ps ++ qs) h) (all_front P ps qs (All-tail P p (ps ++ qs) h))

-- ---- a place on the list

pub record Split (q : Node → Bool) (at i : ℕ) (ns : List Node) : Type 0 where
  pub front : List Node
  pub node : Node
  pub behind : List Node
  pub split : ns ≡ front ++ node ∷ behind
  pub passes : q node ≡ true
  pub place : get_or (places q at ns) i 0 ≡ at + length front
  pub before : take i (places q at ns) ≡ places q at front
  pub after : drop (i + 1) (places q at ns) ≡ places q (at + length front + 1) behind

pub places_split : (q : Node → Bool) (at i : ℕ) (ns : List Node) → i < length (places q at ns) → Split q at i ns
places_split q at i [] h = absurd (omega (arith, h))
places_split q at i (n ∷ ns) h = go (q n) refl h (λ j k. places_split q (at + 1) j ns k) where
  deeper : (j : ℕ) (b : Bool) → b ≡ false → q n ≡ b → Split q (at + 1) j ns → Split q at j (n ∷ ns)
  deeper j b z e s =
      let none : q n ≡ false = e ∙ z in
      let same : places q at (n ∷ ns) ≡ places q (at + 1) ns = ap (λ (x : Bool). listed x at (places q (at + 1) ns)) none in
      let far : at + 1 + length s.front ≡ at + length (n ∷ s.front) = omega arith in
      record {
        front = n ∷ s.front;
        node = s.node;
        behind = s.behind;
        split = ap (λ (zs : List Node). n ∷ zs) s.split;
        passes = s.passes;
        place = ap (λ (ps : List ℕ). get_or ps j 0) same ∙ s.place ∙ far;
        before = ap (take j) same ∙ s.before ∙ sym (ap (λ (x : Bool). listed x at (places q (at + 1) s.front)) none);
        after = ap (drop (j + 1)) same ∙ s.after ∙ ap (λ (k : ℕ). places q (k + 1) s.behind) far;
      }

  go : (b : Bool) → q n ≡ b → i < length (listed b at (places q (at + 1) ns)) → ((j : ℕ) → j < length (places q (at + 1) ns) → Split q (at + 1) j ns) → Split q at i (n ∷ ns)
  go false e k rec = deeper i false refl e (rec i k)
  go true e k rec = here i k where
    same : places q at (n ∷ ns) ≡ at ∷ places q (at + 1) ns
    same = ap (λ (x : Bool). listed x at (places q (at + 1) ns)) e

    here : (j : ℕ) → j < suc (length (places q (at + 1) ns)) → Split q at j (n ∷ ns)
    here zero l = record {
      front = [];
      node = n;
      behind = ns;
      split = refl;
      passes = e;
      place = ap (λ (ps : List ℕ). get_or ps 0 0) same ∙ (let z : at ≡ at + 0 = omega arith in z);
      before = ap (take 0) same;
      after = ap (drop 1) same ∙ (let z : at + 1 ≡ at + 0 + 1 = omega arith in ap (λ (k : ℕ). places q k ns) z);
    }
    here (suc j) l =
        let s = rec j (omega (arith, l)) in
        let far : at + 1 + length s.front ≡ at + length (n ∷ s.front) = omega arith in
        record {
          front = n ∷ s.front;
          node = s.node;
          behind = s.behind;
          split = ap (λ (zs : List Node). n ∷ zs) s.split;
          passes = s.passes;
          place = ap (λ (ps : List ℕ). get_or ps (suc j) 0) same ∙ s.place ∙ far;
          before = ap (take (suc j)) same ∙ ap (λ (ps : List ℕ). at ∷ ps) s.before ∙ sym (ap (λ (x : Bool). listed x at (places q (at + 1) s.front)) e);
          after = ap (λ (k : ℕ). drop k (places q at (n ∷ ns))) (add-one (suc j)) ∙ ap (drop (suc (suc j))) same ∙ ap (λ (k : ℕ). drop k (places q (at + 1) ns)) (sym (add-one j)) ∙ s.after ∙ ap (λ (k : ℕ). places q (k + 1) s.behind) far;
        }

-- ---- nodes that change

-- the change does not touch a node that does not pass
abbrev pub Spares : Change → (Node → Bool) → Type 0
Spares how q = (n : Node) → q n ≡ false → changed how n ≡ n

pub freeze_spares : Spares Freeze is_live
freeze_spares (node.Run r) h = absurd cc
freeze_spares (node.Opening o) h = absurd cc
freeze_spares n h = refl

calm_opening : (i a : Bool) (behind : ℕ) → (a && not i) ≡ false → changed Calm (node.Opening (record { is_image = i; is_active = a; behind = behind })) ≡ node.Opening (record { is_image = i; is_active = a; behind = behind })
calm_opening true true behind h = refl
calm_opening true false behind h = refl
calm_opening false true behind h = absurd cc
calm_opening false false behind h = refl

pub calm_spares : Spares Calm begins_link
calm_spares (node.Opening o) h = calm_opening o.is_image o.is_active o.behind h
calm_spares n h = refl

change_here : (how : Change) (xs : List Node) (n : Node) (ns : List Node) (at : ℕ) → at ≡ length xs → change_between how at (at + 1) (xs ++ n ∷ ns) ≡ xs ++ changed how n ∷ ns
change_here how [] n ns at e = ap (λ (k : ℕ). change_between how k (k + 1) (n ∷ ns)) e ∙ (let one : 0 + 1 ≡ 1 = omega arith in ap (λ (k : ℕ). change_between how 0 k (n ∷ ns)) one) ∙ ap (λ (zs : List Node). changed how n ∷ zs) (change_none how 0 0 ns (omega arith))
change_here how (x ∷ xs) n ns at e =
    let more : suc (length xs) + 1 ≡ suc (length xs + 1) = omega arith in
    ap (λ (k : ℕ). change_between how k (k + 1) (x ∷ (xs ++ n ∷ ns))) e ∙ ap (λ (k : ℕ). change_between how (suc (length xs)) k (x ∷ (xs ++ n ∷ ns))) more ∙ ap (λ (zs : List Node). x ∷ zs) (change_here how xs n ns (length xs) refl)

pub change_picked : (how : Change) (q : Node → Bool) (f : Node → Node) (same : (n : Node) → cond (q n) (changed how n) n ≡ f n) (xs ms ys : List Node) (at : ℕ) → at ≡ length xs → change_each how (places q at ms) (xs ++ (ms ++ ys)) ≡ xs ++ (map f ms ++ ys)
change_picked how q f same xs [] ys at e = refl
change_picked how q f same xs (m ∷ ms) ys at e = go (q m) refl (same m) (λ zs k. change_picked how q f same zs ms ys (at + 1) k) where
  far : (n : Node) → at + 1 ≡ length (xs ++ n ∷ [])
  far n = omega (arith, e, length-append xs (n ∷ []))

  go : (b : Bool) → q m ≡ b → cond (q m) (changed how m) m ≡ f m → ((zs : List Node) → at + 1 ≡ length zs → change_each how (places q (at + 1) ms) (zs ++ (ms ++ ys)) ≡ zs ++ (map f ms ++ ys))
      → change_each how (listed b at (places q (at + 1) ms)) (xs ++ m ∷ (ms ++ ys)) ≡ xs ++ f m ∷ (map f ms ++ ys)
  go true h k rec =
      ap (change_each how (places q (at + 1) ms)) (change_here how xs m (ms ++ ys) at e ∙ sym (append_assoc xs (changed how m ∷ []) (ms ++ ys))) ∙ rec (xs ++ changed how m ∷ []) (far (changed how m)) ∙ append_assoc xs (changed how m ∷ []) (map f ms ++ ys)
      ∙ ap (λ (n : Node). xs ++ n ∷ (map f ms ++ ys)) (sym (ap (λ (b : Bool). cond b (changed how m) m) h) ∙ k)
  go false h k rec =
      ap (change_each how (places q (at + 1) ms)) (sym (append_assoc xs (m ∷ []) (ms ++ ys))) ∙ rec (xs ++ m ∷ []) (far m) ∙ append_assoc xs (m ∷ []) (map f ms ++ ys)
      ∙ ap (λ (n : Node). xs ++ n ∷ (map f ms ++ ys)) (sym (ap (λ (b : Bool). cond b (changed how m) m) h) ∙ k)

spared : (how : Change) (q : Node → Bool) (spares : Spares how q) (n : Node) → cond (q n) (changed how n) n ≡ changed how n
spared how q spares n = go (q n) refl where
  go : (b : Bool) → q n ≡ b → cond b (changed how n) n ≡ changed how n
  go true h = refl
  go false h = sym (spares n h)

pub change_listed : (how : Change) (q : Node → Bool) (spares : Spares how q) (xs ms ys : List Node) (at : ℕ) → at ≡ length xs → change_each how (places q at ms) (xs ++ (ms ++ ys)) ≡ xs ++ (map (changed how) ms ++ ys)
change_listed how q spares xs ms ys at e = change_picked how q (changed how) (spared how q spares) xs ms ys at e

-- ---- what a change leaves

pub frozen_live : (n : Node) → is_live (changed Freeze n) ≡ false
frozen_live (node.Run r) = refl
frozen_live (node.Opening o) = refl
frozen_live n = refl

pub frozen_run : (n : Node) → is_run (changed Freeze n) ≡ false
frozen_run (node.Run r) = refl
frozen_run (node.Opening o) = refl
frozen_run n = refl

pub frozen_bracket : (n : Node) → is_bracket (changed Freeze n) ≡ false
frozen_bracket (node.Run r) = refl
frozen_bracket (node.Opening o) = refl
frozen_bracket n = refl

pub frozen_link : (n : Node) → begins_link (changed Freeze n) ≡ false
frozen_link (node.Run r) = refl
frozen_link (node.Opening o) = refl
frozen_link n = refl

pub calm_run : (n : Node) → is_run (changed Calm n) ≡ is_run n
calm_run (node.Opening o) = refl
calm_run n = refl

pub calm_bracket : (n : Node) → is_bracket (changed Calm n) ≡ is_bracket n
calm_bracket (node.Opening o) = refl
calm_bracket n = refl

calm_false : (a i : Bool) → ((a && i) && not i) ≡ false
calm_false true true = refl
calm_false true false = refl
calm_false false true = refl
calm_false false false = refl

pub calm_link : (n : Node) → begins_link (changed Calm n) ≡ false
calm_link (node.Opening o) = calm_false o.is_active o.is_image
calm_link n = refl

-- ---- live nodes

pub live_none : (n : Node) → is_live n ≡ false → is_run n ≡ false
live_none (node.Run r) h = absurd cc
live_none n h = refl

pub link_bracket : (n : Node) → is_bracket n ≡ false → begins_link n ≡ false
link_bracket (node.Opening o) h = absurd cc
link_bracket n h = refl

pub run_live : (n : Node) → is_bracket n ≡ false → is_run n ≡ is_live n
run_live (node.Run r) h = refl
run_live (node.Opening o) h = absurd cc
run_live n h = refl

-- ---- the last node that passes

pub last_none : (q : Node → Bool) (ns : List Node) → All (λ n. q n ≡ false) ns → last_place q ns ≡ None
last_none q [] h = refl
last_none q (n ∷ ns) h =
    ap (λ (o : Option ℕ). elim o as (λ x. Option ℕ) [ Some k ↦ Some (suc k) | None ↦ cond (q n) (Some 0) None ]) (last_none q ns (All-tail (λ m. q m ≡ false) n ns h)) ∙ ap (λ (b : Bool). cond b (Some 0) None) (All-head (λ m. q m ≡ false) n ns h)

pub last_found : (q : Node → Bool) (a : List Node) (n : Node) (b : List Node) → q n ≡ true → last_place q b ≡ None → last_place q (a ++ n ∷ b) ≡ Some (length a)
last_found q [] n b h k = ap (λ (o : Option ℕ). elim o as (λ x. Option ℕ) [ Some k ↦ Some (suc k) | None ↦ cond (q n) (Some 0) None ]) k ∙ ap (λ (c : Bool). cond c (Some 0) None) h
last_found q (m ∷ a) n b h k = ap (λ (o : Option ℕ). elim o as (λ x. Option ℕ) [ Some k ↦ Some (suc k) | None ↦ cond (q m) (Some 0) None ]) (last_found q a n b h k)

-- the last place on a list is that of the last node that passes
pub last_on_list : (q : Node → Bool) (ns : List Node) (ps : List ℕ) → ps ≡ places q 0 ns → 0 < length ps → last_place q ns ≡ Some (get_or ps (length ps - 1) 0)
last_on_list q ns ps e some =
    let size : length ps ≡ length (places q 0 ns) = ap (λ (xs : List ℕ). length xs) e in
    let s = places_split q 0 (length ps - 1) ns (omega (arith, size, some)) in
    let past : length (places q 0 ns) ≤ length ps - 1 + 1 = omega (arith, size, some) in
    let none : places q (0 + length s.front + 1) s.behind ≡ [] = sym s.after ∙ drop_all (length ps - 1 + 1) (places q 0 ns) past in
    let place : get_or ps (length ps - 1) 0 ≡ length s.front = ap (λ (xs : List ℕ). get_or xs (length ps - 1) 0) e ∙ s.place ∙ (let z : 0 + length s.front ≡ length s.front = omega arith in z) in
    ap (last_place q) s.split ∙ last_found q s.front s.node s.behind s.passes (last_none q s.behind (none_in q (0 + length s.front + 1) s.behind none)) ∙ ap (λ (k : ℕ). Some k) (sym place)

pub none_on_list : (q : Node → Bool) (ns : List Node) → [] ≡ places q 0 ns → last_place q ns ≡ None
none_on_list q ns e = last_none q ns (none_in q 0 ns (sym e))

-- ---- a list that is cut

le_true : (x y : ℕ) → x ≤ y → nat_le x y ≡ true
le_true x y h = grind (arith, h)

le_false : (x y : ℕ) → y < x → nat_le x y ≡ false
le_false x y h = grind (arith, h)

true_le : (x y : ℕ) → nat_le x y ≡ true → x ≤ y
true_le x y h = grind (arith, h)

false_le : (x y : ℕ) → nat_le x y ≡ false → y < x
false_le x y h = grind (arith, h)

module _ (xs before behind : List ℕ) (place : ℕ) (split : xs ≡ before ++ behind) (low : All (λ p. p ≤ place) before) (high : All (λ p. place < p) behind) where
  in_front : (i d : ℕ) → i < length before → get_or xs i d ≤ place
  in_front i d lt =
      let e : get_or xs i d ≡ get_or before i d = ap (λ (zs : List ℕ). get_or zs i d) split ∙ get_or_append_left before behind d i lt in
      let h = All-get_or (λ p. p ≤ place) before i d lt low in
      omega (arith, e, h)

  at_back : (i d : ℕ) → length before ≤ i → i < length xs → place < get_or xs i d
  at_back i d le lt =
      let e : get_or xs i d ≡ get_or behind (i - length before) d = ap (λ (zs : List ℕ). get_or zs i d) split ∙ get_or-append_right before behind (length before) i d refl le in
      let size : length xs ≡ length before + length behind = ap (λ (zs : List ℕ). length zs) split ∙ length-append before behind in
      let inside : i - length before < length behind = omega (arith, size, lt, le) in
      let h = All-get_or (λ p. place < p) behind (i - length before) d inside high in
      omega (arith, e, h)

  pub is_cut : IsPartitionedBy (λ p. nat_le p place) xs
  is_cut i j d le lt h = go (nat_lt j (length before)) refl where
    go : (b : Bool) → nat_lt j (length before) ≡ b → nat_le (get_or xs i d) place ≡ true
    go true e = let l : j < length before = grind (arith, e) in le_true (get_or xs i d) place (in_front i d (omega (arith, l, le)))
    go false e =
        let l : length before ≤ j = grind (arith, e) in
        absurd (let above = at_back j d l lt in let below = true_le (get_or xs j d) place h in omega (arith, above, below))

  pub cut_at : (i : ℕ) → i ≤ length xs → IsPartitionPoint (λ p. nat_le p place ≡ true) (λ p. nat_le p place ≡ false) xs i → i ≡ length before
  cut_at i le h = go (nat_lt i (length before)) refl (nat_lt (length before) i) refl where
    size : length xs ≡ length before + length behind
    size = ap (λ (zs : List ℕ). length zs) split ∙ length-append before behind

    go : (a : Bool) → nat_lt i (length before) ≡ a → (b : Bool) → nat_lt (length before) i ≡ b → i ≡ length before
    go true e b f =
        let lt : i < length before = grind (arith, e) in
        let below = in_front i 0 lt in
        let above = false_le (get_or xs i 0) place (h.1 i 0 (omega arith) (omega (arith, lt, size))) in
        absurd (omega (arith, below, above))
    go false e true f =
        let lt : length before < i = grind (arith, f) in
        let above = at_back (length before) 0 (omega arith) (omega (arith, lt, le)) in
        let below = true_le (get_or xs (length before) 0) place (h.0 (length before) 0 (omega arith) lt) in
        absurd (omega (arith, below, above))
    go false e false f = let l : length before ≤ i = grind (arith, e) in let k : i ≤ length before = grind (arith, f) in omega (arith, l, k)
