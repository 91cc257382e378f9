-- The lists of places, as brackets close.
use Rattle.site_base.specs.declared.errors.Memory.{Memory}
use Rattle.std.proofs.Common.{Err, Ok, OnOk, Result, ◌≡◌, ◌∙◌, All, Bool, List, None, Option, Some, [], add-one, ap, append-nil, append_assoc, arith, cond, drop, false, get_or, length, length-append, map, not, refl, replicate, slice_get, subst, suc, sym, take, true, zero, ℕ, ◌&&◌, ◌++◌, ◌+◌, ◌-◌, ◌<◌, ◌∷◌, ◌≤◌}
use Rattle.std.proofs.Math.ListN.{set}
use Rattle.std.proofs.lemmas.List.{drop_at, length-map, length-take-le, take-append-drop, take_at, take_rest}
use Rattle.std.proofs.lemmas.List.Elements.{All-cons, All-nil, All-push, All-weaker}
use Rattle.cm_spans.specs.declared.spans.Span.{Span}
use Rattle.cm_spans.specs.declared.spans.Span.TheVariants as span
use Rattle.cm_inlines.specs.Machine.{change_between, changed, last_place}
use Rattle.cm_inlines.specs.Pairing.{PairsAll, Starts}
use Rattle.cm_inlines.specs.Places.{Adds, IsLast, Lists, Shut, begins_link, bracket_places, change_each, is_bracket, is_live, is_run, link_places, listed, places, run_places}
use Rattle.cm_inlines.specs.States.{waiting}
use Rattle.cm_inlines.specs.Steps.{closing_node, found_at, found_in, inside_paired, last_opening, opening_of, span_nodes, unlinked_nodes}
use Rattle.cm_inlines.specs.declared.changes.Change.{Change}
use Rattle.cm_inlines.specs.declared.changes.Change.TheVariants.{Calm, Freeze}
use Rattle.cm_inlines.specs.declared.delimiters.Delimiters.{Delimiters}
use Rattle.cm_inlines.specs.declared.node.Node.{Node}
use Rattle.cm_inlines.specs.declared.node.Node.TheVariants as node
use Rattle.cm_inlines.specs.declared.node.Opening.{Opening}
use Rattle.cm_inlines.specs.declared.reading.Found.{Found}
use Rattle.cm_inlines.proofs.Closing.{opening_start}
use Rattle.cm_inlines.proofs.PlaceLaws.{calm_bracket, calm_link, calm_run, calm_spares, change_listed, freeze_spares, frozen_live, last_on_list, link_bracket, none_in, none_on_list, places-append, places_away, places_map, places_none, places_range, places_same, run_live}
use Rattle.cm_inlines.proofs.Slots.{change_all_front, set_there}

-- ---- the last bracket

got : (xs : List ℕ) (i p : ℕ) → Some p ≡ slice_get xs i → (i < length xs) × (get_or xs i 0 ≡ p)
got [] i p h = absurd cc
got (x ∷ xs) zero p h = (omega arith, cc)
got (x ∷ xs) (suc i) p h = let g = got xs i p h in (omega (arith, g.0), g.1)

got_none : (xs : List ℕ) (i : ℕ) → None ≡ slice_get xs i → length xs ≤ i
got_none [] i h = omega arith
got_none (x ∷ xs) zero h = absurd cc
got_none (x ∷ xs) (suc i) h = omega (arith, got_none xs i h)

pub last_is_found : (ns : List Node) (ps : List ℕ) (p : ℕ) → ps ≡ places is_bracket 0 ns → Some p ≡ slice_get ps (length ps - 1) → last_opening ns ≡ found_at p (opening_of (slice_get ns p))
last_is_found ns ps p e h =
    let g = got ps (length ps - 1) p h in
    ap (found_in ns) (last_on_list is_bracket ns ps e (omega (arith, g.0)) ∙ ap (λ (k : ℕ). Some k) g.1)

pub last_is_none : (ns : List Node) (ps : List ℕ) → ps ≡ places is_bracket 0 ns → None ≡ slice_get ps (length ps - 1) → last_opening ns ≡ None
last_is_none ns [] e h = ap (found_in ns) (none_on_list is_bracket ns e)
last_is_none ns (p ∷ ps) e h = absurd (omega (arith, got_none (p ∷ ps) (length (p ∷ ps) - 1) h))

-- ---- nodes round a place

pub record Round (place : ℕ) (n : Node) (ns : List Node) : Type 0 where
  pub split : ns ≡ take place ns ++ n ∷ drop (place + 1) ns
  pub size : length (take place ns) ≡ place
  pub within : place < length ns

pub round : (ns : List Node) (place : ℕ) (n : Node) → slice_get ns place ≡ Some n → Round place n ns
round [] place n h = absurd cc
round (m ∷ ns) zero n h = record { split = ap (λ (x : Node). x ∷ ns) (let e : m ≡ n = cc in e); size = refl; within = omega arith }
round (m ∷ ns) (suc place) n h =
    let r = round ns place n h in
    record {
      split = ap (λ (zs : List Node). m ∷ zs) (r.split ∙ ap (λ (k : ℕ). take place ns ++ n ∷ drop k ns) (add-one place)) ∙ sym (ap (λ (k : ℕ). (m ∷ take place ns) ++ n ∷ drop k (m ∷ ns)) (add-one (suc place)));
      size = ap (λ (k : ℕ). suc k) r.size;
      within = omega (arith, r.within);
    }

-- what passes in nodes with one in their midst
pub places_round : (q : Node → Bool) (front : List Node) (n : Node) (behind : List Node) (place : ℕ) → length front ≡ place → places q 0 (front ++ n ∷ behind) ≡ places q 0 front ++ listed (q n) place (places q (place + 1) behind)
places_round q front n behind place size =
    let e : 0 + length front ≡ place = omega (arith, size) in
    places-append q 0 front (n ∷ behind) ∙ ap (λ (k : ℕ). places q 0 front ++ listed (q n) k (places q (k + 1) behind)) e

-- the list without what stands at the place
popped : (xs ps : List ℕ) (p : ℕ) → ps ≡ xs ++ p ∷ [] → take (length ps - 1) ps ≡ xs
popped xs ps p e =
    let size : length xs ≡ length ps - 1 = omega (arith, ap (λ (zs : List ℕ). length zs) e, length-append xs (p ∷ [])) in
    ap (take (length ps - 1)) e ∙ take_at xs (p ∷ []) (length ps - 1) size

-- ---- the lists, once the last bracket is found

abbrev some_first : Bool → Option ℕ
some_first b = cond b (Some 0) None

last_none_all : (q : Node → Bool) (ns : List Node) → last_place q ns ≡ None → All (λ n. q n ≡ false) ns
last_none_all q [] h = All-nil (λ n. q n ≡ false)
last_none_all q (n ∷ ns) h = go (last_place q ns) refl h (last_none_all q ns) where
  go : (o : Option ℕ) → last_place q ns ≡ o → elim o as (λ x. Option ℕ) [ Some k ↦ Some (suc k) | None ↦ cond (q n) (Some 0) None ] ≡ None → (last_place q ns ≡ None → All (λ m. q m ≡ false) ns) → All (λ m. q m ≡ false) (n ∷ ns)
  go (Some k) e f rec = absurd cc
  go None e f rec = here (q n) refl f where
    here : (b : Bool) → q n ≡ b → some_first b ≡ None → All (λ m. q m ≡ false) (n ∷ ns)
    here true g l = absurd cc
    here false g l = All-cons (λ m. q m ≡ false) n ns g (rec e)

none_after : (q : Node → Bool) (ns : List Node) (p : ℕ) → last_place q ns ≡ Some p → All (λ n. q n ≡ false) (drop (p + 1) ns)
none_after q [] p h = absurd cc
none_after q (n ∷ ns) p h = go (last_place q ns) refl h (none_after q ns) where
  go : (o : Option ℕ) → last_place q ns ≡ o → elim o as (λ x. Option ℕ) [ Some k ↦ Some (suc k) | None ↦ cond (q n) (Some 0) None ] ≡ Some p → ((k : ℕ) → last_place q ns ≡ Some k → All (λ m. q m ≡ false) (drop (k + 1) ns)) → All (λ m. q m ≡ false) (drop (p + 1) (n ∷ ns))
  go (Some k) e f rec = let same : suc k ≡ p = cc in subst (λ (j : ℕ). All (λ m. q m ≡ false) (drop j (n ∷ ns))) (let z : suc (k + 1) ≡ p + 1 = omega (arith, same) in z) (rec k e)
  go None e f rec = here (q n) f where
    here : (b : Bool) → some_first b ≡ Some p → All (λ m. q m ≡ false) (drop (p + 1) (n ∷ ns))
    here true g = let same : 0 ≡ p = cc in subst (λ (j : ℕ). All (λ m. q m ≡ false) (drop j (n ∷ ns))) (let z : 1 ≡ p + 1 = omega (arith, same) in z) (last_none_all q ns e)
    here false g = absurd cc

-- nodes behind the last bracket
pub record Behind (ns : List Node) (f : Found) : Type 0 where
  pub there : slice_get ns f.place ≡ Some (node.Opening f.opening)
  pub none : places is_bracket (f.place + 1) (drop (f.place + 1) ns) ≡ []

-- the place and the opening of the last bracket
pub behind_last : (ns : List Node) (f : Found) → last_opening ns ≡ Some f → Behind ns f
behind_last ns f h = go (last_place is_bracket ns) refl h where
  go : (o : Option ℕ) → last_place is_bracket ns ≡ o → found_in ns o ≡ Some f → Behind ns f
  go None e k = absurd cc
  go (Some p) e k = at (slice_get ns p) refl k where
    at : (x : Option Node) → slice_get ns p ≡ x → found_at p (opening_of x) ≡ Some f → Behind ns f
    at (Some (node.Opening o)) g l =
        let place : p ≡ f.place = cc in
        let same : o ≡ f.opening = cc in
        record {
          there = ap (slice_get ns) (sym place) ∙ g ∙ ap (λ (x : Opening). Some (node.Opening x)) same;
          none = places_none is_bracket (f.place + 1) (drop (f.place + 1) ns) (subst (λ (k : ℕ). All (λ n. is_bracket n ≡ false) (drop (k + 1) ns)) place (none_after is_bracket ns p e));
        }
    at x g l = absurd cc

pub last_lists : (d left : Delimiters) (f : Found) (ns : List Node) → Lists d ns → last_opening ns ≡ Some f → waiting 0 ns ≡ Some 0 → left.runs.items ≡ d.runs.items → left.brackets.items ≡ take (length d.brackets.items - 1) d.brackets.items
    → left.links.items ≡ cond (f.opening.is_active && not f.opening.is_image) (take (length d.links.items - 1) d.links.items) d.links.items → IsLast f left ns
last_lists d left f ns l h slots runs brackets links =
    let b = behind_last ns f h in
    let front = take f.place ns in
    let inside = drop (f.place + 1) ns in
    let r = round ns f.place (node.Opening f.opening) b.there in
    let shape : (q : Node → Bool) → places q 0 ns ≡ places q 0 front ++ listed (q (node.Opening f.opening)) f.place (places q (f.place + 1) inside) = λ q. ap (places q 0) r.split ∙ places_round q front (node.Opening f.opening) inside f.place r.size in
    let no_links : places begins_link (f.place + 1) inside ≡ [] = places_none begins_link (f.place + 1) inside (All-weaker (λ n. is_bracket n ≡ false) (λ n. begins_link n ≡ false) link_bracket inside (none_in is_bracket (f.place + 1) inside b.none)) in
    record {
      there = b.there;
      none = b.none;
      slots = (opening_start front inside f.opening (ap (waiting 0) (sym r.split) ∙ slots)).1;
      runs = runs ∙ l.runs ∙ shape is_run;
      brackets = brackets ∙ popped (places is_bracket 0 front) d.brackets.items f.place (l.brackets ∙ shape is_bracket ∙ ap (λ (ps : List ℕ). places is_bracket 0 front ++ f.place ∷ ps) b.none);
      links = links ∙ link_left (f.opening.is_active && not f.opening.is_image) (places begins_link 0 front) d.links.items f.place (l.links ∙ shape begins_link ∙ ap (λ (ps : List ℕ). places begins_link 0 front ++ listed (begins_link (node.Opening f.opening)) f.place ps) no_links);
    } where
      link_left : (c : Bool) (xs ps : List ℕ) (p : ℕ) → ps ≡ xs ++ listed c p [] → cond c (take (length ps - 1) ps) ps ≡ xs
      link_left true xs ps p e = popped xs ps p e
      link_left false xs ps p e = e ∙ append-nil xs

-- ---- what is inside is paired

front_low : (ns : List Node) (place : ℕ) → place ≤ length ns → All (λ p. p ≤ place) (places is_run 0 (take place ns))
front_low ns place le =
    let size : length (take place ns) ≡ place = length-take-le place ns le in
    All-weaker (λ p. (0 ≤ p) × (p < 0 + length (take place ns))) (λ p. p ≤ place) (λ p h. omega (arith, h.1, size)) (places is_run 0 (take place ns)) (places_range is_run 0 (take place ns))

inside_high : (ns : List Node) (place : ℕ) → All (λ p. place < p) (places is_run (place + 1) (drop (place + 1) ns))
inside_high ns place = All-weaker (λ p. (place + 1 ≤ p) × (p < place + 1 + length (drop (place + 1) ns))) (λ p. place < p) (λ p h. omega (arith, h.0)) (places is_run (place + 1) (drop (place + 1) ns)) (places_range is_run (place + 1) (drop (place + 1) ns))

last_within : (f : Found) (d : Delimiters) (ns : List Node) → IsLast f d ns → f.place < length ns
last_within f d ns l = (round ns f.place (node.Opening f.opening) l.there).within

-- where the runs behind the bracket begin
pub first_is : (f : Found) (d : Delimiters) (ns : List Node) (first : ℕ) (runs : List ℕ) → IsLast f d ns → runs ≡ d.runs.items → ((before behind : List ℕ) → runs ≡ before ++ behind → All (λ p. p ≤ f.place) before → All (λ p. f.place < p) behind → first ≡ length before) → first ≡ length (places is_run 0 (take f.place ns))
first_is f d ns first runs l e h =
    let lt = last_within f d ns l in
    h (places is_run 0 (take f.place ns)) (places is_run (f.place + 1) (drop (f.place + 1) ns)) (e ∙ l.runs) (front_low ns f.place (omega (arith, lt))) (inside_high ns f.place)

pub inside_starts : (f : Found) (d : Delimiters) (ns : List Node) (first : ℕ) (runs : List ℕ) → IsLast f d ns → runs ≡ d.runs.items → first ≡ length (places is_run 0 (take f.place ns)) → Starts (f.place + 1) ns (take (length runs - first) (drop first runs))
inside_starts f d ns first runs l e size =
    let inside = drop (f.place + 1) ns in
    let lt = last_within f d ns l in
    record {
      order = omega (arith, lt);
      slots = l.slots;
      runs =
          take_rest runs first ∙ ap (drop first) (e ∙ l.runs) ∙ drop_at (places is_run 0 (take f.place ns)) (places is_run (f.place + 1) inside) first (sym size)
          ∙ places_same is_run is_live (f.place + 1) inside (All-weaker (λ n. is_bracket n ≡ false) (λ n. is_run n ≡ is_live n) run_live inside (none_in is_bracket (f.place + 1) inside l.none));
    }

change_tail : (how : Change) (xs ms : List Node) (from to : ℕ) → from ≡ length xs → to ≡ length xs + length ms → change_between how from to (xs ++ ms) ≡ xs ++ map (changed how) ms
change_tail how [] ms from to e f =
    let g : to ≡ length ms = omega (arith, f) in
    ap (λ (k : ℕ). change_between how k to ms) e ∙ ap (change_between how 0 to) (sym (append-nil ms)) ∙ change_all_front how ms [] to g ∙ append-nil (map (changed how) ms)
change_tail how (x ∷ xs) ms from to e f =
    let g : to ≡ suc (length xs + length ms) = omega (arith, f) in
    ap (λ (k : ℕ). change_between how k to (x ∷ (xs ++ ms))) e ∙ ap (λ (k : ℕ). change_between how (suc (length xs)) k (x ∷ (xs ++ ms))) g ∙ ap (λ (zs : List Node). x ∷ zs) (change_tail how xs ms (length xs) (length xs + length ms) refl refl)

-- what is left is frozen
pub record Frozen (start : ℕ) (ns new : List Node) : Type 0 where
  pub made : new ≡ take start ns ++ map (changed Freeze) (drop start ns)
  pub between : new ≡ change_between Freeze start (length ns) ns

pub freezes : (start : ℕ) (ns new : List Node) (ps : List ℕ) → start ≤ length ns → ps ≡ places is_live start (drop start ns) → new ≡ change_each Freeze ps ns → Frozen start ns new
freezes start ns new ps le e h =
    let front = take start ns in
    let inside = drop start ns in
    let size : length front ≡ start = length-take-le start ns le in
    let whole : ns ≡ front ++ inside = sym (take-append-drop start ns) in
    let more : front ++ inside ≡ front ++ (inside ++ []) = ap (λ (zs : List Node). front ++ zs) (sym (append-nil inside)) in
    let made : new ≡ front ++ map (changed Freeze) inside =
    h ∙ ap (λ (qs : List ℕ). change_each Freeze qs ns) e ∙ ap (change_each Freeze (places is_live start inside)) (whole ∙ more) ∙ change_listed Freeze is_live freeze_spares front inside [] start (sym size)
    ∙ ap (λ (zs : List Node). front ++ zs) (append-nil (map (changed Freeze) inside)) in
    record {
      made = made;
      between = made ∙ sym (ap (change_between Freeze start (length ns)) whole ∙ change_tail Freeze front inside start (length ns) (sym size) (omega (arith, ap (λ (zs : List Node). length zs) whole, length-append front inside)));
    }

pub inside_value : (place : ℕ) (old paired new : List Node) (left : List ℕ) → PairsAll (place + 1) old paired left → new ≡ change_each Freeze left paired → new ≡ inside_paired place old
inside_value place old paired new left p e =
    (freezes (place + 1) paired new left p.within p.left e).between ∙ ap (λ (zs : List Node). change_between Freeze (place + 1) (length zs) zs) p.value

pub inside_shut : (place first : ℕ) (old paired new : List Node) (left runs kept behind : List ℕ) → PairsAll (place + 1) old paired left → new ≡ change_each Freeze left paired → runs ≡ places is_run 0 (take place old) ++ behind → first ≡ length (places is_run 0 (take place old)) → kept ≡ take first runs → Shut place old new kept
inside_shut place first old paired new left runs kept behind p e r size k =
    let f = freezes (place + 1) paired new left p.within p.left e in
    let front = take (place + 1) paired in
    let frozen = map (changed Freeze) (drop (place + 1) paired) in
    let far : length front ≡ place + 1 = length-take-le (place + 1) paired p.within in
    record {
      front = ap (take (place + 1)) f.made ∙ take_at front frozen (place + 1) far ∙ p.front;
      within = omega (arith, ap (λ (zs : List Node). length zs) f.made, length-append front frozen, far);
      none = ap (λ (zs : List Node). places is_live (place + 1) (drop (place + 1) zs)) f.made ∙ ap (places is_live (place + 1)) (drop_at front frozen (place + 1) far) ∙ places_away is_live (changed Freeze) frozen_live (place + 1) (drop (place + 1) paired);
      left = k ∙ ap (take first) r ∙ take_at (places is_run 0 (take place old)) behind first (sym size);
    }

-- ---- a container

abbrev Dead : Node → Type 0
Dead n = is_live n ≡ false

-- the bracket's node is another, in front of what is inside
shut_shape : (f : Found) (d : Delimiters) (old paired : List Node) (runs : List ℕ) (opener : Node) → IsLast f d old → Shut f.place old paired runs → set paired f.place opener ≡ take f.place old ++ opener ∷ drop (f.place + 1) paired
shut_shape f d old paired runs opener l s =
    let front = take f.place old in
    let behind = drop (f.place + 1) paired in
    let r = round old f.place (node.Opening f.opening) l.there in
    let first : take (f.place + 1) old ≡ front ++ node.Opening f.opening ∷ [] =
    ap (take (f.place + 1)) (r.split ∙ sym (append_assoc front (node.Opening f.opening ∷ []) (drop (f.place + 1) old))) ∙ take_at (front ++ node.Opening f.opening ∷ []) (drop (f.place + 1) old) (f.place + 1) (omega (arith, r.size, length-append front (node.Opening f.opening ∷ []))) in
    let shape : paired ≡ front ++ node.Opening f.opening ∷ behind = sym (take-append-drop (f.place + 1) paired) ∙ ap (λ (zs : List Node). zs ++ behind) (s.front ∙ first) ∙ append_assoc front (node.Opening f.opening ∷ []) behind in
    ap (λ (zs : List Node). set zs f.place opener) shape ∙ set_there front (node.Opening f.opening) behind opener f.place (sym r.size)

dead_run : (n : Node) → Dead n → is_run n ≡ false
dead_run (node.Run r) h = absurd cc
dead_run n h = refl

dead_bracket : (n : Node) → Dead n → is_bracket n ≡ false
dead_bracket (node.Opening o) h = absurd cc
dead_bracket n h = refl

dead_link : (n : Node) → Dead n → begins_link n ≡ false
dead_link (node.Opening o) h = absurd cc
dead_link n h = refl

-- only what stands before is listed
contained_places : (q : Node → Bool) (dies : (n : Node) → Dead n → q n ≡ false) (front : List Node) (opener : Node) (behind : List Node) (closer : Node) (place : ℕ) → length front ≡ place → Dead opener → Dead closer → All Dead behind → places q 0 (front ++ opener ∷ (behind ++ closer ∷ [])) ≡ places q 0 front
contained_places q dies front opener behind closer place size a b dead =
    let rest : places q (place + 1) (behind ++ closer ∷ []) ≡ [] = places_none q (place + 1) (behind ++ closer ∷ []) (All-weaker Dead (λ n. q n ≡ false) dies (behind ++ closer ∷ []) (All-push Dead behind closer dead b)) in
    places_round q front opener (behind ++ closer ∷ []) place size ∙ ap (λ (c : Bool). places q 0 front ++ listed c place (places q (place + 1) (behind ++ closer ∷ []))) (dies opener a) ∙ ap (λ (ps : List ℕ). places q 0 front ++ ps) rest ∙ append-nil (places q 0 front)

pub image_lists : (f : Found) (d left : Delimiters) (old paired new : List Node) (opener closer : Node) → Dead opener → Dead closer → IsLast f d old → Shut f.place old paired left.runs.items → left.brackets.items ≡ d.brackets.items → left.links.items ≡ d.links.items
    → new ≡ set paired f.place opener ++ closer ∷ [] → Lists left new
image_lists f d left old paired new opener closer a b l s brackets links e =
    let front = take f.place old in
    let behind = drop (f.place + 1) paired in
    let size = (round old f.place (node.Opening f.opening) l.there).size in
    let made : new ≡ front ++ opener ∷ (behind ++ closer ∷ []) = e ∙ ap (λ (zs : List Node). zs ++ closer ∷ []) (shut_shape f d old paired left.runs.items opener l s) ∙ append_assoc front (opener ∷ behind) (closer ∷ []) in
    let same : (q : Node → Bool) → ((n : Node) → Dead n → q n ≡ false) → places q 0 new ≡ places q 0 front = λ q dies. ap (places q 0) made ∙ contained_places q dies front opener behind closer f.place size a b (none_in is_live (f.place + 1) behind s.none) in
    record {
      runs = s.left ∙ sym (same is_run dead_run);
      brackets = brackets ∙ l.brackets ∙ sym (same is_bracket dead_bracket);
      links = links ∙ l.links ∙ sym (same begins_link dead_link);
    }

-- what a link does with the brackets before it
pub record Calmed (place : ℕ) (old paired calm : List Node) (opener : Node) : Type 0 where
  pub made : calm ≡ map (changed Calm) (take place old) ++ opener ∷ drop (place + 1) paired
  pub between : calm ≡ change_between Calm 0 place (set paired place opener)

pub calms : (f : Found) (d : Delimiters) (old paired calm : List Node) (runs links : List ℕ) (opener : Node) → IsLast f d old → Shut f.place old paired runs → links ≡ d.links.items → calm ≡ change_each Calm links (set paired f.place opener) → Calmed f.place old paired calm opener
calms f d old paired calm runs links opener l s e h =
    let p = shut_shape f d old paired runs opener l s in
    let front = take f.place old in
    let size = (round old f.place (node.Opening f.opening) l.there).size in
    let made : calm ≡ map (changed Calm) front ++ opener ∷ drop (f.place + 1) paired =
    h ∙ ap (λ (ps : List ℕ). change_each Calm ps (set paired f.place opener)) (e ∙ l.links) ∙ ap (change_each Calm (places begins_link 0 front)) p ∙ change_listed Calm begins_link calm_spares [] front (opener ∷ drop (f.place + 1) paired) 0 refl in
    record {
      made = made;
      between = made ∙ sym (ap (change_between Calm 0 f.place) p ∙ change_all_front Calm front (opener ∷ drop (f.place + 1) paired) f.place (sym size));
    }

pub link_lists : (f : Found) (d left : Delimiters) (old paired calm new : List Node) (runs : List ℕ) (opener closer : Node) → Dead opener → Dead closer → IsLast f d old → Shut f.place old paired runs → left.runs.items ≡ runs → left.brackets.items ≡ d.brackets.items → left.links.items ≡ []
    → Calmed f.place old paired calm opener → new ≡ calm ++ closer ∷ [] → Lists left new
link_lists f d left old paired calm new runs opener closer a b l s is brackets links c e =
    let front = take f.place old in
    let calmed = map (changed Calm) front in
    let behind = drop (f.place + 1) paired in
    let size : length calmed ≡ f.place = length-map front (changed Calm) ∙ (round old f.place (node.Opening f.opening) l.there).size in
    let made : new ≡ calmed ++ opener ∷ (behind ++ closer ∷ []) = e ∙ ap (λ (zs : List Node). zs ++ closer ∷ []) c.made ∙ append_assoc calmed (opener ∷ behind) (closer ∷ []) in
    let same : (q : Node → Bool) → ((n : Node) → Dead n → q n ≡ false) → places q 0 new ≡ places q 0 calmed = λ q dies. ap (places q 0) made ∙ contained_places q dies calmed opener behind closer f.place size a b (none_in is_live (f.place + 1) behind s.none) in
    record {
      runs = is ∙ s.left ∙ sym (same is_run dead_run ∙ places_map is_run is_run (changed Calm) calm_run 0 front);
      brackets = brackets ∙ l.brackets ∙ sym (same is_bracket dead_bracket ∙ places_map is_bracket is_bracket (changed Calm) calm_bracket 0 front);
      links = links ∙ sym (same begins_link dead_link ∙ places_away begins_link (changed Calm) calm_link 0 front);
    }

-- ---- brackets that are text

closing_places : (q : Node → Bool) → q closing_node ≡ false → (at : ℕ) (ns : List Node) → places q at (ns ++ closing_node ∷ []) ≡ places q at ns
closing_places q h at ns = places-append q at ns (closing_node ∷ []) ∙ ap (λ (b : Bool). places q at ns ++ listed b (at + length ns) []) h ∙ append-nil (places q at ns)

-- a node more that is on no list
pub still_lists : (d : Delimiters) (old new : List Node) (n : Node) → Dead n → Lists d old → new ≡ old ++ n ∷ [] → Lists d new
still_lists d old new n dead l e =
    let same : (q : Node → Bool) → q n ≡ false → places q 0 old ≡ places q 0 new = λ q h. sym (ap (places q 0) e ∙ places-append q 0 old (n ∷ []) ∙ ap (λ (b : Bool). places q 0 old ++ listed b (0 + length old) []) h ∙ append-nil (places q 0 old)) in
    record {
      runs = l.runs ∙ same is_run (dead_run n dead);
      brackets = l.brackets ∙ same is_bracket (dead_bracket n dead);
      links = l.links ∙ same begins_link (dead_link n dead);
    }

pub text_lists : (d : Delimiters) (old new : List Node) → Lists d old → new ≡ old ++ closing_node ∷ [] → Lists d new
text_lists d old new l e = still_lists d old new closing_node refl l e

pub unlinked_lists : (f : Found) (d : Delimiters) (old new : List Node) → IsLast f d old → new ≡ unlinked_nodes f old → Lists d new
unlinked_lists f d old new l e =
    let front = take f.place old in
    let inside = drop (f.place + 1) old in
    let r = round old f.place (node.Opening f.opening) l.there in
    let text = node.Bracket f.opening.is_image in
    let made : new ≡ (front ++ text ∷ inside) ++ closing_node ∷ [] = e ∙ ap (λ (zs : List Node). zs ++ closing_node ∷ []) (ap (λ (zs : List Node). set zs f.place text) r.split ∙ set_there front (node.Opening f.opening) inside text f.place (sym r.size)) in
    let same : (q : Node → Bool) → q closing_node ≡ false → q text ≡ false → places q 0 new ≡ places q 0 front ++ places q (f.place + 1) inside =
    λ q h k. ap (places q 0) made ∙ closing_places q h 0 (front ++ text ∷ inside) ∙ places_round q front text inside f.place r.size ∙ ap (λ (b : Bool). places q 0 front ++ listed b f.place (places q (f.place + 1) inside)) k in
    let no_links : places begins_link (f.place + 1) inside ≡ [] = places_none begins_link (f.place + 1) inside (All-weaker (λ n. is_bracket n ≡ false) (λ n. begins_link n ≡ false) link_bracket inside (none_in is_bracket (f.place + 1) inside l.none)) in
    record {
      runs = l.runs ∙ sym (same is_run refl refl);
      brackets = l.brackets ∙ sym (same is_bracket refl refl ∙ ap (λ (ps : List ℕ). places is_bracket 0 front ++ ps) l.none ∙ append-nil (places is_bracket 0 front));
      links = l.links ∙ sym (same begins_link refl refl ∙ ap (λ (ps : List ℕ). places begins_link 0 front ++ ps) no_links ∙ append-nil (places begins_link 0 front));
    }

-- ---- a span more

dead_gaps : (q : Node → Bool) → q node.Nothing ≡ false → (m at : ℕ) → places q at (replicate m node.Nothing) ≡ []
dead_gaps q h zero at = refl
dead_gaps q h (suc m) at = ap (λ (b : Bool). listed b at (places q (at + 1) (replicate m node.Nothing))) h ∙ dead_gaps q h m (at + 1)

span_runs : (s : Span) (at place : ℕ) → places is_run place (span_nodes s at) ≡ run_places s place
span_runs (span.Run m) at place = ap (λ (ps : List ℕ). place ∷ ps) (dead_gaps is_run refl (m.len - 1) (place + 1))
span_runs s at place = refl

span_brackets : (s : Span) (at place : ℕ) → places is_bracket place (span_nodes s at) ≡ bracket_places s place
span_brackets (span.Run m) at place = dead_gaps is_bracket refl (m.len - 1) (place + 1)
span_brackets s at place = refl

span_links : (s : Span) (at place : ℕ) → places begins_link place (span_nodes s at) ≡ link_places s place
span_links (span.Run m) at place = dead_gaps begins_link refl (m.len - 1) (place + 1)
span_links s at place = refl

pub span_lists : (s : Span) (at place : ℕ) (d more : Delimiters) (old new : List Node) → Lists d old → Adds d more s place → place ≡ length old → new ≡ old ++ span_nodes s at → Lists more new
span_lists s at place d more old new l a size e =
    let here : 0 + length old ≡ place = omega (arith, size) in
    let shape : (q : Node → Bool) → places q 0 new ≡ places q 0 old ++ places q place (span_nodes s at) = λ q. ap (places q 0) e ∙ places-append q 0 old (span_nodes s at) ∙ ap (λ (k : ℕ). places q 0 old ++ places q k (span_nodes s at)) here in
    record {
      runs = a.runs ∙ ap (λ (ps : List ℕ). ps ++ run_places s place) l.runs ∙ sym (shape is_run ∙ ap (λ (ps : List ℕ). places is_run 0 old ++ ps) (span_runs s at place));
      brackets = a.brackets ∙ ap (λ (ps : List ℕ). ps ++ bracket_places s place) l.brackets ∙ sym (shape is_bracket ∙ ap (λ (ps : List ℕ). places is_bracket 0 old ++ ps) (span_brackets s at place));
      links = a.links ∙ ap (λ (ps : List ℕ). ps ++ link_places s place) l.links ∙ sym (shape begins_link ∙ ap (λ (ps : List ℕ). places begins_link 0 old ++ ps) (span_links s at place));
    }

pub no_lists : (d : Delimiters) (ns : List Node) → d.runs.items ≡ [] → d.brackets.items ≡ [] → d.links.items ≡ [] → ns ≡ [] → Lists d ns
no_lists d ns a b c e = record {
  runs = a ∙ sym (ap (places is_run 0) e);
  brackets = b ∙ sym (ap (places is_bracket 0) e);
  links = c ∙ sym (ap (places begins_link 0) e);
}

-- ---- after a step that may fail

pub on_ok : {T : Type 0} (P Q : Type 0) (r : Result T Memory) → (P → Q) → OnOk r P → OnOk r Q
on_ok P Q (Ok x) f h = f h
on_ok P Q (Err e) f h = tt
