-- A pass over listed runs makes what the machine makes of all nodes.
use Rattle.std.proofs.Common.{◌≡◌, ◌∙◌, All, Bool, List, None, Option, Some, [], add-one, ap, append-nil, append_assoc, arith, cond, drop, false, get_or, inl, inr, length, length-append, map, nat_lt, not, refl, slice_get, subst, suc, sym, take, true, zero, ℕ, ◌%◌, ◌&&◌, ◌++◌, ◌+◌, ◌-◌, ◌<◌, ◌==◌, ◌||◌, ◌∷◌, ◌≤◌}
use Rattle.std.proofs.Math.ListN.{length-set, set}
use Rattle.std.proofs.lemmas.List.{drop_at, length-drop, length-take-le, take-append-drop, take_at, take_more}
use Rattle.std.proofs.lemmas.List.Elements.{All-append, All-cons, All-head, All-nil, All-tail, All-weaker}
use Rattle.markdown_grammar.specs.Emphasis.{lengths_fit, strength}
use Rattle.cm_inlines.specs.Machine.{change_between, changed, close_node, close_nodes, is_sought, last_place, open_node, open_nodes, opens_for, pair_at, pair_closer, pair_found, pair_from, pair_last, pair_nodes, pair_run, run_at, shorter}
use Rattle.cm_inlines.specs.Machine as sought
use Rattle.cm_inlines.specs.Pairing.{IsLike, Nearest, NoneFrom, OpensNot, Paired, PairsAll, PairsWith, Raised, Starts, closer_of, coming_by, floor_for, floor_of, kept_by, left_at, opens_at, leftover_of}
use Rattle.cm_inlines.specs.Places.{change_each, is_live, listed, places}
use Rattle.cm_inlines.specs.States.{waiting}
use Rattle.cm_inlines.specs.declared.changes.Change.TheVariants.{Freeze}
use Rattle.cm_inlines.specs.declared.node.Node.{Node}
use Rattle.cm_inlines.specs.declared.node.Run.{Run}
use Rattle.cm_inlines.specs.declared.node.Node.TheVariants as node
use Rattle.cm_inlines.specs.declared.openers.Misses.{Misses}
use Rattle.cm_inlines.specs.declared.openers.Opener.{Opener}
use Rattle.cm_inlines.specs.declared.openers.Openers.{Openers}
use Rattle.cm_inlines.specs.declared.pairing.Leftover.{Leftover}
use Rattle.cm_inlines.specs.declared.pairing.Leftover.TheVariants.{Shorter, UsedUp}
use Rattle.cm_inlines.proofs.PlaceLaws.{all_front, change_listed, freeze_spares, last_found, last_none, places-append, places_range, places_split}
use Rattle.cm_inlines.proofs.Slots.{after, change_behind, close_room, closed, get_there, live_close, only, opened, run_start, waiting-append}
use Rattle.cm_spans.specs.Pieces.{mark_byte}
use Rattle.cm_inlines.proofs.Walk.{closed_at, no_run_step, pair_made, run_is, sought_by, step_is, strength_some}

-- ---- a place that is reached

pub record Here (front : List Node) (x : ℕ) (ps ahead : List ℕ) (m : Misses) (ns whole : List Node) : Type 0 where
  pub done : List Node
  pub node : Node
  pub behind : List Node
  pub split : ns ≡ front ++ (done ++ node ∷ behind)
  pub slots : waiting 0 (done ++ node ∷ behind) ≡ Some 0
  pub live : is_live node ≡ true
  pub kept : ps ≡ places is_live (length front) done
  pub place : x ≡ length front + length done
  pub coming : ahead ≡ places is_live (length front + length done + 1) behind
  pub so_far : pair_from (length front) (length front + length done) (suc (length behind)) ns ≡ whole
  pub within : (mark first : ℕ) (opens : Bool) → floor_of m mark first opens ≤ length front + length done
  pub floors : (mark first : ℕ) (opens : Bool) → All (λ p. p < floor_of m mark first opens → OpensNot ns mark first opens p) ps

no_run : (n : Node) → is_live n ≡ false → run_at (Some n) ≡ None
no_run (node.Run r) h = absurd cc
no_run n h = refl

-- a node that is not live is passed over
idle_step : (front done : List Node) (n : Node) (left : List Node) → is_live n ≡ false → pair_from (length front) (length front + length done) (suc (length left)) (front ++ (done ++ n ∷ left)) ≡ pair_from (length front) (length front + length (done ++ n ∷ [])) (length left) (front ++ ((done ++ n ∷ []) ++ left))
idle_step front done n left h =
    let start = length front in
    let at : start + length done ≡ length (front ++ done) = omega (arith, length-append front done) in
    let next : start + length done + 1 ≡ start + length (done ++ n ∷ []) = omega (arith, length-append done (n ∷ [])) in
    ap (pair_from start (start + length done + 1) (length left)) (no_run_step front done n left start (start + length done) at (no_run n h))
    ∙ ap (λ (k : ℕ). pair_from start k (length left) (front ++ (done ++ n ∷ left))) next ∙ ap (λ (zs : List Node). pair_from start (start + length (done ++ n ∷ [])) (length left) (front ++ zs)) (sym (append_assoc done (n ∷ []) left))

arrives : (front : List Node) (x : ℕ) (ps ahead : List ℕ) (m : Misses) (whole done left : List Node) → waiting 0 (done ++ left) ≡ Some 0 → ps ≡ places is_live (length front) done → x ∷ ahead ≡ places is_live (length front + length done) left
    → pair_from (length front) (length front + length done) (length left) (front ++ (done ++ left)) ≡ whole → ((mark first : ℕ) (opens : Bool) → floor_of m mark first opens ≤ length front + length done)
    → ((mark first : ℕ) (opens : Bool) → All (λ p. p < floor_of m mark first opens → OpensNot (front ++ (done ++ left)) mark first opens p) ps) → Here front x ps ahead m (front ++ (done ++ left)) whole
arrives front x ps ahead m whole done [] s k c f w l = absurd cc
arrives front x ps ahead m whole done (n ∷ left) s k c f w l = go (is_live n) refl c (arrives front x ps ahead m whole (done ++ n ∷ []) left) where
  start : ℕ
  start = length front

  next : start + length done + 1 ≡ start + length (done ++ n ∷ [])
  next = omega (arith, length-append done (n ∷ []))

  flat : (done ++ n ∷ []) ++ left ≡ done ++ n ∷ left
  flat = append_assoc done (n ∷ []) left

  Rest : Type 0
  Rest = waiting 0 ((done ++ n ∷ []) ++ left) ≡ Some 0 → ps ≡ places is_live start (done ++ n ∷ []) → x ∷ ahead ≡ places is_live (start + length (done ++ n ∷ [])) left
      → pair_from start (start + length (done ++ n ∷ [])) (length left) (front ++ ((done ++ n ∷ []) ++ left)) ≡ whole → ((mark first : ℕ) (opens : Bool) → floor_of m mark first opens ≤ start + length (done ++ n ∷ []))
      → ((mark first : ℕ) (opens : Bool) → All (λ p. p < floor_of m mark first opens → OpensNot (front ++ ((done ++ n ∷ []) ++ left)) mark first opens p) ps) → Here front x ps ahead m (front ++ ((done ++ n ∷ []) ++ left)) whole

  go : (b : Bool) → is_live n ≡ b → x ∷ ahead ≡ listed b (start + length done) (places is_live (start + length done + 1) left) → Rest → Here front x ps ahead m (front ++ (done ++ n ∷ left)) whole
  go true e h rec = record {
    done = done;
    node = n;
    behind = left;
    split = refl;
    slots = s;
    live = e;
    kept = k;
    place = cc;
    coming = cc;
    so_far = f;
    within = w;
    floors = l;
  }
  go false e h rec =
      let here : places is_live start (done ++ n ∷ []) ≡ places is_live start done = places-append is_live start done (n ∷ []) ∙ ap (λ (b : Bool). places is_live start done ++ listed b (start + length done) []) e ∙ append-nil (places is_live start done) in
      subst (λ (zs : List Node). Here front x ps ahead m (front ++ zs) whole) flat
      (rec (ap (waiting 0) flat ∙ s) (k ∙ sym here) (h ∙ ap (λ (j : ℕ). places is_live j left) next) (sym (idle_step front done n left e) ∙ f) (λ mark first opens. omega (arith, w mark first opens, length-append done (n ∷ [])))
      (subst (λ (zs : List Node). (mark first : ℕ) (opens : Bool) → All (λ p. p < floor_of m mark first opens → OpensNot (front ++ zs) mark first opens p) ps) (sym flat) l))

pub here : (front : List Node) (x : ℕ) (ps ahead : List ℕ) (m : Misses) (ns whole : List Node) → Paired front ps (x ∷ ahead) m ns whole → Here front x ps ahead m ns whole
here front x ps ahead m ns whole p =
    subst (λ (zs : List Node). Here front x ps ahead m zs whole) (sym p.split)
    (arrives front x ps ahead m whole p.done p.left p.slots p.behind p.coming (ap (pair_from (length front) (length front + length p.done) (length p.left)) (sym p.split) ∙ p.so_far) p.within
    (subst (λ (zs : List Node). (mark first : ℕ) (opens : Bool) → All (λ q. q < floor_of m mark first opens → OpensNot zs mark first opens q) ps) p.split p.floors))

-- ---- nothing is left

idle : (front done left : List Node) → [] ≡ places is_live (length front + length done) left → pair_from (length front) (length front + length done) (length left) (front ++ (done ++ left)) ≡ front ++ (done ++ left)
idle front done [] h = refl
idle front done (n ∷ left) h = go (is_live n) refl h (idle front (done ++ n ∷ []) left) where
  start : ℕ
  start = length front

  next : start + length done + 1 ≡ start + length (done ++ n ∷ [])
  next = omega (arith, length-append done (n ∷ []))

  go : (b : Bool) → is_live n ≡ b → [] ≡ listed b (start + length done) (places is_live (start + length done + 1) left)
      → ([] ≡ places is_live (start + length (done ++ n ∷ [])) left → pair_from start (start + length (done ++ n ∷ [])) (length left) (front ++ ((done ++ n ∷ []) ++ left)) ≡ front ++ ((done ++ n ∷ []) ++ left))
      → pair_from start (start + length done) (suc (length left)) (front ++ (done ++ n ∷ left)) ≡ front ++ (done ++ n ∷ left)
  go true e k rec = absurd cc
  go false e k rec = idle_step front done n left e ∙ rec (k ∙ ap (λ (j : ℕ). places is_live j left) next) ∙ ap (λ (zs : List Node). front ++ zs) (append_assoc done (n ∷ []) left)

-- ---- it is not paired

not_closing : (start x : ℕ) (ns : List Node) → closer_of (run_at (slice_get ns x)) ≡ None → pair_at start x ns ≡ ns
not_closing start x ns h = go (run_at (slice_get ns x)) h where
  closes : (r : Run) (b : Bool) → r.closes ≡ b → cond b (Some r) None ≡ None → pair_closer start x r ns ≡ ns
  closes r true e k = absurd cc
  closes r false e k = ap (λ (b : Bool). cond b (pair_last start (last_place (is_sought (sought.Opener (mark_byte r.mark) r.first r.opens)) (take (x - start) (drop start ns))) x r ns) ns) e

  go : (o : Option Run) → closer_of o ≡ None → pair_run start x o ns ≡ ns
  go None k = refl
  go (Some r) k = closes r r.closes refl k

pub stays : (front : List Node) (x : ℕ) (ps ahead : List ℕ) (m new : Misses) (ns whole : List Node) → Here front x ps ahead m ns whole → pair_at (length front) x ns ≡ ns → ((mark first : ℕ) (opens : Bool) → floor_of new mark first opens ≤ x)
    → ((mark first : ℕ) (opens : Bool) → All (λ p. p < floor_of new mark first opens → OpensNot ns mark first opens p) ps) → Paired front (ps ++ x ∷ []) ahead new ns whole
stays front x ps ahead m new ns whole h same w l =
    let start = length front in
    let more : start + length (h.done ++ h.node ∷ []) ≡ start + length h.done + 1 = omega (arith, length-append h.done (h.node ∷ [])) in
    let flat : (h.done ++ h.node ∷ []) ++ h.behind ≡ h.done ++ h.node ∷ h.behind = append_assoc h.done (h.node ∷ []) h.behind in
    record {
      done = h.done ++ h.node ∷ [];
      left = h.behind;
      split = h.split ∙ ap (λ (zs : List Node). front ++ zs) (sym flat);
      slots = ap (waiting 0) flat ∙ h.slots;
      behind =
          ap (λ (qs : List ℕ). qs ++ x ∷ []) h.kept ∙ ap (λ (k : ℕ). places is_live start h.done ++ k ∷ []) h.place
          ∙ sym (places-append is_live start h.done (h.node ∷ []) ∙ ap (λ (b : Bool). places is_live start h.done ++ listed b (start + length h.done) []) h.live);
      coming = h.coming ∙ ap (λ (k : ℕ). places is_live k h.behind) (sym more);
      so_far =
          ap (λ (k : ℕ). pair_from start k (length h.behind) ns) more
          ∙ sym (ap (pair_from start (start + length h.done + 1) (length h.behind)) (ap (λ (k : ℕ). pair_at start k ns) (sym h.place) ∙ same))
          ∙ h.so_far;
      within = λ mark first opens. omega (arith, w mark first opens, more, h.place);
      floors = λ mark first opens. All-append (λ p. p < floor_of new mark first opens → OpensNot ns mark first opens p) ps (x ∷ []) (l mark first opens) (All-cons (λ p. p < floor_of new mark first opens → OpensNot ns mark first opens p) x [] (λ lt. absurd (omega (arith, lt, w mark first opens))) (All-nil (λ p. p < floor_of new mark first opens → OpensNot ns mark first opens p)));
    }

pub stays_open : (front : List Node) (x : ℕ) (ps ahead : List ℕ) (m : Misses) (ns whole : List Node) → closer_of (run_at (slice_get ns x)) ≡ None → Paired front ps (x ∷ ahead) m ns whole → Paired front (ps ++ x ∷ []) ahead m ns whole
stays_open front x ps ahead m ns whole none p =
    let h = here front x ps ahead m ns whole p in
    stays front x ps ahead m m ns whole h (not_closing (length front) x ns none) (λ mark first opens. omega (arith, h.within mark first opens, h.place)) h.floors

-- ---- no opener is found

mod_add : (f a b : ℕ) → a % 3 ≡ b % 3 → (f + a) % 3 ≡ (f + b) % 3
mod_add f a b e = omega (arith, e)

fits_alike : (f a b : ℕ) → a % 3 ≡ b % 3 → lengths_fit f a ≡ lengths_fit f b
fits_alike f a b e = ap (λ (k : ℕ). not (k == 0) || ((f % 3 == 0) && (a % 3 == 0))) (mod_add f a b e) ∙ ap (λ (k : ℕ). not ((f + b) % 3 == 0) || ((f % 3 == 0) && (k == 0))) e

opens_alike : (closer : Run) (mark first : ℕ) (opens : Bool) (n : Option Node) → IsLike closer mark first opens → opens_at (mark_byte closer.mark) closer.first closer.opens n ≡ false → opens_at mark first opens n ≡ false
opens_alike closer mark first opens None h e = refl
opens_alike closer mark first opens (Some (node.Run r)) h e =
    ap (λ (k : ℕ). opens_for k first opens r) h.0 ∙ ap (λ (b : Bool). opens_for (mark_byte closer.mark) first b r) h.2 ∙ ap (λ (b : Bool). r.opens && (((mark_byte r.mark) == (mark_byte closer.mark)) && (not (r.closes || closer.opens) || b))) (fits_alike r.first first closer.first h.1) ∙ e
opens_alike closer mark first opens (Some n) h e = refl

none_open : (ns : List Node) (closer : Run) (m : Misses) (front : List Node) (done : List Node) (ps : List ℕ) → ps ≡ places is_live (length front) done
    → All (λ p. p < floor_for m closer → OpensNot ns (mark_byte closer.mark) closer.first closer.opens p) ps → NoneFrom ns ps closer (floor_for m closer) → All (OpensNot ns (mark_byte closer.mark) closer.first closer.opens) ps
none_open ns closer m front done ps e floors n = go n.far refl where
  Not : ℕ → Type 0
  Not = OpensNot ns (mark_byte closer.mark) closer.first closer.opens

  Under : ℕ → Type 0
  Under p = p < floor_for m closer → Not p

  parts : (k : ℕ) → take k ps ++ drop k ps ≡ ps
  parts k = take-append-drop k ps

  both : (P : ℕ → Type 0) (qs : List ℕ) → All (λ p. P p → Not p) qs → All P qs → All Not qs
  both P [] f g = All-nil Not
  both P (q ∷ qs) f g = All-cons Not q qs (All-head (λ p. P p → Not p) q qs f (All-head P q qs g)) (both P qs (All-tail (λ p. P p → Not p) q qs f) (All-tail P q qs g))

  go : (k : ℕ) → n.far ≡ k → All Not ps
  go zero z = subst (λ (k : ℕ). All Not (drop k ps)) z n.behind
  go (suc k) z =
      let size : length ps ≡ length (places is_live (length front) done) = ap (λ (qs : List ℕ). length qs) e in
      let lt : k < length (places is_live (length front) done) = omega (arith, n.within, z, size) in
      let s = places_split is_live (length front) k done lt in
      let last : n.far - 1 ≡ k = omega (arith, z) in
      let below : get_or ps k 0 < floor_for m closer = subst (λ (j : ℕ). get_or ps j 0 < floor_for m closer) last (n.below (omega (arith, z))) in
      let top : get_or ps k 0 ≡ length front + length s.front = ap (λ (qs : List ℕ). get_or qs k 0) e ∙ s.place in
      let early : All (λ p. p < floor_for m closer) (take k ps) =
      subst (All (λ p. p < floor_for m closer)) (sym (ap (take k) e ∙ s.before)) (All-weaker (λ p. (length front ≤ p) × (p < length front + length s.front)) (λ p. p < floor_for m closer) (λ p r. omega (arith, r.1, top, below)) (places is_live (length front) s.front) (places_range is_live (length front) s.front)) in
      let more : take (suc k) ps ≡ take k ps ++ get_or ps k 0 ∷ [] = ap (λ (j : ℕ). take j ps) (sym (add-one k)) ∙ take_more ps k 0 (omega (arith, lt, size)) in
      let taken : All (λ p. p < floor_for m closer) (take (suc k) ps) = subst (All (λ p. p < floor_for m closer)) (sym more) (All-append (λ p. p < floor_for m closer) (take k ps) (get_or ps k 0 ∷ []) early (All-cons (λ p. p < floor_for m closer) (get_or ps k 0) [] below (All-nil (λ p. p < floor_for m closer)))) in
      let first : All Under (take (suc k) ps) = all_front Under (take (suc k) ps) (drop (suc k) ps) (subst (All Under) (sym (parts (suc k))) floors) in
      let rest : All Not (drop (suc k) ps) = subst (λ (j : ℕ). All Not (drop j ps)) z n.behind in
      subst (All Not) (parts (suc k)) (All-append Not (take (suc k) ps) (drop (suc k) ps) (both (λ p. p < floor_for m closer) (take (suc k) ps) first taken) rest)

-- nodes that do not open, by their places
quiet : (mark first : ℕ) (opens : Bool) (ns xs ms ys : List Node) (at : ℕ) → ns ≡ xs ++ (ms ++ ys) → at ≡ length xs → All (OpensNot ns mark first opens) (places is_live at ms) → All (λ n. is_sought (sought.Opener mark first opens) n ≡ false) ms
quiet mark first opens ns xs [] ys at e f h = All-nil (λ n. is_sought (sought.Opener mark first opens) n ≡ false)
quiet mark first opens ns xs (n ∷ ms) ys at e f h = go (is_live n) refl h (quiet mark first opens ns (xs ++ n ∷ []) ms ys (at + 1) (e ∙ sym (append_assoc xs (n ∷ []) (ms ++ ys))) (omega (arith, f, length-append xs (n ∷ [])))) where
  dead : (m : Node) → is_live m ≡ false → is_sought (sought.Opener mark first opens) m ≡ false
  dead (node.Run r) k = absurd cc
  dead m k = refl

  there : slice_get ns at ≡ Some n
  there = ap (λ (zs : List Node). slice_get zs at) e ∙ get_there xs n (ms ++ ys) at f

  go : (b : Bool) → is_live n ≡ b → All (OpensNot ns mark first opens) (listed b at (places is_live (at + 1) ms)) → (All (OpensNot ns mark first opens) (places is_live (at + 1) ms) → All (λ m. is_sought (sought.Opener mark first opens) m ≡ false) ms)
      → All (λ m. is_sought (sought.Opener mark first opens) m ≡ false) (n ∷ ms)
  go true k g rec = All-cons (λ m. is_sought (sought.Opener mark first opens) m ≡ false) n ms (ap (opens_at mark first opens) (sym there) ∙ All-head (OpensNot ns mark first opens) at (places is_live (at + 1) ms) g) (rec (All-tail (OpensNot ns mark first opens) at (places is_live (at + 1) ms) g))
  go false k g rec = All-cons (λ m. is_sought (sought.Opener mark first opens) m ≡ false) n ms (dead n k) (rec g)

-- the closer, where it stands
closer_is : (o : Option Run) (closer : Run) → Some closer ≡ closer_of o → (o ≡ Some closer) × (closer.closes ≡ true)
closer_is None closer h = absurd cc
closer_is (Some r) closer h = go r.closes refl h where
  go : (b : Bool) → r.closes ≡ b → Some closer ≡ cond b (Some r) None → (Some r ≡ Some closer) × (closer.closes ≡ true)
  go true e k = let same : r ≡ closer = cc in (ap (λ (x : Run). Some x) same, ap (λ (x : Run). x.closes) (sym same) ∙ e)
  go false e k = absurd cc

pub stays_missed : (front : List Node) (x : ℕ) (ps ahead : List ℕ) (m new : Misses) (ns whole : List Node) (closer : Run) → Some closer ≡ closer_of (run_at (slice_get ns x)) → NoneFrom ns ps closer (floor_for m closer) → Raised m new closer x → Paired front ps (x ∷ ahead) m ns whole → Paired front (ps ++ x ∷ []) ahead new ns whole
stays_missed front x ps ahead m new ns whole closer is n r p =
    let h = here front x ps ahead m ns whole p in
    let c = closer_is (run_at (slice_get ns x)) closer is in
    let there : slice_get ns x ≡ Some h.node =
    ap (λ (zs : List Node). slice_get zs x) (h.split ∙ sym (append_assoc front h.done (h.node ∷ h.behind))) ∙ get_there (front ++ h.done) h.node h.behind x (omega (arith, h.place, length-append front h.done)) in
    let run : h.node ≡ node.Run closer = run_is h.node closer (ap run_at (sym there) ∙ c.0) in
    let none = none_open ns closer m front h.done ps h.kept (h.floors (mark_byte closer.mark) closer.first closer.opens) n in
    let silent : last_place (sought_by closer) h.done ≡ None =
    last_none (sought_by closer) h.done (quiet (mark_byte closer.mark) closer.first closer.opens ns front h.done (h.node ∷ h.behind) (length front) h.split refl (subst (All (OpensNot ns (mark_byte closer.mark) closer.first closer.opens)) h.kept none)) in
    let shape : ns ≡ front ++ (h.done ++ node.Run closer ∷ h.behind) = h.split ∙ ap (λ (y : Node). front ++ (h.done ++ y ∷ h.behind)) run in
    let same : pair_at (length front) x ns ≡ ns =
    ap (λ (k : ℕ). pair_at (length front) k ns) h.place ∙ ap (pair_at (length front) (length front + length h.done)) shape ∙ step_is front h.done closer h.behind
    ∙ ap (λ (o : Option ℕ). closed_at (length front) o (length front + length h.done) closer (front ++ (h.done ++ node.Run closer ∷ h.behind)) closer.closes) silent
    ∙ ap (closed_at (length front) None (length front + length h.done) closer (front ++ (h.done ++ node.Run closer ∷ h.behind))) c.1 ∙ sym shape in
    stays front x ps ahead m new ns whole h same
    (λ mark first opens. elim (r.floors mark first opens) as (λ z. floor_of new mark first opens ≤ x) [ inl e ↦ omega (arith, e, h.within mark first opens, h.place) | inr e ↦ omega (arith, e.1) ])
    (λ mark first opens. elim (r.floors mark first opens) as (λ z. All (λ q. q < floor_of new mark first opens → OpensNot ns mark first opens q) ps) [
      | inl e ↦ All-weaker (λ q. q < floor_of m mark first opens → OpensNot ns mark first opens q) (λ q. q < floor_of new mark first opens → OpensNot ns mark first opens q) (λ q f lt. f (omega (arith, lt, e))) ps (h.floors mark first opens)
      | inr e ↦ All-weaker (OpensNot ns (mark_byte closer.mark) closer.first closer.opens) (λ q. q < floor_of new mark first opens → OpensNot ns mark first opens q) (λ q f lt. opens_alike closer mark first opens (slice_get ns q) e.0 f) ps none
    ])

-- ---- an opener is found

get_front : (xs ys zs : List Node) (p : ℕ) → p < length xs → slice_get (xs ++ ys) p ≡ slice_get (xs ++ zs) p
get_front [] ys zs p h = absurd (omega (arith, h))
get_front (x ∷ xs) ys zs zero h = refl
get_front (x ∷ xs) ys zs (suc p) h = get_front xs ys zs p (omega (arith, h))

get_behind : (xs ys : List Node) (p : ℕ) → p ≡ length xs → slice_get (xs ++ ys) p ≡ slice_get ys 0
get_behind [] ys p e = ap (slice_get ys) e
get_behind (x ∷ xs) ys p e = ap (slice_get (x ∷ (xs ++ ys))) e ∙ get_behind xs ys (length xs) refl

-- the openers that stay
openers_left : (o : Opener) (k : ℕ) (ps : List ℕ) → o.index < length ps → take (left_at o k) ps ≡ take o.index ps ++ only (nat_lt k o.run.len) (get_or ps o.index 0)
openers_left o k ps lt = go (nat_lt k o.run.len) where
  go : (b : Bool) → take (cond b (o.index + 1) o.index) ps ≡ take o.index ps ++ only b (get_or ps o.index 0)
  go true = take_more ps o.index 0 lt
  go false = sym (append-nil (take o.index ps))

leftover_kept : (closer : Run) (k place : ℕ) (ps : List ℕ) → kept_by (leftover_of closer k) place ps ≡ ps
leftover_kept closer k place ps = go (nat_lt k closer.len) where
  go : (b : Bool) → kept_by (cond b Shorter UsedUp) place ps ≡ ps
  go true = refl
  go false = refl

leftover_coming : (closer : Run) (k place : ℕ) (ahead : List ℕ) → coming_by (leftover_of closer k) place ahead ≡ only (nat_lt k closer.len) (place + 1) ++ ahead
leftover_coming closer k place ahead = go (nat_lt k closer.len) where
  go : (b : Bool) → coming_by (cond b Shorter UsedUp) place ahead ≡ only b (place + 1) ++ ahead
  go true = refl
  go false = refl

-- what a pair leaves
pub record Left (front a : List Node) (x : ℕ) (ahead : List ℕ) (o r : Run) (k : ℕ) (new old ns whole : List Node) : Type 0 where
  pub nodes : List Node
  pub rest : List Node
  pub split : new ≡ (front ++ a) ++ (nodes ++ close_node k ∷ rest)
  pub slots : waiting 0 (a ++ (nodes ++ close_node k ∷ rest)) ≡ Some 0
  pub listed : places is_live (length front + length a) nodes ≡ only (nat_lt k o.len) (length front + length a)
  pub coming : only (nat_lt k r.len) (x + 1) ++ ahead ≡ places is_live (x + 1) rest
  pub far : length front + length a + length nodes ≡ x
  pub head : nat_lt k o.len ≡ true → slice_get (nodes ++ close_node k ∷ rest) 0 ≡ Some (shorter o k)
  pub so_far : pair_from (length front) (x + 1) (length rest) new ≡ whole

leaves : (front a : List Node) (o : Run) (inside : List Node) (r : Run) (behind : List Node) (x : ℕ) (ahead : List ℕ) (ns new whole : List Node) → r.closes ≡ true → opens_at (mark_byte r.mark) r.first r.opens (Some (node.Run o)) ≡ true
    → All (λ n. is_sought (sought.Opener (mark_byte r.mark) r.first r.opens) n ≡ false) inside → ns ≡ front ++ ((a ++ node.Run o ∷ inside) ++ node.Run r ∷ behind) → waiting 0 ((a ++ node.Run o ∷ inside) ++ node.Run r ∷ behind) ≡ Some 0
    → x ≡ length front + length (a ++ node.Run o ∷ inside) → ahead ≡ places is_live (x + 1) behind
    → pair_from (length front) x (suc (length behind)) ns ≡ whole
    → new ≡ open_nodes (length front + length a) o (strength o.len r.len) (close_nodes x r (strength o.len r.len) (change_each Freeze (places is_live (length front + length a + 1) inside) ns))
    → Left front a x ahead o r (strength o.len r.len) new ns ns whole
leaves front a o inside r behind x ahead ns new whole cl op quiet_inside split slots place coming so_far made =
    let k = strength o.len r.len in
    let some = strength_some o.len r.len in
    let flat : (a ++ node.Run o ∷ inside) ++ node.Run r ∷ behind ≡ a ++ node.Run o ∷ (inside ++ node.Run r ∷ behind) = append_assoc a (node.Run o ∷ inside) (node.Run r ∷ behind) in
    let outer = run_start 0 a (inside ++ node.Run r ∷ behind) o (ap (waiting 0) (sym flat) ∙ slots) in
    let inner = run_start (o.len - 1) inside behind r outer.1 in
    let opn = opened [] k o inside some inner.0 in
    let cd = closed [] k r behind some inner.1 in
    let start = length front in
    let at = start + length a in
    let xs = front ++ a in
    let size : at ≡ length xs = omega (arith, length-append front a) in
    let end : x ≡ suc (length xs + length inside) = omega (arith, place, size, length-append a (node.Run o ∷ inside)) in
    let shape : ns ≡ xs ++ node.Run o ∷ (inside ++ node.Run r ∷ behind) = split ∙ ap (λ (zs : List Node). front ++ zs) flat ∙ sym (append_assoc front a (node.Run o ∷ (inside ++ node.Run r ∷ behind))) in
    let before = xs ++ node.Run o ∷ [] in
    let frozen : change_each Freeze (places is_live (at + 1) inside) ns ≡ change_between Freeze (suc at) x ns =
    ap (change_each Freeze (places is_live (at + 1) inside)) (shape ∙ sym (append_assoc xs (node.Run o ∷ []) (inside ++ node.Run r ∷ behind)))
    ∙ change_listed Freeze is_live freeze_spares before inside (node.Run r ∷ behind) (at + 1) (omega (arith, size, length-append xs (node.Run o ∷ [])))
    ∙ append_assoc xs (node.Run o ∷ []) (map (changed Freeze) inside ++ node.Run r ∷ behind)
    ∙ sym (ap (change_between Freeze (suc at) x) shape ∙ change_behind Freeze xs (node.Run o) inside (node.Run r ∷ behind) (suc at) x (omega (arith, size)) end) in
    let as_pair : new ≡ pair_nodes at o x r ns = made ∙ ap (λ (zs : List Node). open_nodes at o k (close_nodes x r k zs)) frozen in
    let result : new ≡ xs ++ (opn.nodes ++ close_node k ∷ cd.rest) = as_pair ∙ ap (pair_nodes at o x r) shape ∙ pair_made [] xs o inside r behind k at x opn cd size end in
    let found : last_place (sought_by r) (a ++ node.Run o ∷ inside) ≡ Some (length a) = last_found (sought_by r) a (node.Run o) inside op (last_none (sought_by r) inside quiet_inside) in
    let there : slice_get ns at ≡ Some (node.Run o) = ap (λ (zs : List Node). slice_get zs at) shape ∙ get_there xs (node.Run o) (inside ++ node.Run r ∷ behind) at size in
    let step : pair_at start x ns ≡ pair_nodes at o x r ns =
    ap (λ (j : ℕ). pair_at start j ns) place ∙ ap (pair_at start (start + length (a ++ node.Run o ∷ inside))) split ∙ step_is front (a ++ node.Run o ∷ inside) r behind
    ∙ ap (λ (c : Option ℕ). closed_at start c (start + length (a ++ node.Run o ∷ inside)) r (front ++ ((a ++ node.Run o ∷ inside) ++ node.Run r ∷ behind)) r.closes) found
    ∙ ap (closed_at start (Some (length a)) (start + length (a ++ node.Run o ∷ inside)) r (front ++ ((a ++ node.Run o ∷ inside) ++ node.Run r ∷ behind))) cl
    ∙ ap (pair_last start (Some (length a)) (start + length (a ++ node.Run o ∷ inside)) r) (sym split) ∙ ap (λ (j : ℕ). pair_last start (Some (length a)) j r ns) (sym place)
    ∙ ap (λ (y : Option Node). pair_found at (run_at y) x r ns) there in
    record {
      nodes = opn.nodes;
      rest = cd.rest;
      split = result;
      slots =
          waiting-append 0 a (opn.nodes ++ close_node k ∷ cd.rest) ∙ ap (λ (y : Option ℕ). after y (opn.nodes ++ close_node k ∷ cd.rest)) outer.0 ∙ opn.slots (close_node k ∷ cd.rest)
          ∙ ap (λ (j : ℕ). waiting j cd.rest) (close_room k) ∙ cd.slots;
      listed = opn.listed at;
      coming = ap (λ (qs : List ℕ). only (nat_lt k r.len) (x + 1) ++ qs) coming ∙ sym (cd.listed (x + 1));
      far = omega (arith, opn.size, end, size);
      head = λ h. opn.head h (close_node k ∷ cd.rest);
      so_far = ap (λ (j : ℕ). pair_from start (x + 1) j new) cd.size ∙ ap (pair_from start (x + 1) (length behind)) (as_pair ∙ sym step) ∙ so_far;
    }

-- what did not open does not open now
floors_kept : (front a inside behind : List Node) (o : Run) (k : ℕ) (rest ns ms : List Node) (m : Misses) (mark first : ℕ) (opens : Bool) (ps : List ℕ) (i : ℕ) → ns ≡ (front ++ a) ++ node.Run o ∷ (inside ++ behind) → ms ≡ (front ++ a) ++ rest
    → (nat_lt k o.len ≡ true → slice_get rest 0 ≡ Some (shorter o k)) → take i ps ≡ places is_live (length front) a → get_or ps i 0 ≡ length front + length a → i < length ps
    → All (λ q. q < floor_of m mark first opens → OpensNot ns mark first opens q) ps → All (λ q. q < floor_of m mark first opens → OpensNot ms mark first opens q) (places is_live (length front) a ++ only (nat_lt k o.len) (length front + length a))
floors_kept front a inside behind o k rest ns ms m mark first opens ps i e f hd before top lt floors =
    All-append New (places is_live (length front) a) (only (nat_lt k o.len) at) (both (places is_live (length front) a) (places_range is_live (length front) a) (subst (All Old) before (all_front Old (take i ps) (get_or ps i 0 ∷ []) firsts))) (last (nat_lt k o.len) refl) where
      at : ℕ
      at = length front + length a

      Old : ℕ → Type 0
      Old q = q < floor_of m mark first opens → OpensNot ns mark first opens q

      New : ℕ → Type 0
      New q = q < floor_of m mark first opens → OpensNot ms mark first opens q

      size : at ≡ length (front ++ a)
      size = omega (arith, length-append front a)

      firsts : All Old (take i ps ++ get_or ps i 0 ∷ [])
      firsts = subst (All Old) (take_more ps i 0 lt) (all_front Old (take (i + 1) ps) (drop (i + 1) ps) (subst (All Old) (sym (take-append-drop (i + 1) ps)) floors))

      back : (qs : List ℕ) (q : ℕ) → All Old (qs ++ q ∷ []) → Old q
      back [] q h = All-head Old q [] h
      back (p ∷ qs) q h = back qs q (All-tail Old p (qs ++ q ∷ []) h)

      here_old : Old at
      here_old = subst Old top (back (take i ps) (get_or ps i 0) firsts)

      both : (qs : List ℕ) → All (λ q. (length front ≤ q) × (q < at)) qs → All Old qs → All New qs
      both [] r h = All-nil New
      both (q ∷ qs) r h =
          let lt_front : q < length (front ++ a) = omega (arith, (All-head (λ p. (length front ≤ p) × (p < at)) q qs r).1, size) in
          let same : slice_get ms q ≡ slice_get ns q = ap (λ (zs : List Node). slice_get zs q) f ∙ get_front (front ++ a) rest (node.Run o ∷ (inside ++ behind)) q lt_front ∙ sym (ap (λ (zs : List Node). slice_get zs q) e) in
          All-cons New q qs (λ below. ap (opens_at mark first opens) same ∙ All-head Old q qs h below) (both qs (All-tail (λ p. (length front ≤ p) × (p < at)) q qs r) (All-tail Old q qs h))

      last : (b : Bool) → nat_lt k o.len ≡ b → All New (only b at)
      last false g = All-nil New
      last true g =
          let now : slice_get ms at ≡ Some (shorter o k) = ap (λ (zs : List Node). slice_get zs at) f ∙ get_behind (front ++ a) rest at size ∙ hd g in
          let then_ : slice_get ns at ≡ Some (node.Run o) = ap (λ (zs : List Node). slice_get zs at) e ∙ get_there (front ++ a) (node.Run o) (inside ++ behind) at size in
          All-cons New at [] (λ below. ap (opens_at mark first opens) now ∙ sym (ap (opens_at mark first opens) then_) ∙ here_old below) (All-nil New)

pub pairs : (front : List Node) (x : ℕ) (ahead : List ℕ) (ns ms whole : List Node) (closer : Run) (o : Opener) (leftover : Leftover) (old new : Openers) → Some closer ≡ closer_of (run_at (slice_get ns x)) → Nearest ns old.places.items closer o → PairsWith o x closer leftover old new ns ms
    → Paired front old.places.items (x ∷ ahead) old.misses ns whole → Paired front (kept_by leftover x new.places.items) (coming_by leftover x ahead) new.misses ms whole
pairs front x ahead ns ms whole closer o leftover old new is near w p =
    let ps = old.places.items in
    let h = here front x ps ahead old.misses ns whole p in
    let c = closer_is (run_at (slice_get ns x)) closer is in
    let start = length front in
    let there : slice_get ns x ≡ Some h.node =
    ap (λ (zs : List Node). slice_get zs x) (h.split ∙ sym (append_assoc front h.done (h.node ∷ h.behind))) ∙ get_there (front ++ h.done) h.node h.behind x (omega (arith, h.place, length-append front h.done)) in
    let run : h.node ≡ node.Run closer = run_is h.node closer (ap run_at (sym there) ∙ c.0) in
    let size : length ps ≡ length (places is_live start h.done) = ap (λ (qs : List ℕ). length qs) h.kept in
    let s = places_split is_live start o.index h.done (omega (arith, near.within, size)) in
    let a = s.front in
    let at = start + length a in
    let place : o.place ≡ at = near.place ∙ ap (λ (qs : List ℕ). get_or qs o.index 0) h.kept ∙ s.place in
    let done_is : ns ≡ (front ++ a) ++ s.node ∷ (s.behind ++ h.node ∷ h.behind) =
    h.split ∙ ap (λ (zs : List Node). front ++ (zs ++ h.node ∷ h.behind)) s.split ∙ ap (λ (zs : List Node). front ++ zs) (append_assoc a (s.node ∷ s.behind) (h.node ∷ h.behind)) ∙ sym (append_assoc front a (s.node ∷ (s.behind ++ h.node ∷ h.behind))) in
    let opener_there : slice_get ns o.place ≡ Some s.node = ap (λ (zs : List Node). slice_get zs o.place) done_is ∙ get_there (front ++ a) s.node (s.behind ++ h.node ∷ h.behind) o.place (omega (arith, place, length-append front a)) in
    let opener : s.node ≡ node.Run o.run = run_is s.node o.run (ap run_at (sym opener_there) ∙ near.run) in
    let passes : opens_at (mark_byte closer.mark) closer.first closer.opens (Some (node.Run o.run)) ≡ true = ap (λ (n : Node). opens_at (mark_byte closer.mark) closer.first closer.opens (Some n)) (sym opener) ∙ ap (opens_at (mark_byte closer.mark) closer.first closer.opens) (sym opener_there) ∙ near.passes in
    let inside_places : drop (o.index + 1) ps ≡ places is_live (at + 1) s.behind = ap (drop (o.index + 1)) h.kept ∙ s.after in
    let still = quiet (mark_byte closer.mark) closer.first closer.opens ns ((front ++ a) ++ s.node ∷ []) s.behind (h.node ∷ h.behind) (at + 1) (done_is ∙ sym (append_assoc (front ++ a) (s.node ∷ []) (s.behind ++ h.node ∷ h.behind)))
    (omega (arith, length-append (front ++ a) (s.node ∷ []), length-append front a)) (subst (All (OpensNot ns (mark_byte closer.mark) closer.first closer.opens)) inside_places near.behind) in
    let done_run : h.done ≡ a ++ node.Run o.run ∷ s.behind = s.split ∙ ap (λ (n : Node). a ++ n ∷ s.behind) opener in
    let split : ns ≡ front ++ ((a ++ node.Run o.run ∷ s.behind) ++ node.Run closer ∷ h.behind) = h.split ∙ ap (λ (zs : List Node). front ++ (zs ++ h.node ∷ h.behind)) done_run ∙ ap (λ (n : Node). front ++ ((a ++ node.Run o.run ∷ s.behind) ++ n ∷ h.behind)) run in
    let slots : waiting 0 ((a ++ node.Run o.run ∷ s.behind) ++ node.Run closer ∷ h.behind) ≡ Some 0 = sym (ap (λ (zs : List Node). waiting 0 (zs ++ h.node ∷ h.behind)) done_run ∙ ap (λ (n : Node). waiting 0 ((a ++ node.Run o.run ∷ s.behind) ++ n ∷ h.behind)) run) ∙ h.slots in
    let x_is : x ≡ start + length (a ++ node.Run o.run ∷ s.behind) = h.place ∙ ap (λ (zs : List Node). start + length zs) done_run in
    let k = strength o.run.len closer.len in
    let made : ms ≡ open_nodes at o.run k (close_nodes x closer k (change_each Freeze (places is_live (at + 1) s.behind) ns)) =
    w.nodes ∙ ap (λ (q : ℕ). open_nodes q o.run k (close_nodes x closer k (change_each Freeze (drop (o.index + 1) ps) ns))) place ∙ ap (λ (qs : List ℕ). open_nodes at o.run k (close_nodes x closer k (change_each Freeze qs ns))) inside_places in
    let l = leaves front a o.run s.behind closer h.behind x ahead ns ms whole c.1 passes still split slots x_is (h.coming ∙ ap (λ (q : ℕ). places is_live (q + 1) h.behind) (sym h.place)) (ap (λ (q : ℕ). pair_from start q (suc (length h.behind)) ns) h.place ∙ h.so_far) made in
    let done = a ++ (l.nodes ++ close_node k ∷ []) in
    let flat : done ++ l.rest ≡ a ++ (l.nodes ++ close_node k ∷ l.rest) = append_assoc a (l.nodes ++ close_node k ∷ []) l.rest ∙ ap (λ (zs : List Node). a ++ zs) (append_assoc l.nodes (close_node k ∷ []) l.rest) in
    let far : start + length done ≡ x + 1 = omega (arith, l.far, length-append a (l.nodes ++ close_node k ∷ []), length-append l.nodes (close_node k ∷ [])) in
    let kept : kept_by leftover x new.places.items ≡ take o.index ps ++ only (nat_lt k o.run.len) at =
    ap (λ (y : Leftover). kept_by y x new.places.items) w.leftover_is ∙ leftover_kept closer k x new.places.items ∙ w.places ∙ openers_left o k ps near.within ∙ ap (λ (q : ℕ). take o.index ps ++ only (nat_lt k o.run.len) q) (sym near.place ∙ place) in
    let before : take o.index ps ≡ places is_live start a = ap (take o.index) h.kept ∙ s.before in
    record {
      done = done;
      left = l.rest;
      split = l.split ∙ append_assoc front a (l.nodes ++ close_node k ∷ l.rest) ∙ ap (λ (zs : List Node). front ++ zs) (sym flat);
      slots = ap (waiting 0) flat ∙ l.slots;
      behind =
          kept ∙ ap (λ (qs : List ℕ). qs ++ only (nat_lt k o.run.len) at) before
          ∙ sym (places-append is_live start a (l.nodes ++ close_node k ∷ []) ∙ ap (λ (qs : List ℕ). places is_live start a ++ qs) (places-append is_live at l.nodes (close_node k ∷ []) ∙ ap (λ (qs : List ℕ). places is_live at l.nodes ++ qs) (live_close k (at + length l.nodes) []) ∙ append-nil (places is_live at l.nodes) ∙ l.listed));
      coming = ap (λ (y : Leftover). coming_by y x ahead) w.leftover_is ∙ leftover_coming closer k x ahead ∙ l.coming ∙ ap (λ (q : ℕ). places is_live q l.rest) (sym far);
      so_far = ap (λ (q : ℕ). pair_from start q (length l.rest) ms) far ∙ l.so_far;
      within = λ mark first opens. subst (λ (m : Misses). floor_of m mark first opens ≤ start + length done) (sym w.misses) (omega (arith, h.within mark first opens, far, h.place));
      floors = λ mark first opens.
          subst (λ (m : Misses). All (λ q. q < floor_of m mark first opens → OpensNot ms mark first opens q) (kept_by leftover x new.places.items)) (sym w.misses)
          (subst (All (λ q. q < floor_of old.misses mark first opens → OpensNot ms mark first opens q)) (sym (kept ∙ ap (λ (qs : List ℕ). qs ++ only (nat_lt k o.run.len) at) before))
          (floors_kept front a s.behind (h.node ∷ h.behind) o.run k (l.nodes ++ close_node k ∷ l.rest) ns ms old.misses mark first opens ps o.index (done_is ∙ ap (λ (n : Node). (front ++ a) ++ n ∷ (s.behind ++ h.node ∷ h.behind)) opener) l.split l.head before (sym near.place ∙ place) near.within (h.floors mark first opens)));
    }

-- ---- the whole pass

pub starts_paired : (start : ℕ) (ns : List Node) (ps : List ℕ) (m : Misses) → ((mark first : ℕ) (opens : Bool) → floor_of m mark first opens ≡ 0) → Starts start ns ps → Paired (take start ns) [] ps m ns (pair_from start start (length ns - start) ns)
starts_paired start ns ps m none s =
    let size : length (take start ns) ≡ start = length-take-le start ns s.order in
    let zero_more : length (take start ns) + 0 ≡ start = omega (arith, size) in
    let rest : length (drop start ns) ≡ length ns - start = length-drop start ns in
    record {
      done = [];
      left = drop start ns;
      split = sym (take-append-drop start ns);
      slots = s.slots;
      behind = refl;
      coming = s.runs ∙ ap (λ (k : ℕ). places is_live k (drop start ns)) (sym zero_more);
      so_far = ap (λ (k : ℕ). pair_from k (length (take start ns) + 0) (length (drop start ns)) ns) size ∙ ap (λ (k : ℕ). pair_from start k (length (drop start ns)) ns) zero_more ∙ ap (λ (k : ℕ). pair_from start start k ns) rest;
      within = λ mark first opens. omega (arith, none mark first opens);
      floors = λ mark first opens. All-nil (λ p. p < floor_of m mark first opens → OpensNot ns mark first opens p);
    }

pub ends_paired : (start : ℕ) (old new : List Node) (ps : List ℕ) (m : Misses) → start ≤ length old → Paired (take start old) ps [] m new (pair_from start start (length old - start) old) → PairsAll start old new ps
ends_paired start old new ps m le p =
    let front = take start old in
    let size : length front ≡ start = length-take-le start old le in
    let nothing = idle front p.done p.left p.coming in
    record {
      value = p.split ∙ sym nothing ∙ ap (pair_from (length front) (length front + length p.done) (length p.left)) (sym p.split) ∙ p.so_far;
      front = ap (take start) p.split ∙ take_at front (p.done ++ p.left) start size;
      within = omega (arith, ap (λ (zs : List Node). length zs) p.split, length-append front (p.done ++ p.left), size);
      left =
          p.behind ∙ sym (append-nil (places is_live (length front) p.done)) ∙ ap (λ (qs : List ℕ). places is_live (length front) p.done ++ qs) p.coming ∙ sym (places-append is_live (length front) p.done p.left)
          ∙ ap (λ (k : ℕ). places is_live k (p.done ++ p.left)) size ∙ ap (places is_live start) (sym (ap (drop start) p.split ∙ drop_at front (p.done ++ p.left) start size));
    }

pub in_range : (front : List Node) (x : ℕ) (ps ahead : List ℕ) (m : Misses) (ns whole : List Node) → Paired front ps (x ∷ ahead) m ns whole → x < length ns
in_range front x ps ahead m ns whole p =
    let h = here front x ps ahead m ns whole p in
    omega (arith, h.place, ap (λ (zs : List Node). length zs) h.split, length-append front (h.done ++ h.node ∷ h.behind), length-append h.done (h.node ∷ h.behind))

-- ---- as many nodes

length_change : (from to : ℕ) (ns : List Node) → length (change_between Freeze from to ns) ≡ length ns
length_change from to [] = refl
length_change zero zero (n ∷ ns) = refl
length_change zero (suc to) (n ∷ ns) = ap (λ (k : ℕ). suc k) (length_change zero to ns)
length_change (suc from) zero (n ∷ ns) = refl
length_change (suc from) (suc to) (n ∷ ns) = ap (λ (k : ℕ). suc k) (length_change from to ns)

length_changes : (ps : List ℕ) (ns : List Node) → length (change_each Freeze ps ns) ≡ length ns
length_changes [] ns = refl
length_changes (p ∷ ps) ns = length_changes ps (change_between Freeze p (p + 1) ns) ∙ length_change p (p + 1) ns

length_close : (place : ℕ) (r : Run) (k : ℕ) (ns : List Node) → length (close_nodes place r k ns) ≡ length ns
length_close place r k ns = go (nat_lt k r.len) where
  go : (b : Bool) → length (cond b (set (set ns place (close_node k)) (place + 1) (shorter r k)) (set ns place (close_node k))) ≡ length ns
  go true = length-set (set ns place (close_node k)) (place + 1) (shorter r k) ∙ length-set ns place (close_node k)
  go false = length-set ns place (close_node k)

length_open : (place : ℕ) (r : Run) (k : ℕ) (ns : List Node) → length (open_nodes place r k ns) ≡ length ns
length_open place r k ns = go (nat_lt k r.len) where
  go : (b : Bool) → length (cond b (set (set ns place (shorter r k)) (place + (r.len - k)) (open_node k)) (set ns place (open_node k))) ≡ length ns
  go true = length-set (set ns place (shorter r k)) (place + (r.len - k)) (open_node k) ∙ length-set ns place (shorter r k)
  go false = length-set ns place (open_node k)

pub length_pair : (o : Opener) (place : ℕ) (closer : Run) (leftover : Leftover) (old new : Openers) (ns ms : List Node) → PairsWith o place closer leftover old new ns ms → length ms ≡ length ns
length_pair o place closer leftover old new ns ms w =
    let k = strength o.run.len closer.len in
    let frozen = change_each Freeze (drop (o.index + 1) old.places.items) ns in
    ap (λ (zs : List Node). length zs) w.nodes ∙ length_open o.place o.run k (close_nodes place closer k frozen) ∙ length_close place closer k frozen ∙ length_changes (drop (o.index + 1) old.places.items) ns
