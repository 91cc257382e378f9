-- One pass from left to right makes the same pairs.
use Rattle.std.proofs.Common.{Bool, List, None, Option, Some, [], ap, append_assoc, arith, cond, false, ltb, refl, subst, sym, true, ℕ, ◌&&◌, ◌++◌, ◌+◌, ◌-◌, ◌<◌, ◌∙◌, ◌∷◌, ◌≡◌}
use Rattle.std.proofs.lemmas.Bool.{ltb-true}
use Rattle.std.proofs.lemmas.List.{append-nil}
use Rattle.site_base.specs.Recursion.{Falls, down_is}
use Rattle.markdown_grammar.specs.Emphasis.{Found, IsStep, Settled, StepOf, first_pairing, last_that, len_of, marks, marks_of, opens_for, or_here, pair_with, paired, pairing_again, pairs, pairs_step, plain, shorten, strength, stressed, then_go}
use Rattle.markdown_grammar.specs.Inlines.{Inlines, no_inlines}
use Rattle.markdown_grammar.specs.Pieces.{Piece, delimiter_run, finished, open_bracket}

marks-append : (xs ys : List Piece) → marks (xs ++ ys) ≡ marks xs + marks ys
marks-append [] ys = omega arith
marks-append (x ∷ xs) ys = omega (arith, marks-append xs ys)

-- ---- the opener that is found

abbrev found_at : Found → Option Found
found_at f = Some f

-- it opens, and it stands there
abbrev IsFound : (Piece → Bool) → List Piece → Found → Type 0
IsFound q ps f = (q f.1 ≡ true) × (ps ≡ f.0 ++ f.1 ∷ f.2)

here_is : (q : Piece → Bool) (r : Option Found) (b : Bool) (p : Piece) (ps : List Piece) (f : Found) → q p ≡ b → or_here r b p ps ≡ Some f → ((g : Found) → r ≡ Some g → IsFound q ps g) → IsFound q (p ∷ ps) f
here_is q (Some g) b p ps f t e h =
    let k : found_at (p ∷ g.0, g.1, g.2) ≡ found_at f = e in
    let same : (p ∷ g.0, g.1, g.2) ≡ f = cc in
    let w = h g refl in
    subst (IsFound q (p ∷ ps)) same (w.0, ap (λ (xs : List Piece). p ∷ xs) w.1)
here_is q None true p ps f t e h =
    let k : found_at ([], p, ps) ≡ found_at f = e in
    let same : ([], p, ps) ≡ f = cc in
    subst (IsFound q (p ∷ ps)) same (t, refl)
here_is q None false p ps f t e h = absurd cc

opener_is : (q : Piece → Bool) (ps : List Piece) (f : Found) → last_that q ps ≡ Some f → IsFound q ps f
opener_is q [] f e = absurd cc
opener_is q (p ∷ ps) f e = here_is q (last_that q ps) (q p) p ps f refl e (λ g h. opener_is q ps g h)

-- ---- each rewriting takes marks away

cond_less : (b : Bool) (m n k : ℕ) → m < n → k < n → cond b m k < n
cond_less true m n k h j = h
cond_less false m n k h j = j

shorten_weight : (k : ℕ) (b : Bool) (ch len first : ℕ) (o c : Bool) → 0 < k → ltb k len ≡ b → marks (cond b (delimiter_run ch (len - k) first o c ∷ []) []) < len + 1
shorten_weight k true ch len first o c lt e = omega (arith, ltb-true k len e)
shorten_weight k false ch len first o c lt e = omega arith

shortened : (ch first : ℕ) (o : Bool) (k : ℕ) (p : Piece) → 0 < k → opens_for ch first o p ≡ true → marks (shorten k p) < marks_of p
shortened ch first o k (finished xs) lt e = absurd cc
shortened ch first o k (open_bracket j c behind) lt e = absurd cc
shortened ch first o k (delimiter_run c len f op both) lt e = shorten_weight k (ltb k len) c len f op both lt refl

strength_some : (m n : ℕ) → 0 < strength m n
strength_some m n = two (ltb 1 m && ltb 1 n) where
  two : (b : Bool) → 0 < cond b 2 1
  two true = omega arith
  two false = omega arith

abbrev made_of : List Piece × List Piece → Option (List Piece × List Piece)
made_of m = Some m

paired_weight : (ch len first : ℕ) (o : Bool) (before : List Piece) (made : List Piece × List Piece) (r : Option Found) → last_that (opens_for ch first o) before ≡ r → paired len (delimiter_run ch len first o true) r ≡ Some made
    → marks made.0 + marks made.1 < marks before + marks_of (delimiter_run ch len first o true)
paired_weight ch len first o before made None e h = absurd cc
paired_weight ch len first o before made (Some f) e h =
    let k = strength (len_of f.1) len in
    let p = delimiter_run ch len first o true in
    let m : made_of (f.0 ++ (shorten k f.1 ++ stressed k (plain f.2) ∷ []), shorten k p) ≡ made_of made = h in
    let same : (f.0 ++ (shorten k f.1 ++ stressed k (plain f.2) ∷ []), shorten k p) ≡ made = cc in
    let w = opener_is (opens_for ch first o) before f e in
    let pos = strength_some (len_of f.1) len in
    let less = shortened ch first o k f.1 pos w.0 in
    let own = shorten_weight k (ltb k len) ch len first o true pos refl in
    subst (λ (x : List Piece × List Piece). marks x.0 + marks x.1 < marks before + marks_of p) same
    (omega (arith, own, less, marks-append f.0 (shorten k f.1 ++ stressed k (plain f.2) ∷ []), marks-append (shorten k f.1) (stressed k (plain f.2) ∷ []), ap marks w.1, marks-append f.0 (f.1 ∷ f.2)))

pair_weight : (before : List Piece) (made : List Piece × List Piece) (p : Piece) → pair_with before p ≡ Some made → marks made.0 + marks made.1 < marks before + marks_of p
pair_weight before made (delimiter_run ch len first o true) h = paired_weight ch len first o before made (last_that (opens_for ch first o) before) refl h
pair_weight before made (delimiter_run ch len first o false) h = absurd cc
pair_weight before made (finished xs) h = absurd cc
pair_weight before made (open_bracket k ch behind) h = absurd cc

abbrev list_of : List Piece → Option (List Piece)
list_of m = Some m

go_weight : (r : Option (List Piece × List Piece)) (w v : ℕ) (ps qs : List Piece) (later : Option (List Piece)) → then_go r ps later ≡ Some qs → ((made : List Piece × List Piece) → r ≡ Some made → marks made.0 + marks made.1 < w + v) → (later ≡ Some qs → marks qs < w + v + marks ps) → marks qs < w + v + marks ps
go_weight (Some made) w v ps qs later e h k =
    let m : list_of (made.0 ++ (made.1 ++ ps)) ≡ list_of qs = e in
    let same : made.0 ++ (made.1 ++ ps) ≡ qs = cc in
    omega (arith, ap marks same, marks-append made.0 (made.1 ++ ps), marks-append made.1 ps, h made refl)
go_weight None w v ps qs later e h k = k e

once_weight : (before ps qs : List Piece) → first_pairing before ps ≡ Some qs → marks qs < marks before + marks ps
once_weight before [] qs e = absurd cc
once_weight before (p ∷ ps) qs e =
    omega (arith, go_weight (pair_with before p) (marks before) (marks_of p) ps qs (first_pairing (before ++ p ∷ []) ps) e (λ made h. pair_weight before made p h) (λ h. omega (arith, once_weight (before ++ p ∷ []) ps qs h, marks-append before (p ∷ []))))

again_same : (r : Option (List Piece)) (ps : List Piece) (f g : List Piece → Inlines) → ((qs : List Piece) → r ≡ Some qs → f qs ≡ g qs) → pairing_again r f ps ≡ pairing_again r g ps
again_same None ps f g h = refl
again_same (Some qs) ps f g h = h qs refl

falls : Falls marks no_inlines pairs_step
falls f g ps h = again_same (first_pairing [] ps) ps f g (λ qs e. h qs (omega (arith, once_weight [] ps qs e)))

pub pairs_is : (ps : List Piece) → pairs ps ≡ pairs_step pairs ps
unfolding pairs
pairs_is ps = down_is marks no_inlines pairs_step falls ps

-- ---- settled pieces

behind_at : (r : Option (List Piece × List Piece)) (later later' all : Option (List Piece)) (xs ys : List Piece) → then_go r xs later ≡ None → (later ≡ None → later' ≡ all) → then_go r (xs ++ ys) later' ≡ all
behind_at (Some made) later later' all xs ys h k = absurd cc
behind_at None later later' all xs ys h k = k h

behind : (before xs ys : List Piece) → first_pairing before xs ≡ None → first_pairing before (xs ++ ys) ≡ first_pairing (before ++ xs) ys
behind before [] ys h = ap (λ b. first_pairing b ys) (sym (append-nil before))
behind before (x ∷ xs) ys h =
    behind_at (pair_with before x) (first_pairing (before ++ x ∷ []) xs) (first_pairing (before ++ x ∷ []) (xs ++ ys)) (first_pairing (before ++ x ∷ xs) ys) xs ys h
    (λ k. behind (before ++ x ∷ []) xs ys k ∙ ap (λ b. first_pairing b ys) (append_assoc before (x ∷ []) xs))

front_at : (r : Option (List Piece × List Piece)) (later later' : Option (List Piece)) (xs ys : List Piece) → then_go r (xs ++ ys) later' ≡ None → (later' ≡ None → later ≡ None) → then_go r xs later ≡ None
front_at (Some made) later later' xs ys h k = absurd cc
front_at None later later' xs ys h k = k h

front_settled : (before xs ys : List Piece) → first_pairing before (xs ++ ys) ≡ None → first_pairing before xs ≡ None
front_settled before [] ys h = refl
front_settled before (x ∷ xs) ys h =
    front_at (pair_with before x) (first_pairing (before ++ x ∷ []) xs) (first_pairing (before ++ x ∷ []) (xs ++ ys)) xs ys h (front_settled (before ++ x ∷ []) xs ys)

-- a piece of settled pieces closes nothing
closes_none : (r : Option (List Piece × List Piece)) (ps : List Piece) (later : Option (List Piece)) → then_go r ps later ≡ None → r ≡ None
closes_none (Some made) ps later h = absurd cc
closes_none None ps later h = refl

inner_none : (xs : List Piece) (p : Piece) (ys : List Piece) → Settled (xs ++ p ∷ ys) → pair_with xs p ≡ None
inner_none xs p ys h = closes_none (pair_with xs p) ys (first_pairing (xs ++ p ∷ []) ys) (sym (behind [] xs (p ∷ ys) (front_settled [] xs (p ∷ ys) h)) ∙ h)

settled_more : (cur : List Piece) (p : Piece) → Settled cur → pair_with cur p ≡ None → Settled (cur ++ p ∷ [])
settled_more cur p h e = behind [] cur (p ∷ []) h ∙ rw e refl

-- whether a run has an opener doesn't depend on how many marks it has now
still_none : (ch len m first : ℕ) (o : Bool) (r : Option Found) → paired len (delimiter_run ch len first o true) r ≡ None → paired m (delimiter_run ch m first o true) r ≡ None
still_none ch len m first o None e = refl
still_none ch len m first o (Some f) e = absurd cc

shorter_none : (before : List Piece) (ch len m first : ℕ) (o c : Bool) → pair_with before (delimiter_run ch len first o c) ≡ None → pair_with before (delimiter_run ch m first o c) ≡ None
shorter_none before ch len m first o true h = still_none ch len m first o (last_that (opens_for ch first o) before) h
shorter_none before ch len m first o false h = refl

settled_cond : (b : Bool) (cur : List Piece) (p : Piece) → Settled cur → pair_with cur p ≡ None → Settled (cur ++ cond b (p ∷ []) [])
settled_cond true cur p h e = settled_more cur p h e
settled_cond false cur p h e = subst Settled (sym (append-nil cur)) h

settled_shorten : (cur : List Piece) (k : ℕ) (p : Piece) → Settled cur → pair_with cur p ≡ None → Settled (cur ++ shorten k p)
settled_shorten cur k (finished xs) h e = subst Settled (sym (append-nil cur)) h
settled_shorten cur k (open_bracket j ch behind) h e = subst Settled (sym (append-nil cur)) h
settled_shorten cur k (delimiter_run ch len first o c) h e = settled_cond (ltb k len) cur (delimiter_run ch (len - k) first o c) h (shorter_none cur ch len (len - k) first o c e)

paired_settled : (ch len first : ℕ) (o : Bool) (cur : List Piece) (made : List Piece × List Piece) (r : Option Found) → Settled cur → last_that (opens_for ch first o) cur ≡ r → paired len (delimiter_run ch len first o true) r ≡ Some made → Settled made.0
paired_settled ch len first o cur made None h e k = absurd cc
paired_settled ch len first o cur made (Some f) h e k =
    let j = strength (len_of f.1) len in
    let m : made_of (f.0 ++ (shorten j f.1 ++ stressed j (plain f.2) ∷ []), shorten j (delimiter_run ch len first o true)) ≡ made_of made = k in
    let same : f.0 ++ (shorten j f.1 ++ stressed j (plain f.2) ∷ []) ≡ made.0 = cc in
    let w = opener_is (opens_for ch first o) cur f e in
    let whole : Settled (f.0 ++ f.1 ∷ f.2) = subst Settled w.1 h in
    let short = settled_shorten f.0 j f.1 (front_settled [] f.0 (f.1 ∷ f.2) whole) (inner_none f.0 f.1 f.2 whole) in
    subst Settled (append_assoc f.0 (shorten j f.1) (stressed j (plain f.2) ∷ []) ∙ same) (settled_more (f.0 ++ shorten j f.1) (stressed j (plain f.2)) short refl)

settled_pair : (cur : List Piece) (made : List Piece × List Piece) (p : Piece) → Settled cur → pair_with cur p ≡ Some made → Settled made.0
settled_pair cur made (delimiter_run ch len first o true) h k = paired_settled ch len first o cur made (last_that (opens_for ch first o) cur) h refl k
settled_pair cur made (delimiter_run ch len first o false) h k = absurd cc
settled_pair cur made (finished xs) h k = absurd cc
settled_pair cur made (open_bracket j ch behind) h k = absurd cc

pairs_pair : (cur : List Piece) (made : List Piece × List Piece) (p : Piece) (ps : List Piece) → Settled cur → pair_with cur p ≡ Some made → pairs (cur ++ p ∷ ps) ≡ pairs (made.0 ++ (made.1 ++ ps))
pairs_pair cur made p ps h e = pairs_is (cur ++ p ∷ ps) ∙ rw (behind [] cur (p ∷ ps) h, e) refl

pub pairs_end : (cur : List Piece) → Settled cur → pairs cur ≡ plain cur
pairs_end cur h = pairs_is cur ∙ rw h refl

step_of : (r : Option (List Piece × List Piece)) (cur : List Piece) (p : Piece) (ps : List Piece) → pair_with cur p ≡ r → Settled cur → StepOf r cur p ps
step_of None cur p ps e h = settled_more cur p h e
step_of (Some made) cur p ps e h = (settled_pair cur made p h e, pairs_pair cur made p ps h e)

pub is_step : (cur : List Piece) (p : Piece) (ps : List Piece) → Settled cur → IsStep cur p ps
is_step cur p ps h = step_of (pair_with cur p) cur p ps refl h
