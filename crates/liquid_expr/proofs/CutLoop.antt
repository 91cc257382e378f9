-- The definition, one piece after another, as a loop makes them.
use Rattle.std.proofs.Common.{◌≡◌, ℕ, ◌+◌, ◌<◌, ◌≤◌, Bool, true, false, cond, eqb, List, [], ◌++◌, length, take, drop, Option, Some, None, refl, sym, ap, subst, ◌∙◌, append_assoc, arith}
use Rattle.std.proofs.lemmas.Bool.{eqb-false, eq-eqb, ne_eqb}
use Rattle.std.proofs.lemmas.List.{append-nil, drop-drop, length-drop}
use Rattle.site_base.specs.Recursion.{Falls, down_is}
use Rattle.liquid_grammar.specs.declared.piece.Piece.{Piece}
use Rattle.liquid_grammar.specs.declared.piece.Front.{Front}
use Rattle.liquid_grammar.specs.declared.piece.Front.TheVariants.{Text, Output, Tag, Raw, Comment, Unclosed}
use Rattle.liquid_grammar.specs.Pieces.{Rest, Cut, size, past, line_ends, with_front, cut_is, then_rest, cut_step, cut_from, front_of, pieces_of, trims_after}
use Rattle.liquid_expr.specs.Fits.{Fits, found_len}
use Rattle.liquid_expr.proofs.FrontFits.{front_fits}

cond_same : {X : Type 0} (b : Bool) (x y z : X) → (b ≡ false → y ≡ z) → cond b x y ≡ cond b x z
cond_same true x y z h = refl
cond_same false x y z h = h refl

abbrev SameBelow : (Rest → Cut) → (Rest → Cut) → Rest → Type 0
SameBelow f g s = (t : Rest) → size t < size s → f t ≡ g t

-- the size after a step
shorter : (s : Rest) (n : ℕ) (trims : Bool) → 0 < n → 0 < length s.text → size (past n trims s) < size s
shorter s n trims lt some = omega (arith, length-drop n s.text)

same_then : (n : Front) (f g : Rest → Cut) (s : Rest) → Fits (length s.text) n → 0 < length s.text → SameBelow f g s → then_rest n f s ≡ then_rest n g s
same_then Unclosed f g s fits some h = refl
same_then (Text n) f g s fits some h = ap (with_front (pieces_of (Text n) s)) (h (past n (trims_after (Text n) s.text) s) (shorter s n (trims_after (Text n) s.text) fits.0 some))
same_then (Output n) f g s fits some h = ap (with_front (pieces_of (Output n) s)) (h (past n (trims_after (Output n) s.text) s) (shorter s n (trims_after (Output n) s.text) (omega (arith, fits.0)) some))
same_then (Tag n) f g s fits some h = ap (with_front (pieces_of (Tag n) s)) (h (past n (trims_after (Tag n) s.text) s) (shorter s n (trims_after (Tag n) s.text) (omega (arith, fits.0)) some))
same_then (Raw n m) f g s fits some h = ap (with_front (pieces_of (Raw n m) s)) (h (past (n + m) (trims_after (Raw n m) s.text) s) (shorter s (n + m) (trims_after (Raw n m) s.text) (omega (arith, fits.0)) some))
same_then (Comment n m) f g s fits some h = ap (with_front (pieces_of (Comment n m) s)) (h (past (n + m) (trims_after (Comment n m) s.text) s) (shorter s (n + m) (trims_after (Comment n m) s.text) (omega (arith, fits.0)) some))

falls : Falls size (cut_is [] None) cut_step
falls f g s h =
    cond_same (eqb (length s.text) 0) (cut_is [] None) (then_rest (front_of s.text) f s) (then_rest (front_of s.text) g s)
    (λ some. same_then (front_of s.text) f g s (front_fits s.text) (omega (arith, eqb-false (length s.text) 0 some)) h)

-- the equation of the definition
pub cut_from_is : (r : Rest) → cut_from r ≡ cut_step cut_from r
unfolding cut_from
cut_from_is r = down_is size (cut_is [] None) cut_step falls r

abbrev pub rest_at : List ℕ → ℕ → ℕ → Bool → Rest
rest_at bytes at line trims = record { at = at; line = line; trims = trims; text = drop at bytes }

pub at_some : (bytes : List ℕ) (at line : ℕ) (trims : Bool) → at < length bytes → cut_from (rest_at bytes at line trims) ≡ then_rest (front_of (drop at bytes)) cut_from (rest_at bytes at line trims)
at_some bytes at line trims lt =
    let some : eqb (length (drop at bytes)) 0 ≡ false = ne_eqb (length (drop at bytes)) 0 (λ e. absurd (omega (arith, length-drop at bytes))) in
    cut_from_is (rest_at bytes at line trims) ∙ rw some refl

pub past_is : (bytes : List ℕ) (at line n : ℕ) (trims then : Bool) → past n then (rest_at bytes at line trims) ≡ rest_at bytes (at + n) (line + line_ends (take n (drop at bytes))) then
past_is bytes at line n trims then = ap (λ (text : List ℕ). record { at = at + n; line = line + line_ends (take n (drop at bytes)); trims = then; text = text }) (drop-drop n at bytes)

pub then_found : (next : Front) (len : ℕ) (s : Rest) → found_len next ≡ Some len → then_rest next cut_from s ≡ with_front (pieces_of next s) (cut_from (past len (trims_after next s.text) s))
then_found Unclosed len s e = absurd cc
then_found (Text n) len s e = let k : n ≡ len = cc in rw k refl
then_found (Output n) len s e = let k : n ≡ len = cc in subst (λ j. then_rest (Output n) cut_from s ≡ with_front (pieces_of (Output n) s) (cut_from (past j (trims_after (Output n) s.text) s))) k refl
then_found (Tag n) len s e = let k : n ≡ len = cc in subst (λ j. then_rest (Tag n) cut_from s ≡ with_front (pieces_of (Tag n) s) (cut_from (past j (trims_after (Tag n) s.text) s))) k refl
then_found (Raw n m) len s e = let k : n + m ≡ len = cc in subst (λ j. then_rest (Raw n m) cut_from s ≡ with_front (pieces_of (Raw n m) s) (cut_from (past j (trims_after (Raw n m) s.text) s))) k refl
then_found (Comment n m) len s e = let k : n + m ≡ len = cc in subst (λ j. then_rest (Comment n m) cut_from s ≡ with_front (pieces_of (Comment n m) s) (cut_from (past j (trims_after (Comment n m) s.text) s))) k refl

joined : (front more : List Piece) (all : Cut) → with_front front (with_front more all) ≡ with_front (front ++ more) all
joined front more all = ap (λ (x : List Piece). cut_is x all.unclosed) (sym (append_assoc front more all.pieces))

-- the pieces of what stands at a place, and those behind it
pub one_front : (bytes : List ℕ) (at line len : ℕ) (trims : Bool) → at < length bytes → found_len (front_of (drop at bytes)) ≡ Some len
    → cut_from (rest_at bytes at line trims)
    ≡ with_front (pieces_of (front_of (drop at bytes)) (rest_at bytes at line trims)) (cut_from (rest_at bytes (at + len) (line + line_ends (take len (drop at bytes))) (trims_after (front_of (drop at bytes)) (drop at bytes))))
one_front bytes at line len trims lt found =
    let next = front_of (drop at bytes) in
    let then = trims_after next (drop at bytes) in
    let here : Rest = rest_at bytes at line trims in
    at_some bytes at line trims lt ∙ then_found next len here found ∙ ap (λ r. with_front (pieces_of next here) (cut_from r)) (past_is bytes at line len trims then)

pub more_front : (front more : List Piece) (all : List Piece) (here later : Rest) (total : Cut) → all ≡ front ++ more → cut_from here ≡ with_front more (cut_from later)
    → with_front front (cut_from here) ≡ total → with_front all (cut_from later) ≡ total
more_front front more all here later total is one so_far = rw is (sym (joined front more (cut_from later)) ∙ ap (with_front front) (sym one) ∙ so_far)

pub then_none : (next : Front) (s : Rest) → found_len next ≡ None → then_rest next cut_from s ≡ cut_is [] (Some s.line)
then_none Unclosed s e = refl
then_none (Text n) s e = absurd cc
then_none (Output n) s e = absurd cc
then_none (Tag n) s e = absurd cc
then_none (Raw n m) s e = absurd cc
then_none (Comment n m) s e = absurd cc

closing : (front : List Piece) (unclosed : Option ℕ) → with_front front (cut_is [] unclosed) ≡ cut_is front unclosed
closing front unclosed = ap (λ (x : List Piece). cut_is x unclosed) (append-nil front)

pub no_front : (bytes : List ℕ) (at line : ℕ) (trims : Bool) → at < length bytes → found_len (front_of (drop at bytes)) ≡ None
    → cut_from (rest_at bytes at line trims) ≡ cut_is [] (Some line)
no_front bytes at line trims lt none = at_some bytes at line trims lt ∙ then_none (front_of (drop at bytes)) (rest_at bytes at line trims) none

pub nothing_left : (bytes : List ℕ) (at line : ℕ) (trims : Bool) → length bytes ≤ at → cut_from (rest_at bytes at line trims) ≡ cut_is [] None
nothing_left bytes at line trims le =
    let none : eqb (length (drop at bytes)) 0 ≡ true = eq-eqb (length (drop at bytes)) 0 (omega (arith, length-drop at bytes)) in
    cut_from_is (rest_at bytes at line trims) ∙ rw none refl

pub closes : (front : List Piece) (unclosed : Option ℕ) (here : Rest) (total : Cut) → cut_from here ≡ cut_is [] unclosed → with_front front (cut_from here) ≡ total → cut_is front unclosed ≡ total
closes front unclosed here total e so_far = sym (closing front unclosed) ∙ ap (with_front front) (sym e) ∙ so_far
