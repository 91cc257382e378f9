-- One container after another.
use Rattle.std.proofs.Common.{Bool, IsUtf8, List, None, Option, Some, [], ap, arith, cond, drop, false, get_or, length, map, nat_lt, not, refl, suc, sym, true, zero, ℕ, ◌+◌, ◌-◌, ◌<◌, ◌||◌, ◌∙◌, ◌∷◌, ◌≡◌, ◌≤◌}
use Rattle.std.proofs.lemmas.List.{drop_more}
use Rattle.std.proofs.lemmas.Str.{IsCharBoundary-from_drop}
use Rattle.markdown_grammar.specs.Columns.{Line, own_line, shifted}
use Rattle.markdown_grammar.specs.Containers as grammar
use Rattle.markdown_grammar.specs.Extents.{Entry, goes_in, goes_in_if_filled, goes_in_if_open, stays_out}
use Rattle.markdown_grammar.specs.Fronts.{is_empty}
use Rattle.markdown_grammar.specs.Matching.{Matched, matched, one_more_kept}
use Rattle.cm_containers.specs.Answers.{as_container, as_matched}
use Rattle.cm_containers.specs.Entries.{entered_at, kept_by, matched_by}
use Rattle.cm_containers.specs.Quoted.{up_to_quote, with_outer}
use Rattle.cm_containers.specs.Rests.{text_from}
use Rattle.cm_containers.specs.Spots.{IsSpot, rest_at, text_at}
use Rattle.cm_containers.specs.declared.kinds.Container.{Container}
use Rattle.cm_containers.specs.declared.kinds.Container.TheVariants.{Item, Quote}
use Rattle.cm_containers.specs.declared.matching.Entered.{Entered}
use Rattle.cm_containers.specs.declared.spots.Spot.{Spot}
use Rattle.cm_containers.proofs.QuoteLaws.{none_behind}

-- containers that are kept before those of a match
abbrev pub more_kept : ℕ → Matched → Matched
more_kept n m = record { kept = n + m.kept; rest = m.rest }

abbrev entry_on : Bool → List Container → Line → Option Line → Matched
entry_on f ks l o = elim o as (λ x. Matched) [ Some m ↦ one_more_kept (matched_by f ks m) | None ↦ record { kept = 0; rest = l } ]

counted : (n k : ℕ) (l : Line) → n ≡ k → (let a : Matched = record { kept = n; rest = l } in let b : Matched = record { kept = k; rest = l } in a ≡ b)
counted n k l e = ap (λ (i : ℕ). (let m : Matched = record { kept = i; rest = l } in m)) e

one_kept : (n : ℕ) (m : Matched) → more_kept n (one_more_kept m) ≡ more_kept (n + 1) m
one_kept n m = counted (n + suc m.kept) (n + 1 + m.kept) m.rest (omega arith)

some_left : (n : ℕ) (ks : List Container) → not (is_empty (drop n ks)) ≡ nat_lt n (length ks)
some_left zero [] = refl
some_left zero (k ∷ ks) = grind arith
some_left (suc n) [] = grind arith
some_left (suc n) (k ∷ ks) = some_left n ks ∙ grind arith

-- the containers from one on, and what the line does with that one
ahead : (f : Bool) (ks : List Container) (i : ℕ) (d : Container) (l : Line) (b : Bool) → i < length ks → b ≡ (f || nat_lt (i + 1) (length ks))
    → matched_by f (drop i ks) l ≡ entry_on f (drop (i + 1) ks) l (kept_by b (grammar.entry (as_container (get_or ks i d)) l))
ahead f ks i d l b lt e =
    ap (λ (xs : List Container). matched_by f xs l) (drop_more ks i d lt)
    ∙ ap (λ (x : Bool). entry_on f (drop (i + 1) ks) l (kept_by x (grammar.entry (as_container (get_or ks i d)) l))) (ap (λ (x : Bool). f || x) (some_left (i + 1) ks) ∙ sym e)

pub goes_on : (f : Bool) (ks : List Container) (i : ℕ) (d : Container) (line : List ℕ) (s t : Spot) (whole : Matched) (b : Bool) → i < length ks → b ≡ (f || nat_lt (i + 1) (length ks))
    → Some (rest_at line t) ≡ kept_by b (grammar.entry (as_container (get_or ks i d)) (rest_at line s))
    → more_kept i (matched_by f (drop i ks) (rest_at line s)) ≡ whole → more_kept (i + 1) (matched_by f (drop (i + 1) ks) (rest_at line t)) ≡ whole
goes_on f ks i d line s t whole b lt e h w =
    sym (one_kept i (matched_by f (drop (i + 1) ks) (rest_at line t)))
    ∙ sym (ap (λ (m : Matched). more_kept i m) (ahead f ks i d (rest_at line s) b lt e ∙ ap (entry_on f (drop (i + 1) ks) (rest_at line s)) (sym h))) ∙ w

pub stops_at : (f : Bool) (ks : List Container) (i : ℕ) (d : Container) (line : List ℕ) (s : Spot) (whole : Matched) (b : Bool) → i < length ks → b ≡ (f || nat_lt (i + 1) (length ks))
    → None ≡ kept_by b (grammar.entry (as_container (get_or ks i d)) (rest_at line s))
    → more_kept i (matched_by f (drop i ks) (rest_at line s)) ≡ whole → entered_at line (record { kept = i; spot = s }) ≡ whole
stops_at f ks i d line s whole b lt e h w =
    counted i (i + 0) (rest_at line s) (omega arith) ∙ sym (ap (λ (m : Matched). more_kept i m) (ahead f ks i d (rest_at line s) b lt e ∙ ap (entry_on f (drop (i + 1) ks) (rest_at line s)) (sym h))) ∙ w

none_left : (i : ℕ) (ks : List Container) → length ks ≤ i → drop i ks ≡ []
none_left zero [] h = refl
none_left (suc i) [] h = refl
none_left zero (k ∷ ks) h = absurd (omega (arith, h))
none_left (suc i) (k ∷ ks) h = none_left i ks (omega (arith, h))

pub stops_behind : (f : Bool) (ks : List Container) (i : ℕ) (line : List ℕ) (s : Spot) (whole : Matched) → length ks ≤ i
    → more_kept i (matched_by f (drop i ks) (rest_at line s)) ≡ whole → entered_at line (record { kept = i; spot = s }) ≡ whole
stops_behind f ks i line s whole le w =
    counted i (i + 0) (rest_at line s) (omega arith) ∙ sym (ap (λ (xs : List Container). more_kept i (matched_by f xs (rest_at line s))) (none_left i ks le)) ∙ w

pub all_ahead : (f : Bool) (ks : List Container) (line : List ℕ) → more_kept 0 (matched_by f (drop 0 ks) (rest_at line (record { at = 0; start = 0; column = 0 }))) ≡ matched_by f ks (own_line 0 line)
all_ahead f ks line = counted (0 + (matched_by f ks (own_line 0 line)).kept) (matched_by f ks (own_line 0 line)).kept (matched_by f ks (own_line 0 line)).rest (omega arith)

-- ---- the end of a line, where no quote is left

-- behind an item
no_quote : (indent mark start n : ℕ) → with_outer (Item indent mark start) n ≡ 0 → n ≡ 0
no_quote indent mark start zero h = refl
no_quote indent mark start (suc n) h = absurd (omega (arith, h))

nothing_shifted : (n col : ℕ) → shifted n col [] ≡ own_line col []
nothing_shifted zero col = refl
nothing_shifted (suc n) col = refl

-- it goes on with all items, but for the innermost where this is not filled
items_alone : (f : Bool) (ks : List Container) (col : ℕ) → up_to_quote ks ≡ 0 → matched_by f ks (own_line col []) ≡ record { kept = cond f (length ks) (length ks - 1); rest = own_line col [] }
items_alone true [] col h = refl
items_alone false [] col h = refl
items_alone f (Quote ∷ ks) col h = absurd (omega (arith, h))
items_alone true (Item indent mark start ∷ []) col h = ap (λ (l : Line). one_more_kept (record { kept = 0; rest = l })) (nothing_shifted indent col)
items_alone false (Item indent mark start ∷ []) col h = refl
items_alone true (Item indent mark start ∷ j ∷ ks) col h =
    ap (λ (l : Line). one_more_kept (matched_by true (j ∷ ks) l)) (nothing_shifted indent col)
    ∙ ap one_more_kept (items_alone true (j ∷ ks) col (no_quote indent mark start (up_to_quote (j ∷ ks)) h))
items_alone false (Item indent mark start ∷ j ∷ ks) col h =
    ap (λ (l : Line). one_more_kept (matched_by false (j ∷ ks) l)) (nothing_shifted indent col)
    ∙ ap one_more_kept (items_alone false (j ∷ ks) col (no_quote indent mark start (up_to_quote (j ∷ ks)) h))
    ∙ counted (suc (suc (length ks) - 1)) (suc (suc (length ks)) - 1) (own_line col []) (omega arith)

drop_length : (n : ℕ) (ks : List Container) → length (drop n ks) ≡ length ks - n
drop_length zero ks = omega arith
drop_length (suc n) [] = omega arith
drop_length (suc n) (k ∷ ks) = omega (arith, drop_length n ks)

pub stops_at_end : (f : Bool) (ks : List Container) (q i : ℕ) (line : List ℕ) (s : Spot) (whole : Matched) (n : ℕ) → up_to_quote ks ≤ q → q ≤ i → i < length ks → text_at line s ≡ []
    → n ≡ cond f (length ks) (length ks - 1)
    → more_kept i (matched_by f (drop i ks) (rest_at line s)) ≡ whole → entered_at line (record { kept = n; spot = s }) ≡ whole
stops_at_end f ks q i line s whole n hq hi lt t hn w =
    counted n (i + cond f (length (drop i ks)) (length (drop i ks) - 1)) (rest_at line s) (hn ∙ go f) ∙ ap (λ (l : Line). more_kept i (record { kept = cond f (length (drop i ks)) (length (drop i ks) - 1); rest = l })) blank
    ∙ sym (ap (λ (l : Line). more_kept i (matched_by f (drop i ks) l)) blank ∙ ap (more_kept i) (items_alone f (drop i ks) s.column (none_behind i ks (omega (arith, hq, hi))))) ∙ w where
      blank : rest_at line s ≡ own_line s.column []
      blank = ap (own_line s.column) t

      go : (f : Bool) → cond f (length ks) (length ks - 1) ≡ i + cond f (length (drop i ks)) (length (drop i ks) - 1)
      go true = omega (arith, lt, drop_length i ks)
      go false = omega (arith, lt, drop_length i ks)

-- ---- where the innermost has a block

abbrev of_entry : List grammar.Container → Line → Entry Line → Matched
of_entry ks l e = elim e [
  | goes_in m ↦ one_more_kept (matched ks m)
  | goes_in_if_filled m ↦ one_more_kept (matched ks m)
  | goes_in_if_open m ↦ record { kept = 0; rest = l }
  | stays_out ↦ record { kept = 0; rest = l }
]

pub all_filled : (ks : List Container) (l : Line) → matched_by true ks l ≡ matched (map as_container ks) l
all_filled [] l = refl
all_filled (k ∷ ks) l = go (grammar.entry (as_container k) l) (λ m. all_filled ks m) where
  go : (e : Entry Line) → ((m : Line) → matched_by true ks m ≡ matched (map as_container ks) m) → entry_on true ks l (kept_by true e) ≡ of_entry (map as_container ks) l e
  go (goes_in m) h = ap one_more_kept (h m)
  go (goes_in_if_filled m) h = ap one_more_kept (h m)
  go (goes_in_if_open m) h = refl
  go stays_out h = refl

-- the answer names the rest by its byte and column
pub named : (line : List ℕ) (e : Entered) (whole : Matched) → IsSpot line e.spot → entered_at line e ≡ whole → as_matched line (record { kept = e.kept; at = e.spot.at; column = e.spot.column }) ≡ whole
named line e whole h w =
    ap (λ (i : ℕ). (let x : Matched = record { kept = e.kept; rest = own_line e.spot.column (text_from i e.spot.at e.spot.column line) } in x)) (sym h.start) ∙ w

-- no more quotes than containers
pub all_quoted : (ks : List Container) → up_to_quote ks ≤ length ks
all_quoted [] = omega arith
all_quoted (Quote ∷ ks) = omega (arith, all_quoted ks)
all_quoted (Item indent mark start ∷ ks) = go (up_to_quote ks) (all_quoted ks) where
  go : (n : ℕ) → n ≤ length ks → with_outer (Item indent mark start) n ≤ suc (length ks)
  go zero h = omega arith
  go (suc n) h = omega (arith, h)

-- the front of the line
pub spot_front : (line : List ℕ) → IsUtf8 line → IsSpot line (record { at = 0; start = 0; column = 0 })
spot_front line u = record {
  within = omega arith;
  start = refl;
  small = omega arith;
  order = omega arith;
  near = omega arith;
  cut = IsCharBoundary-from_drop line 0 (omega arith) u;
  in_tab = λ bad. absurd (omega (arith, bad));
}
