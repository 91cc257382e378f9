-- How far a line goes into the open containers, lazily too.
use Rattle.std.proofs.Common.{Bool, List, None, Option, Some, [], ap, arith, cond, false, length, nat_le, nat_lt, not, refl, suc, sym, true, ℕ, ◌&&◌, ◌==◌, ◌||◌, ◌∙◌, ◌∷◌, ◌≡◌}
use Rattle.markdown_grammar.specs.Columns.{Line, indent, lazy_line, line_text, own_line}
use Rattle.markdown_grammar.specs.Containers as grammar
use Rattle.markdown_grammar.specs.Extents.{Entry, goes_in, goes_in_if_filled, goes_in_if_open, stays_out}
use Rattle.markdown_grammar.specs.Fronts.{is_empty}
use Rattle.markdown_grammar.specs.LineStarts.{mark_at, start_of}
use Rattle.markdown_grammar.specs.Lines.{is_blank, trim_front}
use Rattle.markdown_grammar.specs.Matching.{Matched, one_more_kept}
use Rattle.markdown_grammar.specs.Places.{beside_paragraph}
use Rattle.markdown_grammar.specs.Starts.{Start, atx_start, blank_start, break_start, fence_start, html_start, indented_start, item_start, quote_start, text_start, underline_start}
use Rattle.cm_containers.specs.Answers.{as_container}
use Rattle.cm_containers.specs.Entries.{entered_at, kept_by, line_when, matched_by}
use Rattle.cm_containers.specs.Spots.{text_at}
use Rattle.cm_containers.specs.declared.kinds.Container.{Container}
use Rattle.cm_containers.specs.declared.kinds.Container.TheVariants.{Item, Quote}
use Rattle.cm_containers.specs.declared.matching.Entered.{Entered}
use Rattle.cm_containers.proofs.Filling.{item_cases, quote_cases}
use Rattle.cm_blocks.specs.Flat.{enters, reached}
use Rattle.cm_blocks.specs.Reaching.{is_text, reach_of}

counted : (n k : ℕ) (l : Line) → n ≡ k → (let a : Matched = record { kept = n; rest = l } in let b : Matched = record { kept = k; rest = l } in a ≡ b)
counted n k l e = ap (λ (i : ℕ). (let m : Matched = record { kept = i; rest = l } in m)) e

enters_kept : (p b : Bool) (e : Entry Line) (m : Line) → Some m ≡ kept_by b e → enters p b e ≡ Some m
enters_kept p b (goes_in l) m h = sym h
enters_kept p b (goes_in_if_filled l) m h = sym h
enters_kept p b (goes_in_if_open l) m h = absurd cc
enters_kept p b stays_out m h = absurd cc

-- ---- where a container does not go on by its own rule: a lazy line, or none

start_blank : (col : ℕ) (t : List ℕ) → is_blank t ≡ true → is_text (start_of beside_paragraph col t) ≡ false
start_blank col t h = blank_cases (is_blank t) (cond (nat_lt (indent col t) 4) (mark_at beside_paragraph (indent col t) (trim_front t)) text_start) h where
  blank_cases : (b : Bool) (s : Start) → b ≡ true → is_text (cond b blank_start s) ≡ false
  blank_cases true s h = refl
  blank_cases false s h = absurd cc

lazily_enters : (p b : Bool) (t : List ℕ) (s : Start) → enters p b (grammar.lazily t s) ≡ line_when (p && is_text s) (lazy_line t)
lazily_enters true b t text_start = refl
lazily_enters false b t text_start = refl
lazily_enters true b t blank_start = refl
lazily_enters false b t blank_start = refl
lazily_enters true b t quote_start = refl
lazily_enters false b t quote_start = refl
lazily_enters true b t (atx_start level u) = refl
lazily_enters false b t (atx_start level u) = refl
lazily_enters true b t (fence_start i mark len info) = refl
lazily_enters false b t (fence_start i mark len info) = refl
lazily_enters true b t (html_start kind) = refl
lazily_enters false b t (html_start kind) = refl
lazily_enters true b t (underline_start level) = refl
lazily_enters false b t (underline_start level) = refl
lazily_enters true b t break_start = refl
lazily_enters false b t break_start = refl
lazily_enters true b t (item_start kind number digits) = refl
lazily_enters false b t (item_start kind number digits) = refl
lazily_enters true b t indented_start = refl
lazily_enters false b t indented_start = refl

and_false : (p b : Bool) → b ≡ false → (p && b) ≡ false
and_false true b h = h
and_false false b h = refl

quote_left : (p b : Bool) (col : ℕ) (t u : List ℕ) → u ≡ trim_front t → None ≡ kept_by b (grammar.quote_entry col t u) → enters p b (grammar.quote_entry col t u) ≡ line_when (p && is_text (start_of beside_paragraph col t)) (lazy_line t)
quote_left p b col t [] e h = sym (ap (λ (x : Bool). line_when x (lazy_line t)) (and_false p (is_text (start_of beside_paragraph col t)) (start_blank col t (ap (λ (u : List ℕ). is_empty u) (sym e)))))
quote_left p b col t (c ∷ cs) e h = go (nat_lt (indent col t) 4 && (c == 62)) h where
  go : (x : Bool) → None ≡ kept_by b (quote_cases col t cs x) → enters p b (quote_cases col t cs x) ≡ line_when (p && is_text (start_of beside_paragraph col t)) (lazy_line t)
  go true h = absurd cc
  go false h = lazily_enters p b t (start_of beside_paragraph col t)

item_left : (p b : Bool) (content col : ℕ) (t : List ℕ) → None ≡ kept_by b (grammar.item_entry content col t) → enters p b (grammar.item_entry content col t) ≡ line_when (p && is_text (start_of beside_paragraph col t)) (lazy_line t)
item_left p b content col t h = go (is_blank t) (nat_le content (indent col t)) refl h where
  go : (x w : Bool) → is_blank t ≡ x → None ≡ kept_by b (item_cases content col t x w) → enters p b (item_cases content col t x w) ≡ line_when (p && is_text (start_of beside_paragraph col t)) (lazy_line t)
  go true w e h = sym h ∙ sym (ap (λ (x : Bool). line_when x (lazy_line t)) (and_false p (is_text (start_of beside_paragraph col t)) (start_blank col t e)))
  go false true e h = absurd cc
  go false false e h = lazily_enters p b t (start_of beside_paragraph col t)

entry_left : (p b : Bool) (k : Container) (col : ℕ) (t : List ℕ) → None ≡ kept_by b (grammar.entry (as_container k) (own_line col t))
    → enters p b (grammar.entry (as_container k) (own_line col t)) ≡ line_when (p && is_text (start_of beside_paragraph col t)) (lazy_line t)
entry_left p b Quote col t h = quote_left p b col t (trim_front t) refl h
entry_left p b (Item content mark number) col t h = item_left p b content col t h

-- a lazy line goes on with all that is open
all_lazy : (p f : Bool) (ks : List Container) (t : List ℕ) → reached p f ks (lazy_line t) ≡ record { kept = length ks; rest = lazy_line t }
all_lazy p f [] t = refl
all_lazy p f (Quote ∷ ks) t = ap one_more_kept (all_lazy p f ks t)
all_lazy p f (Item content mark number ∷ ks) t = ap one_more_kept (all_lazy p f ks t)

-- ---- all containers

-- a line starts nothing, so that it may be lazy
abbrev starts_nothing : Line → Bool
starts_nothing (own_line col t) = is_text (start_of beside_paragraph col t)
starts_nothing (lazy_line t) = false

-- all n containers are kept, or those of a match
abbrev lazily_all : ℕ → Matched → Bool → Matched
lazily_all n m b = cond b (record { kept = n; rest = lazy_line (line_text m.rest) }) m

abbrev leaves_lazily : Bool → ℕ → Matched → Bool
leaves_lazily p n m = (nat_lt m.kept n && p) && starts_nothing m.rest

left_by : (p b : Bool) (k : Container) (l : Line) → None ≡ kept_by b (grammar.entry (as_container k) l) → enters p b (grammar.entry (as_container k) l) ≡ line_when (p && starts_nothing l) (lazy_line (line_text l))
left_by p b k (own_line col t) h = entry_left p b k col t h
left_by p b Quote (lazy_line t) h = absurd cc
left_by p b (Item indent mark start) (lazy_line t) h = absurd cc

abbrev reached_on : Bool → Bool → List Container → Line → Option Line → Matched
reached_on p f ks l o = elim o as (λ x. Matched) [ Some m ↦ one_more_kept (reached p f ks m) | None ↦ record { kept = 0; rest = l } ]

abbrev matched_on : Bool → List Container → Line → Option Line → Matched
matched_on f ks l o = elim o as (λ x. Matched) [ Some m ↦ one_more_kept (matched_by f ks m) | None ↦ record { kept = 0; rest = l } ]

one_more : (p : Bool) (n : ℕ) (m : Matched) → one_more_kept (lazily_all n m (leaves_lazily p n m)) ≡ lazily_all (suc n) (one_more_kept m) (leaves_lazily p (suc n) (one_more_kept m))
one_more p n m =
    let same : nat_lt m.kept n ≡ nat_lt (suc m.kept) (suc n) = grind arith in
    go (leaves_lazily p n m) ∙ ap (λ (x : Bool). lazily_all (suc n) (one_more_kept m) ((x && p) && starts_nothing m.rest)) same where
      go : (b : Bool) → one_more_kept (lazily_all n m b) ≡ lazily_all (suc n) (one_more_kept m) b
      go true = refl
      go false = refl

some_left : (n : ℕ) → nat_lt 0 (suc n) ≡ true
some_left n = grind arith

-- the walk by the containers' own rules, and then lazily
lazily_reached : (p f : Bool) (ks : List Container) (l : Line) → reached p f ks l ≡ lazily_all (length ks) (matched_by f ks l) (leaves_lazily p (length ks) (matched_by f ks l))
lazily_reached p f [] l = refl
lazily_reached p f (k ∷ ks) l = go (kept_by (f || not (is_empty ks)) (grammar.entry (as_container k) l)) refl (λ m. lazily_reached p f ks m) where
  out : (x : Bool) → reached_on p f ks l (line_when x (lazy_line (line_text l))) ≡ lazily_all (suc (length ks)) (record { kept = 0; rest = l }) x
  out true = ap one_more_kept (all_lazy p f ks (line_text l))
  out false = refl

  go : (o : Option Line) → o ≡ kept_by (f || not (is_empty ks)) (grammar.entry (as_container k) l)
      → ((m : Line) → reached p f ks m ≡ lazily_all (length ks) (matched_by f ks m) (leaves_lazily p (length ks) (matched_by f ks m)))
      → reached_on p f ks l (enters p (f || not (is_empty ks)) (grammar.entry (as_container k) l)) ≡ lazily_all (suc (length ks)) (matched_on f ks l o) (leaves_lazily p (suc (length ks)) (matched_on f ks l o))
  go (Some m) e h =
      ap (reached_on p f ks l) (enters_kept p (f || not (is_empty ks)) (grammar.entry (as_container k) l) m e)
      ∙ ap one_more_kept (h m) ∙ one_more p (length ks) (matched_by f ks m)
  go None e h =
      let some : nat_lt 0 (suc (length ks)) ≡ true = some_left (length ks) in
      ap (reached_on p f ks l) (left_by p (f || not (is_empty ks)) k l e) ∙ out (p && starts_nothing l)
      ∙ ap (λ (x : Bool). lazily_all (suc (length ks)) (record { kept = 0; rest = l }) ((x && p) && starts_nothing l)) (sym some)

pub is_reached : (p f : Bool) (ks : List Container) (line : List ℕ) (e : Entered) (n : ℕ) (b : Bool) → n ≡ length ks → entered_at line e ≡ matched_by f ks (own_line 0 line)
    → b ≡ ((nat_lt e.kept n && p) && is_text (start_of beside_paragraph e.spot.column (text_at line e.spot)))
    → reach_of line (record { kept = cond b n e.kept; spot = e.spot; is_lazy = b }) ≡ reached p f ks (own_line 0 line)
is_reached p f ks line e n b count same is =
    go b
    ∙ ap (lazily_all n (entered_at line e)) is
    ∙ ap (λ (k : ℕ). lazily_all k (entered_at line e) (leaves_lazily p k (entered_at line e))) count
    ∙ ap (λ (m : Matched). lazily_all (length ks) m (leaves_lazily p (length ks) m)) same
    ∙ sym (lazily_reached p f ks (own_line 0 line)) where
      go : (b : Bool) → reach_of line (record { kept = cond b n e.kept; spot = e.spot; is_lazy = b }) ≡ lazily_all n (entered_at line e) b
      go true = refl
      go false = refl
