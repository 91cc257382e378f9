-- The equations of the recursions on texts: each goes on with less of the text.
use Rattle.std.proofs.Common.{Bool, List, None, Option, Some, [], ap, arith, cond, drop, encode_utf8, false, length, refl, suc, true, zero, ℕ, ◌++◌, ◌+◌, ◌-◌, ◌<◌, ◌==◌, ◌∷◌, ◌≡◌, ◌≤◌}
use Rattle.site_base.specs.Recursion.{Falls, down_is}
use Rattle.markdown_grammar.specs.Definitions.{Definition, definitions, definitions_step, front_definition}
use Rattle.markdown_grammar.specs.Links.{close_bracket}
use Rattle.markdown_grammar.specs.Pieces.{Piece}
use Rattle.markdown_grammar.specs.Reading.{Spot, further, left_len, next_spot, pieces_at, pieces_from, pieces_step}
use Rattle.markdown_grammar.specs.References.{CharRef, front_meaning, resolved, resolved_step}
use Rattle.markdown_grammar.specs.Spans.{piece_at}

drop_len : (n : ℕ) (t : List ℕ) → length (drop n t) ≤ length t
drop_len zero t = omega arith
drop_len (suc n) [] = omega arith
drop_len (suc n) (c ∷ cs) = omega (arith, drop_len n cs)

-- ---- definitions

definitions_falls : Falls length [] definitions_step
definitions_falls f g [] h = refl
definitions_falls f g (c ∷ cs) h = go (front_definition (c ∷ cs)) where
  go : (o : Option Definition) → elim o as (λ x. List Definition) [ Some d ↦ d ∷ f (drop (d.size - 1) cs) | None ↦ [] ] ≡ elim o as (λ x. List Definition) [ Some d ↦ d ∷ g (drop (d.size - 1) cs) | None ↦ [] ]
  go (Some d) = ap (λ (ds : List Definition). d ∷ ds) (h (drop (d.size - 1) cs) (omega (arith, drop_len (d.size - 1) cs)))
  go None = refl

pub definitions_is : (t : List ℕ) → definitions t ≡ definitions_step definitions t
unfolding definitions
definitions_is t = down_is length [] definitions_step definitions_falls t

-- ---- escapes and references

resolved_falls : Falls length [] resolved_step
resolved_falls f g [] h = refl
resolved_falls f g (c ∷ cs) h = go (front_meaning (c ∷ cs)) where
  go : (o : Option CharRef)
      → elim o as (λ x. List ℕ) [ Some r ↦ encode_utf8 r.0 ++ f (drop (r.1 - 1) cs) | None ↦ c ∷ f cs ]
      ≡ elim o as (λ x. List ℕ) [ Some r ↦ encode_utf8 r.0 ++ g (drop (r.1 - 1) cs) | None ↦ c ∷ g cs ]
  go (Some r) = ap (λ (t : List ℕ). encode_utf8 r.0 ++ t) (h (drop (r.1 - 1) cs) (omega (arith, drop_len (r.1 - 1) cs)))
  go None = ap (λ (t : List ℕ). c ∷ t) (h cs (omega arith))

pub resolved_is : (t : List ℕ) → resolved t ≡ resolved_step resolved t
unfolding resolved
resolved_is t = down_is length [] resolved_step resolved_falls t

-- ---- pieces

further_len : (before : List Piece) (n : ℕ) (done : List ℕ) (c : ℕ) (cs : List ℕ) → left_len (further before n done c cs) < suc (length cs)
further_len before n done c cs = omega (arith, drop_len (n - 1) cs)

next_len : (defs : List Definition) (before : List Piece) (done : List ℕ) (c : ℕ) (cs : List ℕ) → left_len (next_spot defs before done c cs) < suc (length cs)
next_len defs before done c cs = two (c == 93) where
  two : (b : Bool) → left_len (cond b (let r = close_bracket defs before cs in further r.0 (r.1 + 1) done c cs) (let r = piece_at done (c ∷ cs) in further (before ++ r.0 ∷ []) r.1 done c cs)) < suc (length cs)
  two true = further_len (close_bracket defs before cs).0 ((close_bracket defs before cs).1 + 1) done c cs
  two false = further_len (before ++ (piece_at done (c ∷ cs)).0 ∷ []) (piece_at done (c ∷ cs)).1 done c cs

at_falls : (defs : List Definition) (f g : Spot → List Piece) (before : List Piece) (done left : List ℕ) → ((t : Spot) → left_len t < length left → f t ≡ g t) → pieces_at defs f before done left ≡ pieces_at defs g before done left
at_falls defs f g before done [] h = refl
at_falls defs f g before done (c ∷ cs) h = h (next_spot defs before done c cs) (next_len defs before done c cs)

pieces_falls : (defs : List Definition) → Falls left_len [] (pieces_step defs)
pieces_falls defs f g s h = at_falls defs f g s.before s.done s.left h

pub pieces_is : (defs : List Definition) (s : Spot) → pieces_from defs s ≡ pieces_step defs (pieces_from defs) s
unfolding pieces_from
pieces_is defs s = down_is left_len [] (pieces_step defs) (pieces_falls defs) s
