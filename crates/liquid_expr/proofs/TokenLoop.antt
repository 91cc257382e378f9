-- The tokens of a text, one after another, as a loop makes them.
use Rattle.std.proofs.Common.{◌≡◌, ℕ, zero, suc, ◌+◌, ◌-◌, ◌<◌, ◌≤◌, Bool, true, false, ◌||◌, List, [], ◌∷◌, ◌++◌, length, drop, Option, Some, None, refl, sym, ap, ◌∙◌, append_assoc, arith, slice_index}
use Rattle.std.specs.List.{list_any}
use Rattle.std.proofs.lemmas.List.Folds.{list_any-append}
use Rattle.std.proofs.lemmas.List.{append-nil, drop-drop, length-drop, map-append}
use Rattle.liquid_grammar.specs.Pieces.{is_white}
use Rattle.liquid_grammar.specs.Tokens.{Token, is_large, with_token, token_at, tokens_after, tokens}
use Rattle.liquid_expr.specs.Tokens.{found_token, token_in, tokens_at, or_large}

abbrev pub with_tokens : List Token → Option (List Token) → Option (List Token)
with_tokens front (Some ts) = Some (front ++ ts)
with_tokens front None = None

passed_over : (k : ℕ) (xs : List ℕ) → tokens_after k xs ≡ tokens_after 0 (drop k xs)
unfolding tokens_after
passed_over zero xs = refl
passed_over (suc k) [] = refl
passed_over (suc k) (c ∷ cs) = passed_over k cs

-- what the first byte and the token that it starts make of the rest
abbrev with_first : Bool → Option (Token × ℕ) → List ℕ → Option (List Token)
with_first white found cs = elim white [
  | true ↦ tokens_after 0 cs
  | false ↦ elim found [ None ↦ None | Some f ↦ with_token f.0 (tokens_after (f.1 - 1) cs) ]
]

first_is : (c : ℕ) (cs : List ℕ) (white : Bool) (found : Option (Token × ℕ)) → is_white c ≡ white → token_at (c ∷ cs) ≡ found → tokens_after 0 (c ∷ cs) ≡ with_first white found cs
unfolding tokens_after
first_is c cs white found e f =
    let here : tokens_after 0 (c ∷ cs) ≡ with_first (is_white c) (token_at (c ∷ cs)) cs = refl in
    here ∙ ap (λ b. with_first b (token_at (c ∷ cs)) cs) e ∙ ap (λ t. with_first white t cs) f

white_step : (xs : List ℕ) → 0 < length xs → is_white (slice_index xs 0) ≡ true → tokens_after 0 xs ≡ tokens_after 0 (drop 1 xs)
white_step [] lt e = absurd (omega arith)
white_step (c ∷ cs) lt e = first_is c cs true (token_at (c ∷ cs)) e refl

token_step : (xs : List ℕ) (t : Token) (n : ℕ) → 0 < length xs → is_white (slice_index xs 0) ≡ false → token_at xs ≡ Some (t, suc n) → tokens_after 0 xs ≡ with_token t (tokens_after 0 (drop (suc n) xs))
token_step [] t n lt e found = absurd (omega arith)
token_step (c ∷ cs) t n lt e found =
    let less : suc n - 1 ≡ n = omega arith in
    first_is c cs false (Some (t, suc n)) e found ∙ ap (λ k. with_token t (tokens_after k cs)) less ∙ ap (with_token t) (passed_over n cs)

none_step : (xs : List ℕ) → 0 < length xs → is_white (slice_index xs 0) ≡ false → token_at xs ≡ None → tokens_after 0 xs ≡ None
none_step [] lt e found = absurd (omega arith)
none_step (c ∷ cs) lt e found = first_is c cs false None e found

joined : (front : List Token) (t : Token) (rest : Option (List Token)) → with_tokens (front ++ t ∷ []) rest ≡ with_tokens front (with_token t rest)
joined front t (Some ts) = ap (λ (x : List Token). Some x) (append_assoc front (t ∷ []) ts)
joined front t None = refl

goes_on : (front : List Token) (xs : List ℕ) (t : Token) (n : ℕ) (all : Option (List Token)) → 0 < length xs → is_white (slice_index xs 0) ≡ false → token_at xs ≡ Some (t, n) → 0 < n
    → with_tokens front (tokens_after 0 xs) ≡ all → with_tokens (front ++ t ∷ []) (tokens_after 0 (drop n xs)) ≡ all
goes_on front xs t zero all lt e found some told = absurd (omega arith)
goes_on front xs t (suc n) all lt e found some told =
    joined front t (tokens_after 0 (drop (suc n) xs)) ∙ ap (with_tokens front) (sym (token_step xs t n lt e found)) ∙ told

stops : (front : List Token) (xs : List ℕ) (all : Option (List Token)) → 0 < length xs → is_white (slice_index xs 0) ≡ false → token_at xs ≡ None → with_tokens front (tokens_after 0 xs) ≡ all → all ≡ None
stops front xs all lt e found told = sym told ∙ ap (with_tokens front) (none_step xs lt e found)

ends : (front : List Token) (xs : List ℕ) (all : Option (List Token)) → length xs ≡ 0 → with_tokens front (tokens_after 0 xs) ≡ all → all ≡ Some front
unfolding tokens_after
ends front [] all e told = sym told ∙ ap (λ (x : List Token). Some x) (append-nil front)
ends front (x ∷ xs) all e told = absurd (omega arith)

-- ---- The places of tokens

-- what is left of a text behind the tokens at these places
pub record IsLeft (text rest places : List ℕ) : Type 0 where
  pub within : length rest ≤ length text
  pub place : rest ≡ drop (length text - length rest) text
  pub told : with_tokens (tokens_at text places) (tokens_after 0 rest) ≡ tokens_after 0 text

nothing_before : (ts : Option (List Token)) → with_tokens [] ts ≡ ts
nothing_before (Some ts) = refl
nothing_before None = refl

pub all_left : (text : List ℕ) → IsLeft text text []
all_left text = record {
  within = omega arith;
  place = ap (λ k. drop k text) (let k : 0 ≡ length text - length text = omega arith in k);
  told = nothing_before (tokens_after 0 text);
}

left_place : (text rest : List ℕ) (n : ℕ) → length rest ≤ length text → n ≤ length rest → rest ≡ drop (length text - length rest) text → drop n rest ≡ drop (length text - length (drop n rest)) text
left_place text rest n le within place =
    let k : (length text - length rest) + n ≡ length text - length (drop n rest) = omega (arith, length-drop n rest) in
    ap (drop n) place ∙ drop-drop n (length text - length rest) text ∙ ap (λ i. drop i text) k

pub white_left : (text rest places : List ℕ) → IsLeft text rest places → 0 < length rest → is_white (slice_index rest 0) ≡ true → IsLeft text (drop 1 rest) places
white_left text rest places left some white = record {
  within = omega (arith, left.within, length-drop 1 rest);
  place = left_place text rest 1 left.within (omega arith) left.place;
  told = ap (with_tokens (tokens_at text places)) (sym (white_step rest some white)) ∙ left.told;
}

token_is : (text rest : List ℕ) (t : Token) (n : ℕ) → rest ≡ drop (length text - length rest) text → token_at rest ≡ Some (t, n) → token_in text (length text - length rest) ≡ t
unfolding token_in
token_is text rest t n place found = ap (λ xs. found_token (token_at xs)) (sym place) ∙ ap found_token found

pub token_left : (text rest places : List ℕ) (t : Token) (n : ℕ) → IsLeft text rest places → 0 < length rest → is_white (slice_index rest 0) ≡ false → token_at rest ≡ Some (t, n) → 0 < n → n ≤ length rest
    → IsLeft text (drop n rest) (places ++ (length text - length rest) ∷ [])
token_left text rest places t n left some black found more within = record {
  within = omega (arith, left.within, length-drop n rest);
  place = left_place text rest n left.within within left.place;
  told = ap (λ ts. with_tokens ts (tokens_after 0 (drop n rest))) (map-append (token_in text) places ((length text - length rest) ∷ []) ∙ ap (λ u. tokens_at text places ++ u ∷ []) (token_is text rest t n left.place found))
      ∙ goes_on (tokens_at text places) rest t n (tokens_after 0 text) some black found more left.told;
}

pub none_left : (text rest places : List ℕ) → IsLeft text rest places → 0 < length rest → is_white (slice_index rest 0) ≡ false → token_at rest ≡ None → tokens text ≡ None
none_left text rest places left some black found = stops (tokens_at text places) rest (tokens_after 0 text) some black found left.told

pub nothing_left : (text rest places : List ℕ) → IsLeft text rest places → length rest ≡ 0 → tokens text ≡ Some (tokens_at text places)
nothing_left text rest places left e = ends (tokens_at text places) rest (tokens_after 0 text) e left.told

or_false : (b : Bool) → (b || false) ≡ b
or_false true = refl
or_false false = refl

pub large_left : (text rest places : List ℕ) (t : Token) (n : ℕ) (before : Bool) → IsLeft text rest places → token_at rest ≡ Some (t, n) → before ≡ list_any is_large (tokens_at text places)
    → or_large before t ≡ list_any is_large (tokens_at text (places ++ (length text - length rest) ∷ []))
large_left text rest places t n before left found e =
    let place = length text - length rest in
    let is : tokens_at text (places ++ place ∷ []) ≡ tokens_at text places ++ t ∷ [] = map-append (token_in text) places (place ∷ []) ∙ ap (λ u. tokens_at text places ++ u ∷ []) (token_is text rest t n left.place found) in
    let all : list_any is_large (tokens_at text (places ++ place ∷ [])) ≡ (list_any is_large (tokens_at text places) || (is_large t || false)) = ap (list_any is_large) is ∙ list_any-append is_large (tokens_at text places) (t ∷ []) in
    ap (λ b. b || is_large t) e ∙ ap (λ b. list_any is_large (tokens_at text places) || b) (sym (or_false (is_large t))) ∙ sym all
