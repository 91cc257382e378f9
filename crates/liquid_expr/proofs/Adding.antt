-- What readings add to a list, one after another.
use Rattle.std.proofs.Common.{◌≡◌, ℕ, zero, suc, ◌+◌, ◌-◌, ◌<◌, ◌≤◌, List, [], ◌∷◌, ◌++◌, length, drop, Option, Some, None, Err, refl, sym, ap, ◌∙◌, append_assoc, arith}
use Rattle.std.proofs.lemmas.List.{append-nil, drop-drop, length-map}
use Rattle.liquid_grammar.specs.Tokens.{Token}
use Rattle.liquid_grammar.specs.Readings.{Reading, after, More, stop, wrong, one, with_first, many_after, many}
use Rattle.liquid_expr.specs.declared.stop.Stop.{Stop}
use Rattle.liquid_expr.specs.declared.stop.Stop.TheVariants.{NoReading, Memory}
use Rattle.liquid_expr.specs.declared.tokens.Tokens.{Tokens}
use Rattle.liquid_expr.specs.Tokens.{token_in, tokens_of, count}
use Rattle.liquid_expr.specs.Steps.{added, more_added, codes_of, Adds, AddsMore}

-- what was read, where something was added
pub record Added {A S : Type 0} (code : A → List S) (old : List S) (r : Reading A) (new : List S) (n : ℕ) : Type 0 where
  pub value : A
  pub read : r ≡ Some (value, n)
  pub list : old ++ code value ≡ new

abbrev pair_of : {X Y : Type 0} → X × Y → Option (X × Y) → X × Y
pair_of d (Some p) = p
pair_of d None = d

pub parts : {A S : Type 0} (code : A → List S) (old : List S) (r : Reading A) (new : List S) (n : ℕ) → added code old r ≡ Some (new, n) → Added code old r new n
parts code old None new n e = absurd cc
parts code old (Some x) new n e =
    let len : x.1 ≡ n = ap (λ o. (pair_of (new, n) o).1) e in
    let list : old ++ code x.0 ≡ new = ap (λ o. (pair_of (new, n) o).0) e in
    record { value = x.0; read = ap (λ k. Some (x.0, k)) len; list = list }

pub record AddedMore {A S : Type 0} (code : A → List S) (old : List S) (m : More A) (new : List S) (n : ℕ) : Type 0 where
  pub value : A
  pub found : m ≡ one value n
  pub list : old ++ code value ≡ new

pub more_parts : {A S : Type 0} (code : A → List S) (old : List S) (m : More A) (new : List S) (n : ℕ) → more_added code old m ≡ Some (new, n) → AddedMore code old m new n
more_parts code old stop new n e = absurd cc
more_parts code old wrong new n e = absurd cc
more_parts code old (one x k) new n e =
    let len : k ≡ n = ap (λ o. (pair_of (new, n) o).1) e in
    let list : old ++ code x ≡ new = ap (λ o. (pair_of (new, n) o).0) e in
    record { value = x; found = ap (one x) len; list = list }

pub after_after : {A : Type 0} (m n : ℕ) (r : Reading A) → after m (after n r) ≡ after (m + n) r
after_after m n (Some x) = ap (λ k. Some (x.0, k)) (let e : m + (n + x.1) ≡ (m + n) + x.1 = omega arith in e)
after_after m n None = refl

pub after_zero : {A : Type 0} (r : Reading A) → after 0 r ≡ r
after_zero (Some x) = ap (λ k. Some (x.0, k)) (let e : 0 + x.1 ≡ x.1 = omega arith in e)
after_zero None = refl

module _ {A : Type 0} (next : List Token → More A) where
  passed_over : (k : ℕ) (ts : List Token) → k ≤ length ts → many_after next k ts ≡ after k (many next (drop k ts))
  unfolding many_after
  passed_over zero ts le = sym (after_zero (many next ts))
  passed_over (suc k) [] le = absurd (omega arith)
  passed_over (suc k) (t ∷ ts) le =
      let one_more : 1 + k ≡ suc k = omega arith in
      ap (after 1) (passed_over k ts (omega arith)) ∙ after_after 1 k (many next (drop k ts)) ∙ ap (λ n. after n (many next (drop k ts))) one_more

  abbrev many_first : More A → List Token → Reading (List A)
  many_first m ts = elim m [
    | stop ↦ Some ([], 0)
    | wrong ↦ None
    | one x n ↦ with_first x (after 1 (many_after next (n - 1) ts))
  ]

  first_is : (t : Token) (ts : List Token) (m : More A) → next (t ∷ ts) ≡ m → many next (t ∷ ts) ≡ many_first m ts
  unfolding many_after
  first_is t ts m e =
      let here : many next (t ∷ ts) ≡ many_first (next (t ∷ ts)) ts = refl in
      here ∙ ap (λ x. many_first x ts) e

  pub many_stop : (ts : List Token) → next ts ≡ stop → many next ts ≡ Some ([], 0)
  unfolding many_after
  many_stop [] e = refl
  many_stop (t ∷ ts) e = first_is t ts stop e

  pub many_wrong : next [] ≡ stop → (ts : List Token) → next ts ≡ wrong → many next ts ≡ None
  many_wrong none [] e = absurd cc
  many_wrong none (t ∷ ts) e = first_is t ts wrong e

  many_one : (ts : List Token) (x : A) (n : ℕ) → next ts ≡ one x n → 0 < n → n ≤ length ts → many next ts ≡ with_first x (after n (many next (drop n ts)))
  many_one [] x n e some le = absurd (omega arith)
  many_one (t ∷ ts) x zero e some le = absurd (omega arith)
  many_one (t ∷ ts) x (suc n) e some le =
      let less : suc n - 1 ≡ n = omega arith in
      let all : 1 + n ≡ suc n = omega arith in
      first_is t ts (one x (suc n)) e ∙ ap (λ k. with_first x (after 1 (many_after next k ts))) less
      ∙ ap (λ r. with_first x (after 1 r)) (passed_over n ts (omega arith)) ∙ ap (with_first x) (after_after 1 n (many next (drop n ts)) ∙ ap (λ k. after k (many next (drop n ts))) all)

  module _ {S : Type 0} (code : A → List S) where
    joined : (old : List S) (used n : ℕ) (x : A) (r : Reading (List A)) → added (codes_of code) (old ++ code x) (after (used + n) r) ≡ added (codes_of code) old (after used (with_first x (after n r)))
    joined old used n x None = refl
    joined old used n x (Some r) =
        let len : (used + n) + r.1 ≡ used + (n + r.1) = omega arith in
        ap (λ l. Some (l, (used + n) + r.1)) (append_assoc old (code x) (codes_of code r.0)) ∙ ap (λ k. Some (old ++ (code x ++ codes_of code r.0), k)) len

    -- one more, as a loop adds it
    pub goes_on : (ts : List Token) (now new : List S) (used n : ℕ) (total : Option (List S × ℕ)) → more_added code now (next (drop used ts)) ≡ Some (new, n) → 0 < n → n ≤ length (drop used ts)
        → added (codes_of code) now (after used (many next (drop used ts))) ≡ total → added (codes_of code) new (after (used + n) (many next (drop (used + n) ts))) ≡ total
    goes_on ts now new used n total e some le told =
        let more = more_parts code now (next (drop used ts)) new n e in
        let place : drop n (drop used ts) ≡ drop (used + n) ts = drop-drop n used ts in
        ap (λ l. added (codes_of code) l (after (used + n) (many next (drop (used + n) ts)))) (sym more.list)
        ∙ ap (λ r. added (codes_of code) (now ++ code more.value) (after (used + n) (many next r))) (sym place)
        ∙ joined now used n more.value (many next (drop n (drop used ts)))
        ∙ ap (λ r. added (codes_of code) now (after used r)) (sym (many_one (drop used ts) more.value n more.found some le)) ∙ told

    pub ends : (ts : List Token) (now : List S) (used : ℕ) (total : Option (List S × ℕ)) → next (drop used ts) ≡ stop
        → added (codes_of code) now (after used (many next (drop used ts))) ≡ total → total ≡ Some (now, used)
    ends ts now used total e told =
        let len : used + 0 ≡ used = omega arith in
        sym told ∙ ap (λ r. added (codes_of code) now (after used r)) (many_stop (drop used ts) e) ∙ ap (λ l. Some (l, used + 0)) (append-nil now) ∙ ap (λ k. Some (now, k)) len

    none_added : (old : List S) (r : Reading (List A)) → added (codes_of code) old r ≡ None → r ≡ None
    none_added old None e = refl
    none_added old (Some x) e = absurd cc

    pub fails : next [] ≡ stop → (ts : List Token) (old now : List S) (used : ℕ) → next (drop used ts) ≡ wrong
        → added (codes_of code) now (after used (many next (drop used ts))) ≡ added (codes_of code) old (many next ts) → many next ts ≡ None
    fails none ts old now used e told =
        none_added old (many next ts) (sym told ∙ ap (λ r. added (codes_of code) now (after used r)) (many_wrong none (drop used ts) e))

    pub begins : (old : List S) (ts : List Token) → added (codes_of code) old (after 0 (many next (drop 0 ts))) ≡ added (codes_of code) old (many next ts)
    begins old ts = ap (added (codes_of code) old) (after_zero (many next ts))

-- an error goes through
pub pass_error : {A B S U : Type 0} (code : A → List S) (more : B → List U) (old new : List S) (old' new' : List U) (r : Reading A) (all : Reading B) (error : Stop) → Adds code (Err error) old new r → (r ≡ None → all ≡ None) → Adds more (Err error) old' new' all
pass_error code more old new old' new' r all NoReading h f = f h
pass_error code more old new old' new' r all Memory h f = tt

pub pass_more : {A B S U : Type 0} (code : A → List S) (more : B → List U) (old new : List S) (old' new' : List U) (m : More A) (all : Reading B) (error : Stop) → AddsMore code (Err error) old new m → (m ≡ wrong → all ≡ None) → Adds more (Err error) old' new' all
pass_more code more old new old' new' m all NoReading h f = f h
pass_more code more old new old' new' m all Memory h f = tt

-- each place has a token
pub counted : (ts : Tokens) → length (tokens_of ts) ≡ count ts
counted ts = length-map ts.places.now (token_in ts.text.now)
