-- What is met by one query after another, and what stops at a test.
use Rattle.std.proofs.Common.{◌≡◌, ◌∙◌, refl, ap, sym, ℕ, ◌+◌, nat_lt, Bool, true, false, List, [], ◌∷◌, ◌++◌, length, if◌then◌else◌, Err}
use Rattle.site_base.specs.declared.faults.SiteFault.{SiteFault}
use Rattle.filter_base.specs.Limits.{most_text}
use Rattle.read_record.specs.Queries.{Query, Give, Fail, Ask, bind, Known, Missing, View, on_reply, Met, Gave, Failed, Missed, interpret}
use Rattle.feed_law.specs.FeedPieces.{Piece, excess_at, written, met}

module _ {F A B : Type 0} where
  abbrev pub then_met : Met F A → (A → Met F B) → Met F B
  then_met (Gave a) next = next a
  then_met (Failed e) next = Failed e
  then_met (Missed k j) next = Missed k j

  pub interpret_bind : (view : View) (q : Query F A) (next : A → Query F B) → interpret view (bind q next) ≡ then_met (interpret view q) (λ a. interpret view (next a))
  interpret_bind view (Give a) next = refl
  interpret_bind view (Fail e) next = refl
  interpret_bind view (Ask k on) next =
      elim (view k) as (λ r. on_reply r (λ v. interpret view (bind (on v) next)) (λ j. Missed k j) ≡ then_met (on_reply r (λ v. interpret view (on v)) (λ j. Missed k j)) (λ a. interpret view (next a)))
      [ Known v ↦ interpret_bind view (on v) next | Missing j ↦ refl ]

-- a fault where a test holds
abbrev pub guarded : {F A : Type 0} → Bool → F → Met F A → Met F A
guarded true e m = Failed e
guarded false e m = m

module _ {F A B : Type 0} where
  pub then_guarded : (b : Bool) (e : F) (m : Met F A) (next : A → Met F B) → then_met (guarded b e m) next ≡ guarded b e (then_met m next)
  then_guarded true e m next = refl
  then_guarded false e m next = refl

module _ {F A : Type 0} where
  -- a test that a later one with the same fault implies
  pub absorbed : (b c : Bool) (e : F) (m : Met F A) → (b ≡ true → c ≡ true) → guarded b e (guarded c e m) ≡ guarded c e m
  absorbed true c e m h = ap (λ (d : Bool). guarded d e m) (sym (h refl))
  absorbed false c e m h = refl

-- ---- Pieces

abbrev pub too_long : List ℕ → List ℕ → Bool
too_long out t = nat_lt most_text (length out + length t)

-- these pieces are written behind a text, and then what follows goes on
abbrev pub carried : {A : Type 0} → List ℕ → List ℕ → List Piece → (List ℕ → Met SiteFault A) → Met SiteFault A
carried file out [] next = next out
carried file out (c ∷ cs) next = guarded (too_long out c.text) (excess_at file c) (carried file (out ++ c.text) cs next)

module _ {A B : Type 0} (file : List ℕ) (first : List ℕ → Met SiteFault A) (next : A → Met SiteFault B) (last : List ℕ → Met SiteFault B) (behind : List Piece)
    (goes-on : (out : List ℕ) → then_met (first out) next ≡ carried file out behind last) where
  pub carried_then : (cs : List Piece) (out : List ℕ) → then_met (carried file out cs first) next ≡ carried file out (cs ++ behind) last
  carried_then [] out = goes-on out
  carried_then (c ∷ cs) out =
      then_guarded (too_long out c.text) (excess_at file c) (carried file (out ++ c.text) cs first) next
      ∙ ap (λ m. guarded (too_long out c.text) (excess_at file c) m) (carried_then cs (out ++ c.text))

module _ {A : Type 0} (file : List ℕ) (first : List ℕ → Met SiteFault A) (next : A → Met SiteFault (List ℕ)) (goes-on : (out : List ℕ) → then_met (first out) next ≡ Gave out) where
  pub carried_whole : (cs : List Piece) (out : List ℕ) → then_met (carried file out cs first) next ≡ met (written file out cs)
  carried_whole [] out = goes-on out
  carried_whole (c ∷ cs) out = go (too_long out c.text) (carried_whole cs (out ++ c.text))
    where
      go : (b : Bool) → then_met (carried file (out ++ c.text) cs first) next ≡ met (written file (out ++ c.text) cs) → then_met (guarded b (excess_at file c) (carried file (out ++ c.text) cs first)) next ≡ met (if b then Err (excess_at file c) else written file (out ++ c.text) cs)
      go true tail = refl
      go false tail = tail
