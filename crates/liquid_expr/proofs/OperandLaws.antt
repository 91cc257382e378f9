-- The readings of operands, from those of their parts.
use Rattle.std.proofs.Common.{◌≡◌, ℕ, zero, suc, ◌+◌, ◌-◌, Bool, true, false, cond, List, [], ◌∷◌, ◌++◌, drop, Some, None, refl, sym, ap, ◌∙◌, append_assoc, arith}
use Rattle.std.proofs.lemmas.List.{append-nil}
use Rattle.liquid_grammar.specs.declared.step.Step.{Step}
use Rattle.liquid_grammar.specs.declared.step.Step.TheVariants as step
use Rattle.liquid_grammar.specs.declared.literal.Literal.{Literal}
use Rattle.liquid_grammar.specs.Tokens.{Token}
use Rattle.liquid_grammar.specs.Readings.{Reading, after, stop, wrong, more_of, many, ◌>>=◌}
use Rattle.liquid_grammar.specs.Expressions.{Link, named, at, walk, closes_bracket, closes_range, goes_to, bracket_end, bracket, link, follow, range_close, range_end, range_at, operand_from, operand_with, start_of, starts_variable, starts_literal, starts_range, no_start, follow_of, follows_name, follows_bracket, follows_nothing, no_follow, operand_in, operand_inside}
use Rattle.liquid_grammar.specs.Operands.{Operand, range, variable, member, index}
use Rattle.liquid_expr.specs.Steps.{link_steps, codes_of, added, more_added}
use Rattle.liquid_grammar.specs.Operands.{steps_of}
use Rattle.liquid_expr.proofs.Adding.{parts}

pub operand_is : (d : ℕ) (ts : List Token) → operand_in d ts ≡ operand_with (operand_inside d) ts
unfolding operand_in
operand_is zero ts = refl
operand_is (suc d) ts = refl

pub inside_zero : (d : ℕ) (ts : List Token) → d ≡ 0 → operand_inside d ts ≡ None
inside_zero zero ts e = refl
inside_zero (suc d) ts e = absurd (omega arith)

pub inside_is : (d : ℕ) (ts : List Token) → (d ≡ 0 → ⊥) → operand_in (d - 1) ts ≡ operand_inside d ts
inside_is zero ts e = absurd (e refl)
inside_is (suc d) ts e = ap (λ k. operand_in k ts) (let k : suc d - 1 ≡ d = omega arith in k)

module _ (inner : List Token → Reading Operand) where
  -- ---- Brackets
  bracket_from : (ts : List Token) (x : Operand) (n : ℕ) (closes : Bool) → inner ts ≡ Some (x, n) → closes_bracket (drop n ts) ≡ closes → bracket inner ts ≡ after n (cond closes (Some (at x, 1)) None)
  bracket_from ts x n closes e f =
      ap (λ r. r >>= λ y. after y.1 (bracket_end inner y.0 (drop y.1 ts))) e ∙ ap (λ b. after n (cond b (Some (at x, 1)) None)) f

  pub bracket_none : (ts : List Token) → inner ts ≡ None → bracket inner ts ≡ None
  bracket_none ts e = ap (λ r. r >>= λ y. after y.1 (bracket_end inner y.0 (drop y.1 ts))) e

  pub bracket_open : (ts : List Token) (old new : List Step) (n : ℕ) → added steps_of old (inner ts) ≡ Some (new, n) → closes_bracket (drop n ts) ≡ false → bracket inner ts ≡ None
  bracket_open ts old new n e f = let p = parts steps_of old (inner ts) new n e in bracket_from ts p.value n false p.read f

  pub bracket_adds : (ts : List Token) (old new : List Step) (n : ℕ) → added steps_of old (inner ts) ≡ Some (new, n) → closes_bracket (drop n ts) ≡ true → added link_steps old (bracket inner ts) ≡ Some (new ++ step.Index ∷ [], n + 1)
  bracket_adds ts old new n e f =
      let p = parts steps_of old (inner ts) new n e in
      ap (added link_steps old) (bracket_from ts p.value n true p.read f)
      ∙ ap (λ l. Some (l, n + 1)) (sym (append_assoc old (steps_of p.value) (step.Index ∷ [])) ∙ ap (λ l. l ++ step.Index ∷ []) p.list)

  -- ---- Links
  link_is : (ts : List Token) (f : _) → follow_of ts ≡ f → link inner ts ≡ follow inner f ts
  link_is ts f e = ap (λ x. follow inner x ts) e

  pub link_named : (ts : List Token) (old : List Step) (name : List ℕ) → follows_name name ≡ follow_of ts → more_added link_steps old (link inner ts) ≡ Some (old ++ step.Member name ∷ [], 2)
  link_named ts old name e = ap (more_added link_steps old) (link_is ts (follows_name name) (sym e))

  pub link_wrong : (ts : List Token) → follows_nothing ≡ follow_of ts → link inner ts ≡ wrong
  link_wrong ts e = link_is ts follows_nothing (sym e)

  pub link_stop : (ts : List Token) → no_follow ≡ follow_of ts → link inner ts ≡ stop
  link_stop ts e = link_is ts no_follow (sym e)

  pub link_bracket : (ts : List Token) (old new : List Step) (n : ℕ) → follows_bracket ≡ follow_of ts → added link_steps old (bracket inner (drop 1 ts)) ≡ Some (new, n) → more_added link_steps old (link inner ts) ≡ Some (new, n + 1)
  link_bracket ts old new n e f =
      let p = parts link_steps old (bracket inner (drop 1 ts)) new n f in
      let len : 1 + n ≡ n + 1 = omega arith in
      ap (more_added link_steps old) (link_is ts follows_bracket (sym e) ∙ ap (λ r. more_of (after 1 r)) p.read) ∙ ap (λ l. Some (l, 1 + n)) p.list ∙ ap (λ k. Some (new, k)) len

  pub link_bracket_none : (ts : List Token) → follows_bracket ≡ follow_of ts → bracket inner (drop 1 ts) ≡ None → link inner ts ≡ wrong
  link_bracket_none ts e f = link_is ts follows_bracket (sym e) ∙ ap (λ r. more_of (after 1 r)) f

  -- ---- Ranges
  range_from : (ts : List Token) (a : Operand) (n : ℕ) → inner ts ≡ Some (a, n) → range_at inner ts ≡ after n (range_end inner a (drop n ts))
  range_from ts a n e = ap (λ r. r >>= λ y. after y.1 (range_end inner y.0 (drop y.1 ts))) e

  pub range_none : (ts : List Token) → inner ts ≡ None → range_at inner ts ≡ None
  range_none ts e = ap (λ r. r >>= λ y. after y.1 (range_end inner y.0 (drop y.1 ts))) e

  pub range_no_end : (ts : List Token) (old new : List Step) (n : ℕ) → added steps_of old (inner ts) ≡ Some (new, n) → goes_to (drop n ts) ≡ false → range_at inner ts ≡ None
  range_no_end ts old new n e f =
      let p = parts steps_of old (inner ts) new n e in
      let behind = drop n ts in
      range_from ts p.value n p.read ∙ ap (λ b. after n (cond b (inner (drop 1 behind) >>= λ y. after (1 + y.1) (range_close inner p.value y.0 (drop y.1 (drop 1 behind)))) None)) f

  range_to : (ts : List Token) (a : Operand) (n : ℕ) (r : Reading Operand) → inner ts ≡ Some (a, n) → goes_to (drop n ts) ≡ true → inner (drop 1 (drop n ts)) ≡ r → range_at inner ts ≡ after n (r >>= λ y. after (1 + y.1) (range_close inner a y.0 (drop y.1 (drop 1 (drop n ts)))))
  range_to ts a n r e f g =
      let behind = drop n ts in
      range_from ts a n e ∙ ap (λ b. after n (cond b (inner (drop 1 behind) >>= λ y. after (1 + y.1) (range_close inner a y.0 (drop y.1 (drop 1 behind)))) None)) f
      ∙ ap (λ x. after n (x >>= λ y. after (1 + y.1) (range_close inner a y.0 (drop y.1 (drop 1 behind))))) g

  pub range_wrong_end : (ts : List Token) (old new : List Step) (n : ℕ) → added steps_of old (inner ts) ≡ Some (new, n) → goes_to (drop n ts) ≡ true → inner (drop 1 (drop n ts)) ≡ None → range_at inner ts ≡ None
  range_wrong_end ts old new n e f g = let p = parts steps_of old (inner ts) new n e in range_to ts p.value n None p.read f g

  range_closed : (ts : List Token) (a b : Operand) (n m : ℕ) (closes : Bool) → inner ts ≡ Some (a, n) → goes_to (drop n ts) ≡ true → inner (drop 1 (drop n ts)) ≡ Some (b, m) → closes_range (drop m (drop 1 (drop n ts))) ≡ closes
      → range_at inner ts ≡ after n (after (1 + m) (cond closes (Some (range a b, 1)) None))
  range_closed ts a b n m closes e f g h =
      range_to ts a n (Some (b, m)) e f g ∙ ap (λ c. after n (after (1 + m) (cond c (Some (range a b, 1)) None))) h

  pub range_open : (ts : List Token) (old mid new : List Step) (n m : ℕ) → added steps_of old (inner ts) ≡ Some (mid, n) → goes_to (drop n ts) ≡ true → added steps_of (mid ++ step.FirstEnd ∷ []) (inner (drop 1 (drop n ts))) ≡ Some (new, m) → closes_range (drop m (drop 1 (drop n ts))) ≡ false → range_at inner ts ≡ None
  range_open ts old mid new n m e f g h =
      let p = parts steps_of old (inner ts) mid n e in
      let q = parts steps_of (mid ++ step.FirstEnd ∷ []) (inner (drop 1 (drop n ts))) new m g in
      range_closed ts p.value q.value n m false p.read f q.read h

  pub range_adds : (ts : List Token) (old mid new : List Step) (n m : ℕ) → added steps_of old (inner ts) ≡ Some (mid, n) → goes_to (drop n ts) ≡ true → added steps_of (mid ++ step.FirstEnd ∷ []) (inner (drop 1 (drop n ts))) ≡ Some (new, m) → closes_range (drop m (drop 1 (drop n ts))) ≡ true
      → added steps_of old (range_at inner ts) ≡ Some (new ++ step.Range ∷ [], n + 1 + m + 1)
  range_adds ts old mid new n m e f g h =
      let p = parts steps_of old (inner ts) mid n e in
      let q = parts steps_of (mid ++ step.FirstEnd ∷ []) (inner (drop 1 (drop n ts))) new m g in
      let len : n + ((1 + m) + 1) ≡ n + 1 + m + 1 = omega arith in
      let last = step.Range ∷ [] in
      let behind : List Step = step.FirstEnd ∷ (steps_of q.value ++ last) in
      let list : old ++ (steps_of p.value ++ behind) ≡ new ++ last =
      sym (append_assoc old (steps_of p.value) behind) ∙ ap (λ l. l ++ behind) p.list ∙ sym (append_assoc mid (step.FirstEnd ∷ []) (steps_of q.value ++ last))
      ∙ sym (append_assoc (mid ++ step.FirstEnd ∷ []) (steps_of q.value) last) ∙ ap (λ l. l ++ last) q.list in
      ap (added steps_of old) (range_closed ts p.value q.value n m true p.read f q.read h) ∙ ap (λ l. Some (l, n + ((1 + m) + 1))) list ∙ ap (λ k. Some (new ++ last, k)) len

  -- ---- Operands
  walk_steps : (e : Operand) (ls : List Link) → steps_of (walk e ls) ≡ steps_of e ++ codes_of link_steps ls
  walk_steps e [] = sym (append-nil (steps_of e))
  walk_steps e (named name ∷ ls) = walk_steps (member e name) ls ∙ append_assoc (steps_of e) (step.Member name ∷ []) (codes_of link_steps ls)
  walk_steps e (at x ∷ ls) = walk_steps (index e x) ls ∙ append_assoc (steps_of e) (steps_of x ++ step.Index ∷ []) (codes_of link_steps ls)

  pub starts : (ts : List Token) (s : _) → s ≡ start_of ts → operand_with inner ts ≡ operand_from inner s (drop 1 ts)
  starts ts s e = ap (λ x. operand_from inner x (drop 1 ts)) (sym e)

  pub literal_adds : (ts : List Token) (old : List Step) (l : Literal) → starts_literal l ≡ start_of ts → added steps_of old (operand_with inner ts) ≡ Some (old ++ step.Literal l ∷ [], 1)
  literal_adds ts old l e = ap (added steps_of old) (starts ts (starts_literal l) e)

  pub no_operand : (ts : List Token) → no_start ≡ start_of ts → operand_with inner ts ≡ None
  no_operand ts e = starts ts no_start e

  pub range_operand : (ts : List Token) (old new : List Step) (n : ℕ) → starts_range ≡ start_of ts → added steps_of old (range_at inner (drop 1 ts)) ≡ Some (new, n) → added steps_of old (operand_with inner ts) ≡ Some (new, n + 1)
  range_operand ts old new n e f =
      let p = parts steps_of old (range_at inner (drop 1 ts)) new n f in
      let len : 1 + n ≡ n + 1 = omega arith in
      ap (added steps_of old) (starts ts starts_range e ∙ ap (after 1) p.read) ∙ ap (λ l. Some (l, 1 + n)) p.list ∙ ap (λ k. Some (new, k)) len

  pub range_operand_none : (ts : List Token) → starts_range ≡ start_of ts → range_at inner (drop 1 ts) ≡ None → operand_with inner ts ≡ None
  range_operand_none ts e f = starts ts starts_range e ∙ ap (after 1) f

  pub variable_adds : (ts : List Token) (old new : List Step) (name : List ℕ) (n : ℕ) → starts_variable name ≡ start_of ts → added (codes_of link_steps) (old ++ step.Variable name ∷ []) (many (link inner) (drop 1 ts)) ≡ Some (new, n) → added steps_of old (operand_with inner ts) ≡ Some (new, n + 1)
  variable_adds ts old new name n e f =
      let p = parts (codes_of link_steps) (old ++ step.Variable name ∷ []) (many (link inner) (drop 1 ts)) new n f in
      let len : 1 + n ≡ n + 1 = omega arith in
      let list : old ++ steps_of (walk (variable name) p.value) ≡ new = ap (λ l. old ++ l) (walk_steps (variable name) p.value) ∙ sym (append_assoc old (step.Variable name ∷ []) (codes_of link_steps p.value)) ∙ p.list in
      ap (added steps_of old) (starts ts (starts_variable name) e ∙ ap (λ r. after 1 (r >>= λ links. Some (walk (variable name) links.0, links.1))) p.read) ∙ ap (λ l. Some (l, 1 + n)) list ∙ ap (λ k. Some (new, k)) len

  pub variable_none : (ts : List Token) (name : List ℕ) → starts_variable name ≡ start_of ts → many (link inner) (drop 1 ts) ≡ None → operand_with inner ts ≡ None
  variable_none ts name e f = starts ts (starts_variable name) e ∙ ap (λ r. after 1 (r >>= λ links. Some (walk (variable name) links.0, links.1))) f
