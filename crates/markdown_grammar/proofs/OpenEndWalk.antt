-- A walk on the open end is a walk on the blocks.
use Rattle.std.proofs.Common.{List, None, Option, Some, [], ap, append_assoc, arith, refl, suc, sym, zero, ℕ, ◌++◌, ◌<◌, ◌∙◌, ◌∷◌, ◌≡◌}
use Rattle.std.proofs.lemmas.List.{append-nil}
use Rattle.markdown_grammar.proofs.Extending.{blocks_is, one_more}
use Rattle.markdown_grammar.specs.Extents.{BlocksOf, IsLight, Opening, OpensLight, Rules, add_line, blank_line, block_from, blocks_by, container, entered, leaf, leaf_more, no_blocks, opens_container, opens_leaf, opens_nothing}
use Rattle.markdown_grammar.specs.OpenEnds.{EndsClosed, IsOpenEnd, OpenEnd, after, begin, begin_by, begun, container_open, followed_by, leaf_on, leaf_open, leaf_step, line_step, line_steps, none_open, walked, whole}

module _ {Line Leaf Container : Type 0} (r : Rules Line Leaf Container) where
  abbrev Bl : Type 0
  Bl = BlocksOf Line Leaf Container

  abbrev IsOne : Bl → Type 0
  IsOne no_blocks = ⊥
  IsOne (blank_line l rest) = Unit {0}
  IsOne (leaf s rest) = Unit {0}
  IsOne (container k body rest) = Unit {0}

  add_leaf : (s : Leaf) (rest : Bl) (l : Line) → IsOne rest → add_line r (leaf s rest) l ≡ leaf s (add_line r rest l)
  add_leaf s no_blocks l h = absurd h
  add_leaf s (blank_line g rest) l h = refl
  add_leaf s (leaf t rest) l h = refl
  add_leaf s (container k body rest) l h = refl

  add_container : (k : Container) (body rest : Bl) (l : Line) → IsOne rest → add_line r (container k body rest) l ≡ container k body (add_line r rest l)
  add_container k body no_blocks l h = absurd h
  add_container k body (blank_line g rest) l h = refl
  add_container k body (leaf t rest) l h = refl
  add_container k body (container j b rest) l h = refl

  joined_one : (xs ys : Bl) → IsOne ys → IsOne (followed_by r xs ys)
  joined_one no_blocks ys h = h
  joined_one (blank_line l xs) ys h = tt
  joined_one (leaf s xs) ys h = tt
  joined_one (container k body xs) ys h = tt

  add_joined : (xs ys : Bl) (l : Line) → IsOne ys → add_line r (followed_by r xs ys) l ≡ followed_by r xs (add_line r ys l)
  add_joined no_blocks ys l h = refl
  add_joined (blank_line g xs) ys l h = ap (blank_line g) (add_joined xs ys l h)
  add_joined (leaf s xs) ys l h = add_leaf s (followed_by r xs ys) l (joined_one xs ys h) ∙ ap (leaf s) (add_joined xs ys l h)
  add_joined (container k body xs) ys l h = add_container k body (followed_by r xs ys) l (joined_one xs ys h) ∙ ap (container k body) (add_joined xs ys l h)

  joined_assoc : (xs ys zs : Bl) → followed_by r (followed_by r xs ys) zs ≡ followed_by r xs (followed_by r ys zs)
  joined_assoc no_blocks ys zs = refl
  joined_assoc (blank_line l xs) ys zs = ap (blank_line l) (joined_assoc xs ys zs)
  joined_assoc (leaf s xs) ys zs = ap (leaf s) (joined_assoc xs ys zs)
  joined_assoc (container k body xs) ys zs = ap (container k body) (joined_assoc xs ys zs)

  closed_walk : (b : Bl) (l : Line) → EndsClosed r b → after r b l ≡ add_line r b l
  closed_walk no_blocks l h = refl
  closed_walk (blank_line g no_blocks) l h = refl
  closed_walk (blank_line g (blank_line x rest)) l h = ap (blank_line g) (closed_walk (blank_line x rest) l h)
  closed_walk (blank_line g (leaf s rest)) l h = ap (blank_line g) (closed_walk (leaf s rest) l h)
  closed_walk (blank_line g (container k body rest)) l h = ap (blank_line g) (closed_walk (container k body rest) l h)
  closed_walk (leaf s no_blocks) l h = absurd h
  closed_walk (leaf s (blank_line x rest)) l h = ap (leaf s) (closed_walk (blank_line x rest) l h)
  closed_walk (leaf s (leaf t rest)) l h = ap (leaf s) (closed_walk (leaf t rest) l h)
  closed_walk (leaf s (container k body rest)) l h = ap (leaf s) (closed_walk (container k body rest) l h)
  closed_walk (container k body no_blocks) l h = absurd h
  closed_walk (container k body (blank_line x rest)) l h = ap (container k body) (closed_walk (blank_line x rest) l h)
  closed_walk (container k body (leaf t rest)) l h = ap (container k body) (closed_walk (leaf t rest) l h)
  closed_walk (container k body (container j b rest)) l h = ap (container k body) (closed_walk (container j b rest) l h)

  leaf_walk : (before : Bl) (s : Leaf) (l : Line) (o : Option Leaf) → leaf_step r before s l o ≡ followed_by r before (leaf_more r s l o)
  leaf_walk before s l (Some t) = refl
  leaf_walk before s l None = joined_assoc before (leaf s no_blocks) (blocks_by r (l ∷ []))

  container_walk : (before : Bl) (k : Container) (inner : OpenEnd r) (l : Line) (o : Option Line) → ((m : Line) → walked r inner m ≡ add_line r (whole r inner) m)
      → elim o as (λ x. Bl) [ Some m ↦ followed_by r before (container k (walked r inner m) no_blocks) | None ↦ after r (followed_by r before (container k (whole r inner) no_blocks)) l ]
      ≡ followed_by r before (elim o as (λ x. Bl) [ Some m ↦ container k (add_line r (whole r inner) m) no_blocks | None ↦ container k (whole r inner) (blocks_by r (l ∷ [])) ])
  container_walk before k inner l (Some m) h = ap (λ (b : Bl). followed_by r before (container k b no_blocks)) (h m)
  container_walk before k inner l None h = joined_assoc before (container k (whole r inner) no_blocks) (blocks_by r (l ∷ []))

  pub walked_is : (s : OpenEnd r) (l : Line) → IsOpenEnd r s → walked r s l ≡ add_line r (whole r s) l
  walked_is (none_open before) l h = closed_walk before l h
  walked_is (leaf_open before s) l h = leaf_walk before s l (r.more s l) ∙ sym (add_joined before (leaf s no_blocks) l tt)
  walked_is (container_open before k inner) l h =
      container_walk before k inner l (entered r (λ b. b) (whole r inner) (r.entry k l)) (λ m. walked_is inner m h) ∙ sym (add_joined before (container k (whole r inner) no_blocks) l tt)

  -- ---- the walk, open end to open end

  module _ (light : IsLight r) where
    begin_blocks : (n : ℕ) (before : Bl) (l : Line) → r.weight l < n → whole r (begin_by r n before l) ≡ after r before l
    begin_blocks zero before l lt = absurd (omega arith)
    begin_blocks (suc n) before l lt = go (r.start l) (light.starts l) (λ m v. begin_blocks n no_blocks m v) ∙ ap (followed_by r before) (sym (blocks_is r light (l ∷ []))) where
      go : (o : Opening Line Leaf Container) → OpensLight r (r.weight l) o → ((m : Line) → r.weight m < n → whole r (begin_by r n no_blocks m) ≡ blocks_by r (m ∷ [])) → whole r (begun r (begin_by r n) before l o) ≡ followed_by r before (block_from r (blocks_by r) l [] o)
      go opens_nothing h q = ap (λ (b : Bl). followed_by r before (blank_line l b)) (sym (blocks_is r light []))
      go (opens_leaf s) h q = ap (λ (b : Bl). followed_by r before (leaf s b)) (sym (blocks_is r light []))
      go (opens_container k m) h q =
          ap (λ (b : Bl). followed_by r before (container k b no_blocks)) (q m (omega (arith, h, lt))) ∙ ap (λ (b : Bl). followed_by r before (container k (blocks_by r (m ∷ [])) b)) (sym (blocks_is r light []))

    gap_closed : (before : Bl) (l : Line) → EndsClosed r (followed_by r before (blank_line l no_blocks))
    gap_closed no_blocks l = tt
    gap_closed (blank_line g no_blocks) l = tt
    gap_closed (blank_line g (blank_line x rest)) l = gap_closed (blank_line x rest) l
    gap_closed (blank_line g (leaf s rest)) l = gap_closed (leaf s rest) l
    gap_closed (blank_line g (container k body rest)) l = gap_closed (container k body rest) l
    gap_closed (leaf s no_blocks) l = tt
    gap_closed (leaf s (blank_line x rest)) l = gap_closed (blank_line x rest) l
    gap_closed (leaf s (leaf t rest)) l = gap_closed (leaf t rest) l
    gap_closed (leaf s (container k body rest)) l = gap_closed (container k body rest) l
    gap_closed (container k body no_blocks) l = tt
    gap_closed (container k body (blank_line x rest)) l = gap_closed (blank_line x rest) l
    gap_closed (container k body (leaf t rest)) l = gap_closed (leaf t rest) l
    gap_closed (container k body (container j b rest)) l = gap_closed (container j b rest) l

    begin_spine : (n : ℕ) (before : Bl) (l : Line) → r.weight l < n → IsOpenEnd r (begin_by r n before l)
    begin_spine zero before l lt = absurd (omega arith)
    begin_spine (suc n) before l lt = go (r.start l) (light.starts l) (λ m v. begin_spine n no_blocks m v) where
      go : (o : Opening Line Leaf Container) → OpensLight r (r.weight l) o → ((m : Line) → r.weight m < n → IsOpenEnd r (begin_by r n no_blocks m)) → IsOpenEnd r (begun r (begin_by r n) before l o)
      go opens_nothing h q = gap_closed before l
      go (opens_leaf s) h q = tt
      go (opens_container k m) h q = q m (omega (arith, h, lt))

    step_walked : (s : OpenEnd r) (l : Line) → whole r (line_step r s l) ≡ walked r s l
    step_walked (none_open before) l = begin_blocks (suc (r.weight l)) before l (omega arith)
    step_walked (leaf_open before s) l = go (r.more s l) where
      go : (o : Option Leaf) → whole r (leaf_on r before s l o) ≡ leaf_step r before s l o
      go (Some t) = refl
      go None = begin_blocks (suc (r.weight l)) (followed_by r before (leaf s no_blocks)) l (omega arith)
    step_walked (container_open before k inner) l = go (entered r (λ b. b) (whole r inner) (r.entry k l)) (λ m. step_walked inner m) where
      go : (o : Option Line) → ((m : Line) → whole r (line_step r inner m) ≡ walked r inner m)
          → whole r (elim o as (λ x. OpenEnd r) [ Some m ↦ container_open before k (line_step r inner m) | None ↦ begin r (followed_by r before (container k (whole r inner) no_blocks)) l ])
          ≡ elim o as (λ x. Bl) [ Some m ↦ followed_by r before (container k (walked r inner m) no_blocks) | None ↦ after r (followed_by r before (container k (whole r inner) no_blocks)) l ]
      go (Some m) h = ap (λ (b : Bl). followed_by r before (container k b no_blocks)) (h m)
      go None h = begin_blocks (suc (r.weight l)) (followed_by r before (container k (whole r inner) no_blocks)) l (omega arith)

    pub step_spine : (s : OpenEnd r) (l : Line) → IsOpenEnd r s → IsOpenEnd r (line_step r s l)
    step_spine (none_open before) l h = begin_spine (suc (r.weight l)) before l (omega arith)
    step_spine (leaf_open before s) l h = go (r.more s l) where
      go : (o : Option Leaf) → IsOpenEnd r (leaf_on r before s l o)
      go (Some t) = tt
      go None = begin_spine (suc (r.weight l)) (followed_by r before (leaf s no_blocks)) l (omega arith)
    step_spine (container_open before k inner) l h = go (entered r (λ b. b) (whole r inner) (r.entry k l)) (λ m. step_spine inner m h) where
      go : (o : Option Line) → ((m : Line) → IsOpenEnd r (line_step r inner m)) → IsOpenEnd r (elim o as (λ x. OpenEnd r) [ Some m ↦ container_open before k (line_step r inner m) | None ↦ begin r (followed_by r before (container k (whole r inner) no_blocks)) l ])
      go (Some m) q = q m
      go None q = begin_spine (suc (r.weight l)) (followed_by r before (container k (whole r inner) no_blocks)) l (omega arith)

    steps_from : (s : OpenEnd r) (done ls : List Line) → IsOpenEnd r s → whole r s ≡ blocks_by r done → whole r (line_steps r s ls) ≡ blocks_by r (done ++ ls)
    steps_from s done [] h e = e ∙ ap (blocks_by r) (sym (append-nil done))
    steps_from s done (l ∷ ls) h e =
        steps_from (line_step r s l) (done ++ l ∷ []) ls (step_spine s l h) (step_walked s l ∙ walked_is s l h ∙ ap (λ b. add_line r b l) e ∙ sym (one_more r light done l))
        ∙ ap (blocks_by r) (append_assoc done (l ∷ []) ls)

    -- one walk over the lines gives the blocks by whole extents
    pub walk_is : (ls : List Line) → whole r (line_steps r (none_open no_blocks) ls) ≡ blocks_by r ls
    walk_is ls = steps_from (none_open no_blocks) [] ls tt (sym (blocks_is r light []))
