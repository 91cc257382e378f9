-- The recursion on whole extents is a walk that adds one line after another.
use Rattle.std.proofs.Common.{Bool, List, None, Option, Some, [], ap, arith, false, refl, subst, suc, sym, true, zero, ℕ, ◌++◌, ◌+◌, ◌<◌, ◌∙◌, ◌∷◌, ◌≡◌, ◌≤◌}
use Rattle.site_base.specs.Recursion.{Falls, down_is}
use Rattle.markdown_grammar.specs.Extents.{BlocksOf, EntersLight, Entry, Extent, IsLight, Opening, OpensLight, Reach, Rules, add_line, blank_line, block_from, blocks_by, blocks_step, contained, container, ends_in_paragraph, entered, ext, extent, goes_in, goes_in_if_filled, goes_in_if_open, has_block, leaf, leaf_more, leafed, lines_weight, no_blocks, opens_container, opens_leaf, opens_nothing, reach, stays_out, when}

module _ {Line Leaf Container : Type 0} (r : Rules Line Leaf Container) (light : IsLight r) where
  abbrev B : Type 0
  B = BlocksOf Line Leaf Container

  weight-append : (xs ys : List Line) → lines_weight r (xs ++ ys) ≡ lines_weight r xs + lines_weight r ys
  weight-append [] ys = omega arith
  weight-append (l ∷ xs) ys = omega (arith, weight-append xs ys)

  abbrev some_line : Line → Option Line
  some_line l = Some l

  when_light : (n : ℕ) (b : Bool) (l m : Line) → r.weight l ≤ n → when r b l ≡ Some m → r.weight m ≤ n
  when_light n true l m h e = let k : some_line l ≡ some_line m = e in let same : l ≡ m = cc in subst (λ x. r.weight x ≤ n) same h
  when_light n false l m h e = absurd cc

  -- what enters is no heavier
  enter_light : {I : Type 0} (f : I → B) (i : I) (n : ℕ) (e : Entry Line) (m : Line) → EntersLight r n e → entered r f i e ≡ Some m → r.weight m ≤ n
  enter_light f i n (goes_in l) m h e = when_light n true l m h e
  enter_light f i n (goes_in_if_filled l) m h e = when_light n (has_block (f i)) l m h e
  enter_light f i n (goes_in_if_open l) m h e = when_light n (ends_in_paragraph r (f i)) l m h e
  enter_light f i n stays_out m h e = absurd cc

  abbrev leaf_go : Leaf → Line → List Line → Option Leaf → Reach r
  leaf_go s l ls o = elim o [ Some t ↦ reach r t ls | None ↦ record { state = s; rest = l ∷ ls } ]

  reach_weight : (s : Leaf) (ls : List Line) → lines_weight r (reach r s ls).rest ≤ lines_weight r ls
  reach_weight s [] = omega arith
  reach_weight s (l ∷ ls) = go (r.more s l) (λ t. reach_weight t ls) where
    go : (o : Option Leaf) → ((t : Leaf) → lines_weight r (reach r t ls).rest ≤ lines_weight r ls) → lines_weight r (leaf_go s l ls o).rest ≤ lines_weight r (l ∷ ls)
    go (Some t) h = omega (arith, h t)
    go None h = omega arith

  abbrev total : Extent r → ℕ
  total e = lines_weight r e.inside + lines_weight r e.rest

  abbrev go_on : (List Line → B) → Container → List Line → Line → List Line → Option Line → Extent r
  go_on f k inside l ls o = elim o [ Some m ↦ extent r f k (inside ++ m ∷ []) ls | None ↦ ext r inside (l ∷ ls) ]

  extent_weight : (f : List Line → B) (k : Container) (inside ls : List Line) → total (extent r f k inside ls) ≤ lines_weight r inside + lines_weight r ls
  extent_weight f k inside [] = omega arith
  extent_weight f k inside (l ∷ ls) = go (entered r f inside (r.entry k l)) refl (λ m. extent_weight f k (inside ++ m ∷ []) ls) where
    go : (o : Option Line) → entered r f inside (r.entry k l) ≡ o → ((m : Line) → total (extent r f k (inside ++ m ∷ []) ls) ≤ lines_weight r (inside ++ m ∷ []) + lines_weight r ls) → total (go_on f k inside l ls o) ≤ lines_weight r inside + lines_weight r (l ∷ ls)
    go (Some m) e h = omega (arith, h m, weight-append inside (m ∷ []), enter_light f inside (r.weight l) (r.entry k l) m (light.enters k l) e)
    go None e h = omega arith

  module _ (f g : List Line → B) (n : ℕ) (h : (t : List Line) → lines_weight r t < n → f t ≡ g t) where
    entered_same : (inside : List Line) (e : Entry Line) → lines_weight r inside < n → entered r f inside e ≡ entered r g inside e
    entered_same inside (goes_in l) lt = refl
    entered_same inside (goes_in_if_filled l) lt = ap (λ b. when r (has_block b) l) (h inside lt)
    entered_same inside (goes_in_if_open l) lt = ap (λ b. when r (ends_in_paragraph r b) l) (h inside lt)
    entered_same inside stays_out lt = refl

    extent_same : (k : Container) (inside ls : List Line) → lines_weight r inside + lines_weight r ls < n → extent r f k inside ls ≡ extent r g k inside ls
    extent_same k inside [] lt = refl
    extent_same k inside (l ∷ ls) lt = ap (go_on f k inside l ls) (entered_same inside (r.entry k l) (omega (arith, lt))) ∙ go (entered r g inside (r.entry k l)) refl (λ m. extent_same k (inside ++ m ∷ []) ls) where
      go : (o : Option Line) → entered r g inside (r.entry k l) ≡ o → ((m : Line) → lines_weight r (inside ++ m ∷ []) + lines_weight r ls < n → extent r f k (inside ++ m ∷ []) ls ≡ extent r g k (inside ++ m ∷ []) ls) → go_on f k inside l ls o ≡ go_on g k inside l ls o
      go (Some m) e q = q m (omega (arith, lt, weight-append inside (m ∷ []), enter_light g inside (r.weight l) (r.entry k l) m (light.enters k l) e))
      go None e q = refl

    contained_same : (k : Container) (e : Extent r) → total e < n → contained r f k e ≡ contained r g k e
    contained_same k e lt = ap (λ b. container k b (f e.rest)) (h e.inside (omega (arith, lt))) ∙ ap (λ b. container k (g e.inside) b) (h e.rest (omega (arith, lt)))

  from_same : (f g : List Line → B) (l : Line) (ls : List Line) (s : Opening Line Leaf Container) → OpensLight r (r.weight l) s → ((t : List Line) → lines_weight r t < lines_weight r (l ∷ ls) → f t ≡ g t) → block_from r f l ls s ≡ block_from r g l ls s
  from_same f g l ls opens_nothing w h = ap (blank_line l) (h ls (omega arith))
  from_same f g l ls (opens_leaf s) w h = ap (leaf (reach r s ls).state) (h (reach r s ls).rest (omega (arith, reach_weight s ls)))
  from_same f g l ls (opens_container k m) w h =
      ap (contained r f k) (extent_same f g (lines_weight r (l ∷ ls)) h k (m ∷ []) ls (omega (arith, w))) ∙ contained_same f g (lines_weight r (l ∷ ls)) h k (extent r g k (m ∷ []) ls) (omega (arith, w, extent_weight g k (m ∷ []) ls))

  falls : Falls (lines_weight r) no_blocks (blocks_step r)
  falls f g [] h = refl
  falls f g (l ∷ ls) h = from_same f g l ls (r.start l) (light.starts l) h

  pub blocks_is : (ls : List Line) → blocks_by r ls ≡ blocks_step r (blocks_by r) ls
  unfolding blocks_by
  blocks_is ls = down_is (lines_weight r) no_blocks (blocks_step r) falls ls

  -- ---- more lines at the end

  abbrev cont : (List Line → B) → Container → List Line → List Line → List Line → Extent r
  cont f k inside [] ys = extent r f k inside ys
  cont f k inside (x ∷ xs) ys = ext r inside (x ∷ (xs ++ ys))

  abbrev onto : (List Line → B) → Container → List Line → Extent r → Extent r
  onto f k ys e = cont f k e.inside e.rest ys

  extent-append : (f : List Line → B) (k : Container) (inside ls ys : List Line) → extent r f k inside (ls ++ ys) ≡ onto f k ys (extent r f k inside ls)
  extent-append f k inside [] ys = refl
  extent-append f k inside (l ∷ ls) ys = go (entered r f inside (r.entry k l)) (λ m. extent-append f k (inside ++ m ∷ []) ls ys) where
    go : (o : Option Line) → ((m : Line) → extent r f k (inside ++ m ∷ []) (ls ++ ys) ≡ onto f k ys (extent r f k (inside ++ m ∷ []) ls)) → go_on f k inside l (ls ++ ys) o ≡ onto f k ys (go_on f k inside l ls o)
    go (Some m) h = h m
    go None h = refl

  abbrev leaf_cont : Leaf → List Line → List Line → Reach r
  leaf_cont s [] ys = reach r s ys
  leaf_cont s (x ∷ xs) ys = record { state = s; rest = x ∷ (xs ++ ys) }

  abbrev leaf_onto : List Line → Reach r → Reach r
  leaf_onto ys e = leaf_cont e.state e.rest ys

  reach-append : (s : Leaf) (ls ys : List Line) → reach r s (ls ++ ys) ≡ leaf_onto ys (reach r s ls)
  reach-append s [] ys = refl
  reach-append s (l ∷ ls) ys = go (r.more s l) (λ t. reach-append t ls ys) where
    go : (o : Option Leaf) → ((t : Leaf) → reach r t (ls ++ ys) ≡ leaf_onto ys (reach r t ls)) → leaf_go s l (ls ++ ys) o ≡ leaf_onto ys (leaf_go s l ls o)
    go (Some t) h = h t
    go None h = refl

  -- ---- one line

  blocks_of_none : blocks_by r [] ≡ no_blocks
  blocks_of_none = blocks_is []

  abbrev IsOne : B → Type 0
  IsOne no_blocks = ⊥
  IsOne (blank_line l rest) = Unit {0}
  IsOne (leaf s rest) = Unit {0}
  IsOne (container k body rest) = Unit {0}

  from_one : (l : Line) (ls : List Line) (s : Opening Line Leaf Container) → IsOne (block_from r (blocks_by r) l ls s)
  from_one l ls opens_nothing = tt
  from_one l ls (opens_leaf s) = tt
  from_one l ls (opens_container k m) = tt

  one : (x : Line) (xs : List Line) → IsOne (blocks_by r (x ∷ xs))
  one x xs = subst IsOne (sym (blocks_is (x ∷ xs))) (from_one x xs (r.start x))

  add_leaf : (s : Leaf) (rest : B) (l : Line) → IsOne rest → add_line r (leaf s rest) l ≡ leaf s (add_line r rest l)
  add_leaf s no_blocks l h = absurd h
  add_leaf s (blank_line g rest) l h = refl
  add_leaf s (leaf t rest) l h = refl
  add_leaf s (container k body rest) l h = refl

  add_container : (k : Container) (body rest : B) (l : Line) → IsOne rest → add_line r (container k body rest) l ≡ container k body (add_line r rest l)
  add_container k body no_blocks l h = absurd h
  add_container k body (blank_line g rest) l h = refl
  add_container k body (leaf t rest) l h = refl
  add_container k body (container j b rest) l h = refl

  abbrev Holds : List Line → Type 0
  Holds ls = (l : Line) → blocks_by r (ls ++ l ∷ []) ≡ add_line r (blocks_by r ls) l

  leaf_end : (s : Leaf) (l : Line) → leafed r (blocks_by r) (reach r s (l ∷ [])) ≡ add_line r (leaf s no_blocks) l
  leaf_end s l = go (r.more s l) where
    go : (o : Option Leaf) → leafed r (blocks_by r) (leaf_go s l [] o) ≡ leaf_more r s l o
    go (Some t) = ap (leaf t) blocks_of_none
    go None = refl

  leaf_one : (s : Leaf) (rest : List Line) (l : Line) → Holds rest → leafed r (blocks_by r) (leaf_cont s rest (l ∷ [])) ≡ add_line r (leaf s (blocks_by r rest)) l
  leaf_one s [] l h = leaf_end s l ∙ ap (λ b. add_line r (leaf s b) l) (sym blocks_of_none)
  leaf_one s (x ∷ xs) l h = ap (leaf s) (h l) ∙ sym (add_leaf s (blocks_by r (x ∷ xs)) l (one x xs))

  entered_in : (inside : List Line) (e : Entry Line) → entered r (blocks_by r) inside e ≡ entered r (λ b. b) (blocks_by r inside) e
  entered_in inside (goes_in l) = refl
  entered_in inside (goes_in_if_filled l) = refl
  entered_in inside (goes_in_if_open l) = refl
  entered_in inside stays_out = refl

  container_end : (k : Container) (inside : List Line) (l : Line) → Holds inside → contained r (blocks_by r) k (extent r (blocks_by r) k inside (l ∷ [])) ≡ add_line r (container k (blocks_by r inside) no_blocks) l
  container_end k inside l h = ap (λ o. contained r (blocks_by r) k (go_on (blocks_by r) k inside l [] o)) (entered_in inside (r.entry k l)) ∙ go (entered r (λ b. b) (blocks_by r inside) (r.entry k l)) where
    go : (o : Option Line) → contained r (blocks_by r) k (go_on (blocks_by r) k inside l [] o) ≡ elim o [ Some m ↦ container k (add_line r (blocks_by r inside) m) no_blocks | None ↦ container k (blocks_by r inside) (blocks_by r (l ∷ [])) ]
    go (Some m) = rw (h m, blocks_of_none) refl
    go None = refl

  container_one : (k : Container) (inside rest : List Line) (l : Line) → Holds inside → Holds rest → contained r (blocks_by r) k (cont (blocks_by r) k inside rest (l ∷ [])) ≡ add_line r (container k (blocks_by r inside) (blocks_by r rest)) l
  container_one k inside [] l h q = container_end k inside l h ∙ ap (λ b. add_line r (container k (blocks_by r inside) b) l) (sym blocks_of_none)
  container_one k inside (x ∷ xs) l h q = ap (container k (blocks_by r inside)) (q l) ∙ sym (add_container k (blocks_by r inside) (blocks_by r (x ∷ xs)) l (one x xs))

  from_more : (n : ℕ) (x : Line) (ls : List Line) (s : Opening Line Leaf Container) (l : Line) → OpensLight r (r.weight x) s → lines_weight r (x ∷ ls) < suc n → ((t : List Line) → lines_weight r t < n → Holds t) → block_from r (blocks_by r) x (ls ++ l ∷ []) s ≡ add_line r (block_from r (blocks_by r) x ls s) l
  from_more n x ls opens_nothing l w lt h = ap (blank_line x) (h ls (omega (arith, lt)) l)
  from_more n x ls (opens_leaf s) l w lt h =
      let e = reach r s ls in
      ap (leafed r (blocks_by r)) (reach-append s ls (l ∷ [])) ∙ leaf_one e.state e.rest l (h e.rest (omega (arith, lt, reach_weight s ls)))
  from_more n x ls (opens_container k m) l w lt h =
      let e = extent r (blocks_by r) k (m ∷ []) ls in
      let v = extent_weight (blocks_by r) k (m ∷ []) ls in
      ap (contained r (blocks_by r) k) (extent-append (blocks_by r) k (m ∷ []) ls (l ∷ [])) ∙ container_one k e.inside e.rest l (h e.inside (omega (arith, v, w, lt))) (h e.rest (omega (arith, v, w, lt)))

  below : (n : ℕ) (ls : List Line) → lines_weight r ls < n → Holds ls
  below zero ls lt l = absurd (omega arith)
  below (suc n) [] lt l = ap (λ b. add_line r b l) (sym blocks_of_none)
  below (suc n) (x ∷ ls) lt l =
      blocks_is (x ∷ (ls ++ l ∷ [])) ∙ from_more n x ls (r.start x) l (light.starts x) lt (λ t v. below n t v) ∙ ap (λ b. add_line r b l) (sym (blocks_is (x ∷ ls)))

  -- one line more
  pub one_more : (ls : List Line) (l : Line) → blocks_by r (ls ++ l ∷ []) ≡ add_line r (blocks_by r ls) l
  one_more ls l = below (suc (lines_weight r ls)) ls (omega arith) l
