-- The open end of blocks: the containers that are open, each with the blocks before it. It is all that a walk over the lines keeps.
use Rattle.std.specs.Prelude.{Bool, List, None, Option, Some, [], false, suc, zero, ℕ, ◌∷◌}
use Rattle.markdown_grammar.specs.Extents.{BlocksOf, Opening, Rules, blank_line, blocks_by, container, entered, leaf, no_blocks, opens_container, opens_leaf, opens_nothing}

module _ {Line Leaf Container : Type 0} (r : Rules Line Leaf Container) where
  -- blocks
  abbrev pub B : Type 0
  B = BlocksOf Line Leaf Container

  -- blocks, and blocks after them
  abbrev pub followed_by : B → B → B
  followed_by no_blocks ys = ys
  followed_by (blank_line l xs) ys = blank_line l (followed_by xs ys)
  followed_by (leaf s xs) ys = leaf s (followed_by xs ys)
  followed_by (container k body xs) ys = container k body (followed_by xs ys)

  -- no container is open, and maybe a leaf is; or one is open
  pub data OpenEnd : Type 0 where
    none_open : (before : B) → OpenEnd
    leaf_open : (before : B) → (s : Leaf) → OpenEnd
    container_open : (before : B) → (k : Container) → (inner : OpenEnd) → OpenEnd

  -- all blocks, those of the open containers too
  abbrev pub whole : OpenEnd → B
  whole (none_open before) = before
  whole (leaf_open before s) = followed_by before (leaf s no_blocks)
  whole (container_open before k inner) = followed_by before (container k (whole inner) no_blocks)

  -- a line that starts after blocks none of which takes it
  abbrev pub after : B → Line → B
  after before l = followed_by before (blocks_by r (l ∷ []))

  -- a line behind an open leaf
  abbrev pub leaf_step : B → Leaf → Line → Option Leaf → B
  leaf_step before s l (Some t) = followed_by before (leaf t no_blocks)
  leaf_step before s l None = after (followed_by before (leaf s no_blocks)) l

  -- a line, from the outermost container inwards: the first that it does not enter is closed with all in it
  abbrev pub walked : OpenEnd → Line → B
  walked (none_open before) l = after before l
  walked (leaf_open before s) l = leaf_step before s l (r.more s l)
  walked (container_open before k inner) l = elim (entered r (λ b. b) (whole inner) (r.entry k l)) [
    | Some m ↦ followed_by before (container k (walked inner m) no_blocks)
    | None ↦ after (followed_by before (container k (whole inner) no_blocks)) l
  ]

  -- the blocks of a level that holds no open leaf or container end with a blank line or are none
  abbrev pub EndsClosed : B → Type 0
  EndsClosed no_blocks = Unit {0}
  EndsClosed (blank_line l no_blocks) = Unit {0}
  EndsClosed (blank_line l rest) = EndsClosed rest
  EndsClosed (leaf s no_blocks) = ⊥
  EndsClosed (leaf s rest) = EndsClosed rest
  EndsClosed (container k body no_blocks) = ⊥
  EndsClosed (container k body rest) = EndsClosed rest

  -- an open end in which nothing is open that is not on it
  abbrev pub IsOpenEnd : OpenEnd → Type 0
  IsOpenEnd (none_open before) = EndsClosed before
  IsOpenEnd (leaf_open before s) = Unit {0}
  IsOpenEnd (container_open before k inner) = IsOpenEnd inner

  -- ---- the walk, open end to open end

  -- the open end that a line makes behind blocks that do not take it; n is above its weight
  abbrev pub begun : (B → Line → OpenEnd) → B → Line → Opening Line Leaf Container → OpenEnd
  begun inner before l opens_nothing = none_open (followed_by before (blank_line l no_blocks))
  begun inner before l (opens_leaf s) = leaf_open before s
  begun inner before l (opens_container k m) = container_open before k (inner no_blocks m)

  -- the same by n steps inwards, which is above the line's weight
  abbrev pub begin_by : ℕ → B → Line → OpenEnd
  begin_by zero before l = none_open before
  begin_by (suc n) before l = begun (begin_by n) before l (r.start l)

  -- the open end behind a line that nothing takes
  abbrev pub begin : B → Line → OpenEnd
  begin before l = begin_by (suc (r.weight l)) before l

  -- the open end behind a line, where a leaf is open
  abbrev pub leaf_on : B → Leaf → Line → Option Leaf → OpenEnd
  leaf_on before s l (Some t) = leaf_open before t
  leaf_on before s l None = begin (followed_by before (leaf s no_blocks)) l

  -- the open end behind one more line
  abbrev pub line_step : OpenEnd → Line → OpenEnd
  line_step (none_open before) l = begin before l
  line_step (leaf_open before s) l = leaf_on before s l (r.more s l)
  line_step (container_open before k inner) l = elim (entered r (λ b. b) (whole inner) (r.entry k l)) [
    | Some m ↦ container_open before k (line_step inner m)
    | None ↦ begin (followed_by before (container k (whole inner) no_blocks)) l
  ]

  -- the open end behind more lines
  abbrev pub line_steps : OpenEnd → List Line → OpenEnd
  line_steps s [] = s
  line_steps s (l ∷ ls) = line_steps (line_step s l) ls

  -- a paragraph is open at the open end
  abbrev pub is_paragraph_open : OpenEnd → Bool
  is_paragraph_open (none_open before) = false
  is_paragraph_open (leaf_open before s) = r.is_open s
  is_paragraph_open (container_open before k inner) = is_paragraph_open inner
