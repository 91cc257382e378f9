-- Blocks of lines by whole extents, for any rules of leaves and containers: a container takes its lines, and its inside is defined on what it has of them.
use Rattle.std.specs.Prelude.{Bool, List, None, Option, Some, [], false, suc, true, ℕ, ◌++◌, ◌+◌, ◌<◌, ◌∷◌, ◌≤◌}
use Rattle.site_base.specs.Recursion.{down}

-- what a line starts where no block is open: nothing, a leaf, or a container whose inside has the rest of the line
pub data Opening (Line Leaf Container : Type 0) : Type 0 where
  opens_nothing : Opening Line Leaf Container
  opens_leaf : (s : Leaf) → Opening Line Leaf Container
  opens_container : (k : Container) → (first : Line) → Opening Line Leaf Container

-- how a line enters an open container: by the container's own rule, by that rule where the inside has a block, as a lazy line where the inside leaves a paragraph open, or not at all
pub data Entry (Line : Type 0) : Type 0 where
  goes_in : (l : Line) → Entry Line
  goes_in_if_filled : (l : Line) → Entry Line
  goes_in_if_open : (l : Line) → Entry Line
  stays_out : Entry Line

-- blocks and blank lines, each with those that follow it
pub data BlocksOf (Line Leaf Container : Type 0) : Type 0 where
  no_blocks : BlocksOf Line Leaf Container
  blank_line : (l : Line) → (rest : BlocksOf Line Leaf Container) → BlocksOf Line Leaf Container
  leaf : (s : Leaf) → (rest : BlocksOf Line Leaf Container) → BlocksOf Line Leaf Container
  container : (k : Container) → (body rest : BlocksOf Line Leaf Container) → BlocksOf Line Leaf Container

-- the rules that a kind of text has: what a line starts, whether a leaf takes one more, how a line enters a container, and which leaves are open paragraphs
pub record Rules (Line Leaf Container : Type 0) : Type 0 where
  pub weight : Line → ℕ
  pub start : Line → Opening Line Leaf Container
  pub more : Leaf → Line → Option Leaf
  pub entry : Container → Line → Entry Line
  pub is_open : Leaf → Bool

-- some block is among them, blank lines aside
abbrev pub has_block : {Line Leaf Container : Type 0} → BlocksOf Line Leaf Container → Bool
has_block no_blocks = false
has_block (blank_line l rest) = has_block rest
has_block (leaf s rest) = true
has_block (container k body rest) = true

module _ {Line Leaf Container : Type 0} (r : Rules Line Leaf Container) where
  -- whether a paragraph is open at the end
  abbrev pub ends_in_paragraph : BlocksOf Line Leaf Container → Bool
  ends_in_paragraph no_blocks = false
  ends_in_paragraph (blank_line l rest) = ends_in_paragraph rest
  ends_in_paragraph (leaf s no_blocks) = r.is_open s
  ends_in_paragraph (leaf s rest) = ends_in_paragraph rest
  ends_in_paragraph (container k body no_blocks) = ends_in_paragraph body
  ends_in_paragraph (container k body rest) = ends_in_paragraph rest

  -- the line, where a test holds
  abbrev pub when : Bool → Line → Option Line
  when true l = Some l
  when false l = None

  -- the line as the inside has it, where it enters
  abbrev pub entered : {I : Type 0} → (I → BlocksOf Line Leaf Container) → I → Entry Line → Option Line
  entered f inside (goes_in l) = Some l
  entered f inside (goes_in_if_filled l) = when (has_block (f inside)) l
  entered f inside (goes_in_if_open l) = when (ends_in_paragraph (f inside)) l
  entered f inside stays_out = None

  -- ---- extents

  pub record Extent : Type 0 where
    pub inside : List Line
    pub rest : List Line

  -- an extent of these lines
  abbrev pub ext : List Line → List Line → Extent
  ext inside rest = record { inside = inside; rest = rest }

  -- the container whose inside has these lines so far
  abbrev pub extent : (List Line → BlocksOf Line Leaf Container) → Container → List Line → List Line → Extent
  extent f k inside [] = ext inside []
  extent f k inside (l ∷ ls) = elim (entered f inside (r.entry k l)) [ Some m ↦ extent f k (inside ++ m ∷ []) ls | None ↦ ext inside (l ∷ ls) ]

  -- the leaf, and the lines after it
  pub record Reach : Type 0 where
    pub state : Leaf
    pub rest : List Line

  -- how far a leaf goes: while it takes the next line
  abbrev pub reach : Leaf → List Line → Reach
  reach s [] = record { state = s; rest = [] }
  reach s (l ∷ ls) = elim (r.more s l) [ Some t ↦ reach t ls | None ↦ record { state = s; rest = l ∷ ls } ]

  -- a container with its inside, and the blocks after it
  abbrev pub contained : (List Line → BlocksOf Line Leaf Container) → Container → Extent → BlocksOf Line Leaf Container
  contained f k e = container k (f e.inside) (f e.rest)

  -- a leaf, and the blocks after it
  abbrev pub leafed : (List Line → BlocksOf Line Leaf Container) → Reach → BlocksOf Line Leaf Container
  leafed f e = leaf e.state (f e.rest)

  -- the block that starts with a line, and the blocks after it
  abbrev pub block_from : (List Line → BlocksOf Line Leaf Container) → Line → List Line → Opening Line Leaf Container → BlocksOf Line Leaf Container
  block_from f l ls opens_nothing = blank_line l (f ls)
  block_from f l ls (opens_leaf s) = leafed f (reach s ls)
  block_from f l ls (opens_container k m) = contained f k (extent f k (m ∷ []) ls)

  -- one block, then the others
  abbrev pub blocks_step : (List Line → BlocksOf Line Leaf Container) → List Line → BlocksOf Line Leaf Container
  blocks_step f [] = no_blocks
  blocks_step f (l ∷ ls) = block_from f l ls (r.start l)

  -- how much lines have, in which the recursion falls
  abbrev pub lines_weight : List Line → ℕ
  lines_weight [] = 0
  lines_weight (l ∷ ls) = suc (r.weight l) + lines_weight ls

  -- the blocks of lines
  unfoldable pub blocks_by : List Line → BlocksOf Line Leaf Container
  blocks_by ls = down lines_weight no_blocks blocks_step ls

  -- ---- one line after another, on the right spine

  -- the leaf with one more line, else the leaf and what the line starts
  abbrev pub leaf_more : Leaf → Line → Option Leaf → BlocksOf Line Leaf Container
  leaf_more s l (Some t) = leaf t no_blocks
  leaf_more s l None = leaf s (blocks_by (l ∷ []))

  -- blocks with one more line at the end
  abbrev pub add_line : BlocksOf Line Leaf Container → Line → BlocksOf Line Leaf Container
  add_line no_blocks l = blocks_by (l ∷ [])
  add_line (blank_line g rest) l = blank_line g (add_line rest l)
  add_line (leaf s no_blocks) l = leaf_more s l (r.more s l)
  add_line (leaf s rest) l = leaf s (add_line rest l)
  add_line (container k body no_blocks) l = elim (entered (λ b. b) body (r.entry k l)) [ Some m ↦ container k (add_line body m) no_blocks | None ↦ container k body (blocks_by (l ∷ [])) ]
  add_line (container k body rest) l = container k body (add_line rest l)

  -- ---- what is asked of the rules: a line gets no heavier inside, and lighter behind a mark

  -- a container's first line is lighter than the line that opens it
  abbrev pub OpensLight : ℕ → Opening Line Leaf Container → Type 0
  OpensLight n (opens_container k m) = r.weight m < n
  OpensLight n opens_nothing = Unit {0}
  OpensLight n (opens_leaf s) = Unit {0}

  -- a line is no heavier inside
  abbrev pub EntersLight : ℕ → Entry Line → Type 0
  EntersLight n (goes_in l) = r.weight l ≤ n
  EntersLight n (goes_in_if_filled l) = r.weight l ≤ n
  EntersLight n (goes_in_if_open l) = r.weight l ≤ n
  EntersLight n stays_out = Unit {0}

  pub record IsLight : Type 0 where
    pub starts : (l : Line) → OpensLight (r.weight l) (r.start l)
    pub enters : (k : Container) (l : Line) → EntersLight (r.weight l) (r.entry k l)
