-- A walk that keeps tokens shows the open end.
use Rattle.std.proofs.Common.{Bool, List, None, Option, Some, [], ap, append_assoc, arith, drop, false, length, nat_lt, not, option_map, refl, suc, sym, take, true, zero, ℕ, ◌++◌, ◌==◌, ◌||◌, ◌∙◌, ◌∷◌, ◌≡◌}
use Rattle.std.proofs.lemmas.List.{append-nil}
use Rattle.markdown_grammar.specs.Blocks.{Blocks, line_weight, opening, rules}
use Rattle.markdown_grammar.specs.Columns.{Line}
use Rattle.markdown_grammar.specs.Containers as grammar
use Rattle.markdown_grammar.specs.Extents.{Entry, Opening, blank_line, container, ends_in_paragraph, entered, goes_in, goes_in_if_filled, goes_in_if_open, has_block, leaf, no_blocks, opens_container, opens_leaf, opens_nothing, stays_out, when}
use Rattle.markdown_grammar.specs.Fronts.{is_empty}
use Rattle.markdown_grammar.specs.Leaves as leaves
use Rattle.markdown_grammar.specs.Matching.{Matched, one_more_kept}
use Rattle.markdown_grammar.specs.OpenEnds as ends
use Rattle.markdown_grammar.specs.OpenEnds.{IsOpenEnd, OpenEnd, container_open, followed_by, is_paragraph_open, leaf_open, line_step, line_steps, none_open, whole}
use Rattle.markdown_grammar.proofs.LazyLaws.{open_end}
use Rattle.markdown_grammar.proofs.LightRules.{light}
use Rattle.markdown_grammar.proofs.OpenEndWalk.{step_spine}
use Rattle.cm_containers.specs.declared.kinds.Container.{Container}
use Rattle.cm_blocks.specs.declared.kinds.Leaf.{Leaf}
use Rattle.cm_blocks.specs.declared.kinds.Token.{Token}
use Rattle.cm_blocks.specs.declared.kinds.Token.TheVariants.{Blank, Closes, Holds, Opens}
use Rattle.cm_containers.specs.Entries.{line_when}
use Rattle.cm_blocks.specs.Flat.{Flat, begin, begin_by, begun, closed_to, closes, enters, finished, flat_start, leaf_closed, leaf_more, leaf_on, leaf_tokens, opened, reached, step, step_on, stepped, steps}
use Rattle.cm_blocks.specs.Leaves.{is_prose, leaf_of}
use Rattle.cm_blocks.specs.OpenWalk.{end_filled, end_leaf, end_stack, end_tokens, flat_of}
use Rattle.cm_containers.specs.Answers.{as_container}
use Rattle.cm_blocks.specs.Tokens.{container_of, tokens}
use Rattle.cm_blocks.proofs.LeafSteps.{more_is}

-- a walk inside a container, behind tokens
abbrev wrap : List Token → Container → Flat → Flat
wrap P k f = record { tokens = P ++ Opens k ∷ f.tokens; stack = k ∷ f.stack; leaf = f.leaf; filled = f.filled }

abbrev base : Blocks → Flat
base b = record { tokens = tokens b; stack = []; leaf = None; filled = has_block b }

-- the same but for the tokens
retold : (a b : List Token) (s : List Container) (o : Option Leaf) (x : Bool) → a ≡ b → (let f : Flat = record { tokens = a; stack = s; leaf = o; filled = x } in let g : Flat = record { tokens = b; stack = s; leaf = o; filled = x } in f ≡ g)
retold a b s o x e = ap (λ (t : List Token). (let f : Flat = record { tokens = t; stack = s; leaf = o; filled = x } in f)) e

-- ---- what a line starts, inside a container

wrap_begin : (n : ℕ) (P : List Token) (k : Container) (f : Flat) (l : Line) → begin_by n (wrap P k f) l ≡ wrap P k (begin_by n f l)
wrap_begin zero P k f l = refl
wrap_begin (suc n) P k f l = go (opening l) (λ g m. wrap_begin n P k g m) where
  go : (o : Opening Line leaves.Leaf grammar.Container) → ((g : Flat) (m : Line) → begin_by n (wrap P k g) m ≡ wrap P k (begin_by n g m)) → begun (begin_by n) (wrap P k f) o ≡ wrap P k (begun (begin_by n) f o)
  go opens_nothing q = retold ((P ++ Opens k ∷ f.tokens) ++ Blank ∷ []) (P ++ Opens k ∷ (f.tokens ++ Blank ∷ [])) (k ∷ f.stack) f.leaf f.filled (append_assoc P (Opens k ∷ f.tokens) (Blank ∷ []))
  go (opens_leaf s) q = refl
  go (opens_container j m) q =
      ap (λ (g : Flat). begin_by n g m) (retold ((P ++ Opens k ∷ f.tokens) ++ Opens (container_of j) ∷ []) (P ++ Opens k ∷ (f.tokens ++ Opens (container_of j) ∷ [])) (k ∷ (f.stack ++ container_of j ∷ [])) f.leaf false (append_assoc P (Opens k ∷ f.tokens) (Opens (container_of j) ∷ [])))
      ∙ q (opened (container_of j) f) m

-- ---- blocks, and what follows them

tokens-joined : (xs ys : Blocks) → tokens (followed_by rules xs ys) ≡ tokens xs ++ tokens ys
tokens-joined no_blocks ys = refl
tokens-joined (blank_line l xs) ys = ap (λ (t : List Token). Blank ∷ t) (tokens-joined xs ys)
tokens-joined (leaf s xs) ys = ap (λ (t : List Token). Holds (leaf_of s) ∷ t) (tokens-joined xs ys)
tokens-joined (container k body xs) ys =
    ap (λ (t : List Token). Opens (container_of k) ∷ (tokens body ++ Closes (container_of k) ∷ t)) (tokens-joined xs ys) ∙ ap (λ (t : List Token). Opens (container_of k) ∷ t) (sym (append_assoc (tokens body) (Closes (container_of k) ∷ tokens xs) (tokens ys)))

block-joined : (xs ys : Blocks) → has_block (followed_by rules xs ys) ≡ has_block xs || has_block ys
block-joined no_blocks ys = refl
block-joined (blank_line l xs) ys = block-joined xs ys
block-joined (leaf s xs) ys = refl
block-joined (container k body xs) ys = refl

or_true : (b : Bool) → (b || true) ≡ true
or_true true = refl
or_true false = refl

or_false : (b : Bool) → (b || false) ≡ b
or_false true = refl
or_false false = refl

-- ---- where nothing is open

base_begin : (n : ℕ) (before : Blocks) (l : Line) → begin_by n (base before) l ≡ flat_of (ends.begin_by rules n before l)
base_begin zero before l = refl
base_begin (suc n) before l = go (opening l) (λ m. base_begin n no_blocks m) where
  go : (o : Opening Line leaves.Leaf grammar.Container) → ((m : Line) → begin_by n (base no_blocks) m ≡ flat_of (ends.begin_by rules n no_blocks m)) → begun (begin_by n) (base before) o ≡ flat_of (ends.begun rules (ends.begin_by rules n) before l o)
  go opens_nothing q =
      ap (λ (b : Bool). (let f : Flat = record { tokens = tokens before ++ Blank ∷ []; stack = []; leaf = None; filled = b } in f)) (sym (block-joined before (blank_line l no_blocks) ∙ or_false (has_block before)))
      ∙ retold (tokens before ++ Blank ∷ []) (tokens (followed_by rules before (blank_line l no_blocks))) [] None (has_block (followed_by rules before (blank_line l no_blocks))) (sym (tokens-joined before (blank_line l no_blocks)))
  go (opens_leaf s) q = refl
  go (opens_container k m) q =
      wrap_begin n (tokens before) (container_of k) (base no_blocks) m ∙ ap (λ (f : Flat). wrap (tokens before) (container_of k) f) (q m)

-- ---- all that is open, closed

-- the tokens behind an open end, where all is closed
abbrev closing : OpenEnd rules → List Token
closing end = leaf_tokens (end_leaf end) ++ closes (end_stack end)

whole_tokens : (end : OpenEnd rules) → end_tokens end ++ closing end ≡ tokens (whole rules end)
whole_tokens (none_open before) = append-nil (tokens before)
whole_tokens (leaf_open before s) = sym (tokens-joined before (leaf s no_blocks))
whole_tokens (container_open before k inner) =
    let last : closing (container_open before k inner) ≡ closing inner ++ Closes (container_of k) ∷ [] = sym (append_assoc (leaf_tokens (end_leaf inner)) (closes (end_stack inner)) (Closes (container_of k) ∷ [])) in
    append_assoc (tokens before) (Opens (container_of k) ∷ end_tokens inner) (closing (container_open before k inner))
    ∙ ap (λ (t : List Token). tokens before ++ Opens (container_of k) ∷ (end_tokens inner ++ t)) last
    ∙ ap (λ (t : List Token). tokens before ++ Opens (container_of k) ∷ t) (sym (append_assoc (end_tokens inner) (closing inner) (Closes (container_of k) ∷ [])))
    ∙ ap (λ (t : List Token). tokens before ++ Opens (container_of k) ∷ (t ++ Closes (container_of k) ∷ [])) (whole_tokens inner) ∙ sym (tokens-joined before (container k (whole rules inner) no_blocks))

-- a walk that is over has the tokens of all blocks
pub finished_is : (end : OpenEnd rules) → finished (flat_of end) ≡ tokens (whole rules end)
finished_is end = whole_tokens end

-- ---- whether a line goes in

prose_is : (end : OpenEnd rules) → is_prose (end_leaf end) ≡ is_paragraph_open rules end
prose_is (none_open before) = refl
prose_is (leaf_open before (leaves.paragraph xs)) = refl
prose_is (leaf_open before (leaves.setext_heading level xs)) = refl
prose_is (leaf_open before (leaves.atx_heading level u)) = refl
prose_is (leaf_open before leaves.thematic_break) = refl
prose_is (leaf_open before (leaves.indented_code xs ps)) = refl
prose_is (leaf_open before (leaves.fenced_code i mark len info xs closed)) = refl
prose_is (leaf_open before (leaves.html_block kind xs closed)) = refl
prose_is (container_open before k inner) = prose_is inner

filled_is : (end : OpenEnd rules) → (end_filled end || not (is_empty (end_stack end))) ≡ has_block (whole rules end)
filled_is (none_open before) = or_false (has_block before)
filled_is (leaf_open before s) = sym (block-joined before (leaf s no_blocks) ∙ or_true (has_block before))
filled_is (container_open before k inner) = or_true (end_filled inner) ∙ sym (block-joined before (container k (whole rules inner) no_blocks) ∙ or_true (has_block before))

when_is : (b : Bool) (l : Line) → line_when b l ≡ when rules b l
when_is true l = refl
when_is false l = refl

enters_is : (inner : OpenEnd rules) → IsOpenEnd rules inner → (e : Entry Line) → enters (is_prose (end_leaf inner)) (end_filled inner || not (is_empty (end_stack inner))) e ≡ entered rules (λ b. b) (whole rules inner) e
enters_is inner h (goes_in l) = refl
enters_is inner h (goes_in_if_filled l) = ap (λ (b : Bool). line_when b l) (filled_is inner) ∙ when_is (has_block (whole rules inner)) l
enters_is inner h (goes_in_if_open l) = ap (λ (b : Bool). line_when b l) (prose_is inner ∙ sym (open_end rules inner h)) ∙ when_is (ends_in_paragraph rules (whole rules inner)) l
enters_is inner h stays_out = refl

same_container : (k : grammar.Container) → as_container (container_of k) ≡ k
same_container grammar.block_quote = refl
same_container (grammar.list_item kind number content) = refl

-- ---- a line behind the open leaf, and one that closes containers, inside a container

wrap_leaf : (P : List Token) (k : Container) (f : Flat) (l : Line) (o : Option Leaf) → leaf_on (wrap P k f) l o ≡ wrap P k (leaf_on f l o)
wrap_leaf P k f l (Some s) = refl
wrap_leaf P k f l None =
    ap (λ (g : Flat). begin g l) (retold ((P ++ Opens k ∷ f.tokens) ++ leaf_tokens f.leaf) (P ++ Opens k ∷ (f.tokens ++ leaf_tokens f.leaf)) (k ∷ f.stack) None f.filled (append_assoc P (Opens k ∷ f.tokens) (leaf_tokens f.leaf)))
    ∙ wrap_begin (suc (line_weight l)) P k (leaf_closed f) l

wrap_closed : (P : List Token) (k : Container) (f : Flat) (n : ℕ) → closed_to (suc n) (wrap P k f) ≡ wrap P k (closed_to n f)
wrap_closed P k f n =
    let test : nat_lt (suc n) (suc (length f.stack)) ≡ nat_lt n (length f.stack) = grind arith in
    ap (λ (b : Bool). (let g : Flat = record { tokens = (P ++ Opens k ∷ f.tokens) ++ (leaf_tokens f.leaf ++ closes (drop n f.stack)); stack = k ∷ take n f.stack; leaf = None; filled = f.filled || b } in g)) test
    ∙ retold ((P ++ Opens k ∷ f.tokens) ++ (leaf_tokens f.leaf ++ closes (drop n f.stack))) (P ++ Opens k ∷ (f.tokens ++ (leaf_tokens f.leaf ++ closes (drop n f.stack)))) (k ∷ take n f.stack) None (f.filled || nat_lt n (length f.stack))
    (append_assoc P (Opens k ∷ f.tokens) (leaf_tokens f.leaf ++ closes (drop n f.stack)))

wrap_step : (P : List Token) (k : Container) (f : Flat) (m : Matched) → step_on (wrap P k f) (one_more_kept m) ≡ wrap P k (step_on f m)
wrap_step P k f m =
    let test : (suc m.kept == suc (length f.stack)) ≡ (m.kept == length f.stack) = grind arith in
    ap (λ (b : Bool). stepped (wrap P k f) (one_more_kept m) b) test ∙ go (m.kept == length f.stack) where
      go : (b : Bool) → stepped (wrap P k f) (one_more_kept m) b ≡ wrap P k (stepped f m b)
      go true = wrap_leaf P k f m.rest (leaf_more f.leaf m.rest)
      go false = ap (λ (g : Flat). begin g m.rest) (wrap_closed P k f m.kept) ∙ wrap_begin (suc (line_weight m.rest)) P k (closed_to m.kept f) m.rest

-- ---- one line more

leaf_base : (before : Blocks) (s : leaves.Leaf) → (let f : Flat = record { tokens = tokens before ++ Holds (leaf_of s) ∷ []; stack = []; leaf = None; filled = true } in f) ≡ base (followed_by rules before (leaf s no_blocks))
leaf_base before s =
    ap (λ (b : Bool). (let f : Flat = record { tokens = tokens before ++ Holds (leaf_of s) ∷ []; stack = []; leaf = None; filled = b } in f)) (sym (block-joined before (leaf s no_blocks) ∙ or_true (has_block before)))
    ∙ retold (tokens before ++ Holds (leaf_of s) ∷ []) (tokens (followed_by rules before (leaf s no_blocks))) [] None (has_block (followed_by rules before (leaf s no_blocks))) (sym (tokens-joined before (leaf s no_blocks)))

leaf_case : (before : Blocks) (s : leaves.Leaf) (l : Line) (o : Option leaves.Leaf) → leaf_on (flat_of (leaf_open before s)) l (option_map leaf_of o) ≡ flat_of (ends.leaf_on rules before s l o)
leaf_case before s l (Some t) = refl
leaf_case before s l None = ap (λ (g : Flat). begin g l) (leaf_base before s) ∙ base_begin (suc (line_weight l)) (followed_by rules before (leaf s no_blocks)) l

-- a container and all in it is closed
closed_base : (before : Blocks) (k : grammar.Container) (inner : OpenEnd rules) → closed_to 0 (flat_of (container_open before k inner)) ≡ base (followed_by rules before (container k (whole rules inner) no_blocks))
closed_base before k inner =
    let all : (closed_to 0 (flat_of (container_open before k inner))).tokens ≡ tokens (followed_by rules before (container k (whole rules inner) no_blocks)) = finished_is (container_open before k inner) in
    let test : nat_lt 0 (suc (length (end_stack inner))) ≡ true = grind arith in
    let full : (end_filled inner || nat_lt 0 (suc (length (end_stack inner)))) ≡ has_block (followed_by rules before (container k (whole rules inner) no_blocks)) =
    ap (λ (b : Bool). end_filled inner || b) test ∙ or_true (end_filled inner) ∙ sym (block-joined before (container k (whole rules inner) no_blocks) ∙ or_true (has_block before)) in
    ap (λ (b : Bool). (let f : Flat = record { tokens = (closed_to 0 (flat_of (container_open before k inner))).tokens; stack = []; leaf = None; filled = b } in f)) full
    ∙ retold (closed_to 0 (flat_of (container_open before k inner))).tokens (tokens (followed_by rules before (container k (whole rules inner) no_blocks))) [] None (has_block (followed_by rules before (container k (whole rules inner) no_blocks))) all

-- a line behind the open containers, by whether it goes into the outermost
abbrev entered_on : Blocks → grammar.Container → OpenEnd rules → Line → Option Line → Flat
entered_on before k inner l o = step_on (flat_of (container_open before k inner)) (elim o as (λ x. Matched) [ Some m ↦ one_more_kept (reached (is_prose (end_leaf inner)) (end_filled inner) (end_stack inner) m) | None ↦ record { kept = 0; rest = l } ])

pub step_is : (end : OpenEnd rules) → IsOpenEnd rules end → (l : Line) → step (flat_of end) l ≡ flat_of (line_step rules end l)
step_is (none_open before) h l = ap (λ (g : Flat). begin g l) (retold (tokens before ++ []) (tokens before) [] None (has_block before) (append-nil (tokens before))) ∙ base_begin (suc (line_weight l)) before l
step_is (leaf_open before s) h l = ap (λ (o : Option Leaf). leaf_on (flat_of (leaf_open before s)) l o) (more_is s l) ∙ leaf_case before s l (leaves.more s l)
step_is (container_open before k inner) h l =
    ap (λ (j : grammar.Container). entered_on before k inner l (enters (is_prose (end_leaf inner)) (end_filled inner || not (is_empty (end_stack inner))) (grammar.entry j l))) (same_container k)
    ∙ ap (entered_on before k inner l) (enters_is inner h (grammar.entry k l)) ∙ go (entered rules (λ b. b) (whole rules inner) (grammar.entry k l)) (λ m. step_is inner h m) where
      none_kept : (0 == suc (length (end_stack inner))) ≡ false
      none_kept = grind arith

      go : (o : Option Line) → ((m : Line) → step (flat_of inner) m ≡ flat_of (line_step rules inner m)) → entered_on before k inner l o
          ≡ flat_of (elim o as (λ x. OpenEnd rules) [ Some m ↦ container_open before k (line_step rules inner m) | None ↦ ends.begin rules (followed_by rules before (container k (whole rules inner) no_blocks)) l ])
      go (Some m) q =
          wrap_step (tokens before) (container_of k) (flat_of inner) (reached (is_prose (end_leaf inner)) (end_filled inner) (end_stack inner) m) ∙ ap (λ (f : Flat). wrap (tokens before) (container_of k) f) (q m)
      go None q =
          ap (λ (b : Bool). stepped (flat_of (container_open before k inner)) (record { kept = 0; rest = l }) b) none_kept
          ∙ ap (λ (g : Flat). begin g l) (closed_base before k inner) ∙ base_begin (suc (line_weight l)) (followed_by rules before (container k (whole rules inner) no_blocks)) l

steps_from : (end : OpenEnd rules) → IsOpenEnd rules end → (ls : List Line) → steps (flat_of end) ls ≡ flat_of (line_steps rules end ls)
steps_from end h [] = refl
steps_from end h (l ∷ ls) = ap (λ (f : Flat). steps f ls) (step_is end h l) ∙ steps_from (line_step rules end l) (step_spine rules light end l h) ls

-- a walk over all lines
pub steps_is : (ls : List Line) → steps flat_start ls ≡ flat_of (line_steps rules (none_open no_blocks) ls)
steps_is ls = steps_from (none_open no_blocks) tt ls
