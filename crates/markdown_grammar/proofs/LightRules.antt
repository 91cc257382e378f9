-- The rules of leaves and containers are light, so the blocks of a text are a walk over its lines.
use Rattle.std.proofs.Common.{Bool, List, [], ap, arith, cond, drop, false, refl, replicate, suc, true, zero, ℕ, ◌++◌, ◌+◌, ◌-◌, ◌<◌, ◌==◌, ◌∷◌, ◌≡◌, ◌≤◌}
use Rattle.markdown_grammar.proofs.Extending.{one_more}
use Rattle.markdown_grammar.proofs.OpenEndWalk.{walk_is}
use Rattle.markdown_grammar.specs.Blocks.{blocks, line_weight, opening, opening_at, opening_of, rules}
use Rattle.site_text.specs.Bytes.{is_space}
use Rattle.site_text.specs.Fronts.{run_len}
use Rattle.markdown_grammar.specs.Columns.{Line, bytes_weight, indent, lazy_line, own_line, shifted, tab_width}
use Rattle.markdown_grammar.specs.Containers.{Container, block_quote, entry, lazily, list_item, padding, quote_entry}
use Rattle.markdown_grammar.specs.Extents.{EntersLight, Entry, IsLight, OpensLight, add_line, goes_in, goes_in_if_filled, no_blocks}
use Rattle.markdown_grammar.specs.LineStarts.{start_of}
use Rattle.markdown_grammar.specs.Lines.{trim_front}
use Rattle.markdown_grammar.specs.OpenEnds.{line_steps, none_open, whole}
use Rattle.markdown_grammar.specs.Places.{beside_paragraph, not_in_paragraph}
use Rattle.markdown_grammar.specs.Starts.{Start, atx_start, blank_start, break_start, fence_start, html_start, indented_start, item_start, quote_start, text_start, underline_start}

abbrev byte_weight : ℕ → ℕ
byte_weight c = elim (c == 9) [ true ↦ 4 | false ↦ 1 ]

drop_light : (n : ℕ) (t : List ℕ) → bytes_weight (drop n t) ≤ bytes_weight t
drop_light zero t = omega arith
drop_light (suc n) [] = omega arith
drop_light (suc n) (c ∷ cs) = omega (arith, drop_light n cs)

pad_weight : (m : ℕ) (t : List ℕ) → bytes_weight (replicate m 32 ++ t) ≡ m + bytes_weight t
pad_weight zero t = omega arith
pad_weight (suc m) t = omega (arith, pad_weight m t)

shifted_light : (k col : ℕ) (t : List ℕ) → line_weight (shifted k col t) ≤ bytes_weight t
shifted_light zero col t = omega arith
shifted_light (suc k) col [] = omega arith
shifted_light (suc k) col (c ∷ cs) = go (c == 32) (c == 9) refl (shifted_light k (suc col) cs) (shifted_light k (suc col) (replicate (tab_width col - 1) 32 ++ cs)) where
  go : (a b : Bool) → (c == 9) ≡ b → line_weight (shifted k (suc col) cs) ≤ bytes_weight cs → line_weight (shifted k (suc col) (replicate (tab_width col - 1) 32 ++ cs)) ≤ bytes_weight (replicate (tab_width col - 1) 32 ++ cs)
      → line_weight (elim a [ true ↦ shifted k (suc col) cs | false ↦ elim b [ true ↦ shifted k (suc col) (replicate (tab_width col - 1) 32 ++ cs) | false ↦ own_line col (c ∷ cs) ] ]) ≤ byte_weight c + bytes_weight cs
  go true b e h j = omega (arith, h)
  go false true e h j = let w : byte_weight c ≡ 4 = ap (λ (d : Bool). elim d as (λ x. ℕ) [ true ↦ 4 | false ↦ 1 ]) e in omega (arith, w, j, pad_weight (tab_width col - 1) cs)
  go false false e h j = omega arith

trim_light : (t : List ℕ) → bytes_weight (trim_front t) ≤ bytes_weight t
trim_light t = drop_light (run_len is_space t) t

byte_some : (c : ℕ) → 0 < byte_weight c
byte_some c = two (c == 9) where
  two : (b : Bool) → 0 < elim b as (λ x. ℕ) [ true ↦ 4 | false ↦ 1 ]
  two true = omega arith
  two false = omega arith

opening_light : (col : ℕ) (t cs : List ℕ) (s : Start) → bytes_weight cs < bytes_weight t → OpensLight rules (bytes_weight t) (opening_at col t cs s)
opening_light col t cs blank_start h = tt
opening_light col t cs quote_start h = omega (arith, h, shifted_light 1 (col + indent col t + 1) cs)
opening_light col t cs (atx_start level u) h = tt
opening_light col t cs (fence_start i mark len info) h = tt
opening_light col t cs (html_start kind) h = tt
opening_light col t cs (underline_start level) h = tt
opening_light col t cs break_start h = tt
opening_light col t cs (item_start kind number digits) h =
    let at = col + indent col t + digits + 1 in
    omega (arith, h, drop_light digits cs, shifted_light (padding at (drop digits cs)) at (drop digits cs))
opening_light col t cs indented_start h = tt
opening_light col t cs text_start h = tt

of_light : (col : ℕ) (t u : List ℕ) → bytes_weight u ≤ bytes_weight t → OpensLight rules (bytes_weight t) (opening_of col t u)
of_light col t [] h = tt
of_light col t (c ∷ cs) h = opening_light col t cs (start_of not_in_paragraph col t) (omega (arith, h, byte_some c))

starts_light : (l : Line) → OpensLight rules (line_weight l) (opening l)
starts_light (lazy_line t) = tt
starts_light (own_line col t) = of_light col t (trim_front t) (trim_light t)

cond_light : (n : ℕ) (b : Bool) (x y : Entry Line) → EntersLight rules n x → EntersLight rules n y → EntersLight rules n (cond b x y)
cond_light n true x y h j = h
cond_light n false x y h j = j

lazily_light : (t : List ℕ) (s : Start) → EntersLight rules (bytes_weight t) (lazily t s)
lazily_light t text_start = omega arith
lazily_light t blank_start = tt
lazily_light t quote_start = tt
lazily_light t (atx_start level u) = tt
lazily_light t (fence_start i mark len info) = tt
lazily_light t (html_start kind) = tt
lazily_light t (underline_start level) = tt
lazily_light t break_start = tt
lazily_light t (item_start kind number digits) = tt
lazily_light t indented_start = tt

quote_light : (col : ℕ) (t u : List ℕ) → bytes_weight u ≤ bytes_weight t → EntersLight rules (bytes_weight t) (quote_entry col t u)
quote_light col t [] h = tt
quote_light col t (c ∷ cs) h = cond_light (bytes_weight t) _ (goes_in (shifted 1 (col + indent col t + 1) cs)) (lazily t (start_of beside_paragraph col t)) (omega (arith, h, byte_some c, shifted_light 1 (col + indent col t + 1) cs)) (lazily_light t (start_of beside_paragraph col t))

enters_light : (k : Container) (l : Line) → EntersLight rules (line_weight l) (entry k l)
enters_light k (lazy_line t) = omega arith
enters_light block_quote (own_line col t) = quote_light col t (trim_front t) (trim_light t)
enters_light (list_item kind number content) (own_line col t) =
    cond_light (bytes_weight t) _ (goes_in_if_filled (shifted content col t)) (cond _ (goes_in (shifted content col t)) (lazily t (start_of beside_paragraph col t))) (shifted_light content col t)
    (cond_light (bytes_weight t) _ (goes_in (shifted content col t)) (lazily t (start_of beside_paragraph col t)) (shifted_light content col t) (lazily_light t (start_of beside_paragraph col t)))

pub light : IsLight rules
light = record { starts = starts_light; enters = enters_light }

-- adding a line changes the blocks on their right spine alone
pub walk : (ls : List Line) (l : Line) → blocks (ls ++ l ∷ []) ≡ add_line rules (blocks ls) l
unfolding blocks
walk ls l = one_more rules light ls l

-- one walk over the lines, which keeps the open end, gives the blocks by whole extents
pub machine : (ls : List Line) → whole rules (line_steps rules (none_open no_blocks) ls) ≡ blocks ls
unfolding blocks
machine ls = walk_is rules light ls
