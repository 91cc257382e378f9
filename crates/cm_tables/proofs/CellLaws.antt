-- A line's cells, by the place where the first ends.
use Rattle.std.proofs.Common.{Bool, IsUtf8, List, [], ap, arith, codes, drop, drop-cons, drop_of_length-le, eqb-true, false, length, lit<, nat_eq, not, refl, slice_range, suc, sym, take, true, ℕ, ◌&&◌, ◌+◌, ◌-◌, ◌<◌, ◌==◌, ◌∙◌, ◌∷◌, ◌≡◌, ◌≤◌}
use Rattle.std.specs.List.{onto_first, starts_with}
use Rattle.std.specs.Str.{IsCharBoundary}
use Rattle.std.proofs.lemmas.List.{take_all}
use Rattle.site_text.specs.Bytes.{backslash}
use Rattle.markdown_grammar.specs.Tables.{cut_at_pipes, pipe}
use Rattle.cm_tables.specs.Cells.{cell_len}
use Rattle.site_text.proofs.Runs.{boundary_byte}

-- the cells behind the first, of a text that begins with the pipe between
abbrev pub behind_pipe : List ℕ → List (List ℕ)
behind_pipe [] = []
behind_pipe (c ∷ cs) = cut_at_pipes false cs

-- the first cell, and those behind it
pub cut_first : (escaped : Bool) (t : List ℕ) → cut_at_pipes escaped t ≡ take (cell_len escaped t) t ∷ behind_pipe (drop (cell_len escaped t) t)
cut_first escaped [] = refl
cut_first escaped (c ∷ cs) = go ((c == pipe) && not escaped) (cut_first (c == backslash) cs) where
  go : (b : Bool) → cut_at_pipes (c == backslash) cs ≡ take (cell_len (c == backslash) cs) cs ∷ behind_pipe (drop (cell_len (c == backslash) cs) cs)
      → elim b as (λ x. List (List ℕ)) [ true ↦ [] ∷ cut_at_pipes false cs | false ↦ onto_first c (cut_at_pipes (c == backslash) cs) ]
      ≡ take (elim b as (λ x. ℕ) [ true ↦ 0 | false ↦ suc (cell_len (c == backslash) cs) ]) (c ∷ cs) ∷ behind_pipe (drop (elim b as (λ x. ℕ) [ true ↦ 0 | false ↦ suc (cell_len (c == backslash) cs) ]) (c ∷ cs))
  go true h = refl
  go false h = ap (onto_first c) h

-- where it is not the last, there is one more behind the pipe
pub cells_more : (t : List ℕ) → cell_len false t < length t → cut_at_pipes false t ≡ slice_range t 0 (cell_len false t) ∷ cut_at_pipes false (drop (cell_len false t + 1) t)
cells_more t lt =
    let n = cell_len false t in
    let one : suc n ≡ n + 1 = omega arith in
    let none : n ≡ n - 0 = omega arith in
    cut_first false t ∙ ap (λ rest. take n t ∷ behind_pipe rest) (drop-cons t n 0 lt) ∙ ap (λ k. take n t ∷ cut_at_pipes false (drop k t)) one
    ∙ ap (λ k. take k t ∷ cut_at_pipes false (drop (n + 1) t)) none

-- and else there is none
pub cells_last : (t : List ℕ) → length t ≤ cell_len false t → cut_at_pipes false t ≡ t ∷ []
cells_last t le = cut_first false t ∙ ap (λ rest. take (cell_len false t) t ∷ behind_pipe rest) (drop_of_length-le t le) ∙ ap (λ whole. whole ∷ []) (take_all (cell_len false t) t le)

-- a text may be cut behind a pipe at its front
pub behind_first : (t : List ℕ) → IsUtf8 t → starts_with nat_eq t (codes "|") ≡ true → IsCharBoundary t 1
behind_first [] u h = absurd cc
behind_first (c ∷ cs) u h = boundary_byte (c ∷ cs) 0 124 u (omega arith) (sym (eqb-true 124 c (is_pipe (nat_eq 124 c) true h))) (lit< tt) where
  is_pipe : (a b : Bool) → (a && b) ≡ true → a ≡ true
  is_pipe true b h = refl
  is_pipe false b h = absurd cc
