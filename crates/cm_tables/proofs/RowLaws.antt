-- The lines of a text, the first and those below it.
use Rattle.std.proofs.Common.{Bool, Bor, List, true, not, None, Option, Some, [], ap, arith, drop, drop_of_length-le, false, length, refl, sym, ℕ, ◌+◌, ◌<◌, ◌==◌, ◌∷◌, ◌≡◌, ◌≤◌}
use Rattle.std.specs.Option.{is_some}
use Rattle.std.specs.List.{after_first, before_first, count_by, position_or_len, slice_split}
use Rattle.std.proofs.lemmas.List.Splits.{length-slice_split, slice_split_first, slice_split_none}
use Rattle.std.proofs.lemmas.List.Elements.{All-from_get_or}
use Rattle.std.proofs.lemmas.List.Sums.{fails_before_first}
use Rattle.site_text.specs.Bytes.{line_feed}
use Rattle.markdown_grammar.specs.Fronts.{is_empty}
use Rattle.markdown_grammar.specs.Tables.{table_in, table_of}
use Rattle.cm_tables.specs.Rows.{lines_in}

-- a text's lines, the first and those below it
pub in_lines : (text header : List ℕ) (lines : List (List ℕ)) → slice_split (λ c. c == line_feed) text ≡ header ∷ lines → table_in (header ∷ lines) ≡ table_of text
unfolding table_of
in_lines text header lines e = sym (ap table_in e)

-- the first line of a text, and those below it
pub first_of : (text : List ℕ) → position_or_len (λ c. c == line_feed) text < length text
    → slice_split (λ c. c == line_feed) text ≡ before_first (λ c. c == line_feed) text ∷ slice_split (λ c. c == line_feed) (after_first (λ c. c == line_feed) text)
first_of text lt = slice_split_first (λ c. c == line_feed) text 0 lt

pub only_line : (text : List ℕ) → position_or_len (λ c. c == line_feed) text ≡ length text → slice_split (λ c. c == line_feed) text ≡ text ∷ []
only_line text e =
    slice_split_none (λ c. c == line_feed) text
    (All-from_get_or (λ c. (c == line_feed) ≡ false) text 0 (λ k lt. let before : k < position_or_len (λ c. c == line_feed) text = omega (arith, e, lt) in fails_before_first (λ c. c == line_feed) text k 0 before))

-- there is at least one
pub some_line : (text : List ℕ) → false ≡ is_empty (slice_split (λ c. c == line_feed) text)
some_line text = go (slice_split (λ c. c == line_feed) text) (length-slice_split (λ c. c == line_feed) text) where
  go : (lines : List (List ℕ)) → length lines ≡ count_by (λ c. c == line_feed) text + 1 → false ≡ is_empty lines
  go [] e = absurd (omega (arith, e))
  go (line ∷ lines) e = refl

pub none_below : (rest : Option (Bor (List ℕ))) (b : Bool) → not b ≡ is_some rest → b ≡ is_empty (lines_in rest)
none_below None true h = refl
none_below None false h = absurd cc
none_below (Some text) true h = absurd cc
none_below (Some text) false h = some_line text.now

-- how many there are, counted by the ends between them
pub lines_counted : (count i : ℕ) (text : List ℕ) → length text ≤ i → count + count_by (λ c. c == line_feed) (drop i text) ≡ 1 + count_by (λ c. c == line_feed) text
    → count ≡ length (slice_split (λ c. c == line_feed) text)
lines_counted count i text past so_far =
    let none : count_by (λ c. c == line_feed) (drop i text) ≡ 0 = ap (count_by (λ c. c == line_feed)) (drop_of_length-le text past) in
    omega (arith, so_far, none, length-slice_split (λ c. c == line_feed) text)
