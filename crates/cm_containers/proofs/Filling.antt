-- A line inside one container, by whether this has a block.
use Rattle.std.proofs.Common.{Bool, List, [], ap, cond, false, nat_le, nat_lt, refl, sym, true, ℕ, ◌&&◌, ◌+◌, ◌==◌, ◌∙◌, ◌∷◌, ◌≡◌}
use Rattle.markdown_grammar.specs.Columns.{Line, indent, shifted}
use Rattle.markdown_grammar.specs.Containers as grammar
use Rattle.markdown_grammar.specs.Extents.{Entry, goes_in, goes_in_if_filled, goes_in_if_open, stays_out}
use Rattle.markdown_grammar.specs.LineStarts.{start_of}
use Rattle.markdown_grammar.specs.Lines.{is_blank}
use Rattle.markdown_grammar.specs.Places.{beside_paragraph}
use Rattle.markdown_grammar.specs.Starts.{Start, atx_start, blank_start, break_start, fence_start, html_start, indented_start, item_start, quote_start, text_start, underline_start}
use Rattle.cm_containers.specs.Entries.{kept_by}
use Rattle.cm_containers.specs.Spots.{kept_line}

pub kept_filled : (b : Bool) (e : Entry Line) → b ≡ true → kept_line e ≡ kept_by b e
kept_filled true (goes_in l) h = refl
kept_filled true (goes_in_if_filled l) h = refl
kept_filled true (goes_in_if_open l) h = refl
kept_filled true stays_out h = refl
kept_filled false e h = absurd cc

lazily_out : (b : Bool) (t : List ℕ) (s : Start) → kept_line (grammar.lazily t s) ≡ kept_by b (grammar.lazily t s)
lazily_out b t text_start = refl
lazily_out b t blank_start = refl
lazily_out b t quote_start = refl
lazily_out b t (atx_start level u) = refl
lazily_out b t (fence_start i mark len info) = refl
lazily_out b t (html_start kind) = refl
lazily_out b t (underline_start level) = refl
lazily_out b t break_start = refl
lazily_out b t (item_start kind number digits) = refl
lazily_out b t indented_start = refl

abbrev pub quote_cases : ℕ → List ℕ → List ℕ → Bool → Entry Line
quote_cases col t cs b = cond b (goes_in (shifted 1 (col + indent col t + 1) cs)) (grammar.lazily t (start_of beside_paragraph col t))

pub kept_quote : (b : Bool) (col : ℕ) (t u : List ℕ) → kept_line (grammar.quote_entry col t u) ≡ kept_by b (grammar.quote_entry col t u)
kept_quote b col t [] = refl
kept_quote b col t (c ∷ cs) = go (nat_lt (indent col t) 4 && (c == 62)) where
  go : (x : Bool) → kept_line (quote_cases col t cs x) ≡ kept_by b (quote_cases col t cs x)
  go true = refl
  go false = lazily_out b t (start_of beside_paragraph col t)

abbrev pub item_cases : ℕ → ℕ → List ℕ → Bool → Bool → Entry Line
item_cases content col t blank wide = cond blank (goes_in_if_filled (shifted content col t)) (cond wide (goes_in (shifted content col t)) (grammar.lazily t (start_of beside_paragraph col t)))

pub kept_item : (b : Bool) (content col : ℕ) (t : List ℕ) → is_blank t ≡ false → kept_line (grammar.item_entry content col t) ≡ kept_by b (grammar.item_entry content col t)
kept_item b content col t h =
    ap (λ (x : Bool). kept_line (item_cases content col t x (nat_le content (indent col t)))) h ∙ go (nat_le content (indent col t)) ∙ ap (λ (x : Bool). kept_by b (item_cases content col t x (nat_le content (indent col t)))) (sym h) where
      go : (w : Bool) → kept_line (item_cases content col t false w) ≡ kept_by b (item_cases content col t false w)
      go true = refl
      go false = lazily_out b t (start_of beside_paragraph col t)
