-- Quotes and items that a line opens.
use Rattle.std.proofs.Common.{IsUtf8, List, [], ap, arith, drop, get_or, length, refl, subst, suc, sym, take, zero, ℕ, ◌+◌, ◌-◌, ◌<◌, ◌∙◌, ◌∷◌, ◌≡◌, ◌≤◌}
use Rattle.std.specs.Str.{IsCharBoundary}
use Rattle.std.proofs.lemmas.Str.{IsCharBoundary-after_ascii}
use Rattle.markdown_grammar.specs.Blocks.{item_opening, opening, opening_at, opening_of}
use Rattle.markdown_grammar.specs.Columns.{Line, indent, shifted}
use Rattle.markdown_grammar.specs.Containers as grammar
use Rattle.markdown_grammar.specs.Extents.{Opening, opens_container}
use Rattle.markdown_grammar.specs.Leaves as leaves
use Rattle.markdown_grammar.specs.Lines.{trim_front}
use Rattle.markdown_grammar.specs.LineStarts.{start_of}
use Rattle.markdown_grammar.specs.Places.{not_in_paragraph}
use Rattle.markdown_grammar.specs.Starts.{item_start}
use Rattle.cm_containers.specs.Rests.{behind_byte, column_behind}
use Rattle.cm_containers.specs.Spots.{BehindWhite, IsSpot, rest_at, text_at}
use Rattle.cm_containers.specs.declared.spots.Spot.{Spot}
use Rattle.cm_containers.proofs.Entering.{columns_before}
use Rattle.cm_blocks.specs.Opening.{IsMark}
use Rattle.cm_blocks.proofs.Marks.{MarkIn, start_mark}

pub drop_length : (n : ℕ) (t : List ℕ) → length (drop n t) ≡ length t - n
drop_length zero t = omega arith
drop_length (suc n) [] = omega arith
drop_length (suc n) (c ∷ cs) = omega (arith, drop_length n cs)

columns_more : (a n col : ℕ) (t : List ℕ) → column_behind col (take (a + n) t) ≡ column_behind (column_behind col (take a t)) (take n (drop a t))
columns_more zero n col t = let e : 0 + n ≡ n = omega arith in ap (λ (k : ℕ). column_behind col (take k t)) e
columns_more (suc a) n col [] = let e : suc a + n ≡ suc (a + n) = omega arith in ap (λ (k : ℕ). column_behind col (take k [])) e ∙ nothing n where
  nothing : (n : ℕ) → col ≡ column_behind col (take n [])
  nothing zero = refl
  nothing (suc n) = refl
columns_more (suc a) n col (c ∷ cs) = let e : suc a + n ≡ suc (a + n) = omega arith in ap (λ (k : ℕ). column_behind col (take k (c ∷ cs))) e ∙ columns_more a n (behind_byte col c) cs

pub byte_behind : (a i : ℕ) (t : List ℕ) → get_or (drop a t) i 0 ≡ get_or t (a + i) 0
byte_behind zero i t = let e : i ≡ 0 + i = omega arith in ap (λ (k : ℕ). get_or t k 0) e
byte_behind (suc a) i [] = refl
byte_behind (suc a) i (c ∷ cs) = let e : suc (a + i) ≡ suc a + i = omega arith in byte_behind a i cs ∙ ap (λ (k : ℕ). get_or (c ∷ cs) k 0) e

-- the place behind a mark
pub mark_spot : (line : List ℕ) (w : Spot) (n : ℕ) → IsUtf8 line → IsSpot line w → w.start ≡ w.column → IsMark (drop w.at line) n
    → IsSpot line (record { at = w.at + n; start = w.column + n; column = w.column + n })
mark_spot line w n u h whole m =
    let within : w.at + n ≤ length line = omega (arith, m.within, drop_length w.at line, h.within, m.some) in
    let last : w.at + (n - 1) + 1 ≡ w.at + n = omega (arith, m.some) in
    let low : get_or line (w.at + (n - 1)) 0 < 128 = omega (arith, m.ascii, byte_behind w.at (n - 1) line) in
    record {
      within = within;
      start = sym (columns_more w.at n 0 line ∙ m.columns (column_behind 0 (take w.at line)) ∙ omega (arith, h.start, whole));
      small = omega (arith, h.small, whole);
      order = omega arith;
      near = omega arith;
      cut = subst (IsCharBoundary line) last (IsCharBoundary-after_ascii line (w.at + (n - 1)) u (omega (arith, within, m.some)) low);
      in_tab = λ bad. absurd (omega (arith, bad));
    }

-- the mark of an item that a line starts
pub item_marked : (col at kind number digits : ℕ) (t line : List ℕ) → item_start kind number digits ≡ start_of not_in_paragraph col t → drop at line ≡ trim_front t → IsMark (drop at line) (digits + 1)
item_marked col at kind number digits t line e same =
    let marked : MarkIn (trim_front t) (item_start kind number digits) = subst (MarkIn (trim_front t)) (sym e) (start_mark col t) in
    subst (λ (u : List ℕ). IsMark u (digits + 1)) (sym same) marked

-- the item that a line opens, where its mark takes bytes of the text behind white space
open_item : (col kind number digits : ℕ) (t u : List ℕ) → u ≡ trim_front t → digits + 1 ≤ length u → item_start kind number digits ≡ start_of not_in_paragraph col t
    → opening_of col t u ≡ item_opening kind number (indent col t) (col + indent col t + digits + 1) digits (drop (digits + 1) u)
open_item col kind number digits t [] same within e = absurd (omega (arith, within))
open_item col kind number digits t (c ∷ cs) same within e =
    let size : suc digits ≡ digits + 1 = omega arith in
    ap (opening_at col t cs) (sym e) ∙ ap (λ (n : ℕ). item_opening kind number (indent col t) (col + indent col t + digits + 1) digits (drop n (c ∷ cs))) size

pub item_opens : (line : List ℕ) (s w a i : Spot) (mark kind number digits pad content : ℕ) → mark ≡ kind → BehindWhite line s w → IsMark (drop w.at line) (digits + 1)
    → item_start kind number digits ≡ start_of not_in_paragraph s.column (text_at line s) → a.column ≡ w.column + (digits + 1) → text_at line a ≡ drop (digits + 1) (drop w.at line)
    → pad ≡ grammar.padding a.column (text_at line a) → content ≡ a.column - s.column + pad → rest_at line i ≡ shifted pad a.column (text_at line a)
    → opening (rest_at line s) ≡ opens_container (grammar.list_item mark number content) (rest_at line i)
item_opens line s w a i mark kind number digits pad content same h m e col text p z r =
    let t = text_at line s in
    let at : a.column ≡ s.column + indent s.column t + digits + 1 = omega (arith, col, h.column) in
    let width : indent s.column t + digits + 1 + pad ≡ content = omega (arith, at, z) in
    ap (opening_of s.column t) (sym h.rest) ∙ open_item s.column kind number digits t (drop w.at line) h.rest m.within e
    ∙ ap (λ (n : ℕ). item_opening kind number (indent s.column t) n digits (drop (digits + 1) (drop w.at line))) (sym at)
    ∙ ap (λ (u : List ℕ). item_opening kind number (indent s.column t) a.column digits u) (sym text)
    ∙ ap (λ (n : ℕ). (let o : Opening Line leaves.Leaf grammar.Container = opens_container (grammar.list_item kind number (indent s.column t + digits + 1 + n)) (shifted n a.column (text_at line a)) in o)) (sym p)
    ∙ ap (λ (n : ℕ). (let o : Opening Line leaves.Leaf grammar.Container = opens_container (grammar.list_item kind number n) (shifted pad a.column (text_at line a)) in o)) width
    ∙ ap (λ (l : Line). (let o : Opening Line leaves.Leaf grammar.Container = opens_container (grammar.list_item kind number content) l in o)) (sym r)
    ∙ ap (λ (k : ℕ). (let o : Opening Line leaves.Leaf grammar.Container = opens_container (grammar.list_item k number content) (rest_at line i) in o)) (sym same)

-- the inside of a container begins further on
pub further : (line : List ℕ) (s w a i : Spot) (n k : ℕ) → BehindWhite line s w → 0 < n → a.column ≡ w.column + n → rest_at line i ≡ shifted k a.column (text_at line a) → s.column < i.column
further line s w a i n k h some col r = omega (arith, h.column, some, col, columns_before line a i k r)
