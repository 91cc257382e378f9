-- Front matter, one line after another, as a loop finds it.
use Rattle.std.proofs.Common.{◌≡◌, ℕ, zero, suc, ◌+◌, Bool, true, false, not, cond, List, [], ◌∷◌, length, take, drop, refl, ap, ◌∙◌, arith}
use Rattle.std.specs.Prelude.{take_while}
use Rattle.std.specs.List.{concat, prefix_len}
use Rattle.std.proofs.lemmas.List.{length-append}
use Rattle.front_yaml.specs.declared.front_matter.Front.{Front}
use Rattle.front_yaml.specs.declared.front_matter.Front.TheVariants.{Page, Plain}
use Rattle.site_base.specs.Lines.{lines, ends_line}
use Rattle.site_base.proofs.LinesLaws.{first_line, line_len}
use Rattle.front_yaml.specs.Front.{is_white, begins_white, begins_fence, closes, stays_open, closed, front_at, total, is_blank}
use Rattle.front_yaml.proofs.Prefixes.{prefix_more, prefix_none}

-- front matter from `start`, of which the lines from `at` on are to be read
abbrev pub open_at : ℕ → ℕ → List (List ℕ) → Front
open_at start at ls = closed start (at + total (take_while stays_open ls)) (drop (prefix_len stays_open ls) ls)

total_more : (line : List ℕ) (ls : List (List ℕ)) → total (line ∷ ls) ≡ length line + total ls
total_more line ls = length-append line (concat ls)

-- one line more that passes a test, and one that does not
while_more : (p : List ℕ → Bool) (line : List ℕ) (ls : List (List ℕ)) → p line ≡ true → total (take_while p (line ∷ ls)) ≡ length line + total (take_while p ls)
while_more p line ls e = ap (λ n. total (take n (line ∷ ls))) (prefix_more p line ls e) ∙ total_more line (take_while p ls)

while_none : (p : List ℕ → Bool) (line : List ℕ) (ls : List (List ℕ)) → p line ≡ false → total (take_while p (line ∷ ls)) ≡ 0
while_none p line ls e = ap (λ n. total (take n (line ∷ ls))) (prefix_none p line ls e)

-- a line that does not close it
pub goes_on : (start at : ℕ) (line : List ℕ) (ls : List (List ℕ)) → closes line ≡ false → open_at start at (line ∷ ls) ≡ open_at start (at + length line) ls
goes_on start at line ls stays =
    let open_line : stays_open line ≡ true = ap not stays in
    let e : at + total (take_while stays_open (line ∷ ls)) ≡ (at + length line) + total (take_while stays_open ls) = omega (arith, while_more stays_open line ls open_line) in
    ap (λ n. closed start n (drop (prefix_len stays_open (line ∷ ls)) (line ∷ ls))) e
    ∙ ap (λ k. closed start ((at + length line) + total (take_while stays_open ls)) (drop k (line ∷ ls))) (prefix_more stays_open line ls open_line)

-- the line that does
pub ends_here : (start at : ℕ) (line : List ℕ) (ls : List (List ℕ)) → closes line ≡ true → open_at start at (line ∷ ls) ≡ Page start at (at + length line + total (take_while is_blank ls))
ends_here start at line ls shut =
    let stops : stays_open line ≡ false = ap not shut in
    let e : at + total (take_while stays_open (line ∷ ls)) ≡ at = omega (arith, while_none stays_open line ls stops) in
    ap (λ n. closed start n (drop (prefix_len stays_open (line ∷ ls)) (line ∷ ls))) e ∙ ap (λ k. closed start at (drop k (line ∷ ls))) (prefix_none stays_open line ls stops)

-- a blank line more
pub blank_more : (line : List ℕ) (ls : List (List ℕ)) → is_blank line ≡ true → total (take_while is_blank (line ∷ ls)) ≡ length line + total (take_while is_blank ls)
blank_more line ls blank = while_more is_blank line ls blank

pub blank_none : (line : List ℕ) (ls : List (List ℕ)) → is_blank line ≡ false → total (take_while is_blank (line ∷ ls)) ≡ 0
blank_none line ls blank = while_none is_blank line ls blank

-- a line at whose front no white space stands is not blank, whatever its length is
not_blank : (once : Bool) (c : ℕ) (cs : List ℕ) (n : ℕ) → is_white c ≡ false → is_blank (take (cond once 1 (suc n)) (c ∷ cs)) ≡ false
not_blank true c cs n e = rw e refl
not_blank false c cs n e = rw e refl

-- a text at whose front no white space stands begins with no blank line
pub blank_at : (xs : List ℕ) → begins_white xs ≡ false → total (take_while is_blank (lines xs)) ≡ 0
unfolding lines
blank_at [] e = refl
blank_at (c ∷ cs) e =
    let n = line_len (c ∷ cs) in
    ap (λ ls. total (take_while is_blank ls)) (first_line c cs)
    ∙ blank_none (take n (c ∷ cs)) (lines (drop n (c ∷ cs))) (not_blank (ends_line c cs) c cs (line_len cs) e)

-- where no fence stands at the front of a text, none stands at that of its first line
begins_not : (b : ℕ) (xs : List ℕ) (n : ℕ) → begins_fence b xs ≡ false → begins_fence b (take n xs) ≡ false
begins_not b [] zero e = e
begins_not b [] (suc n) e = e
begins_not b (x ∷ []) zero e = refl
begins_not b (x ∷ []) (suc zero) e = refl
begins_not b (x ∷ []) (suc (suc n)) e = refl
begins_not b (x ∷ y ∷ []) zero e = refl
begins_not b (x ∷ y ∷ []) (suc zero) e = refl
begins_not b (x ∷ y ∷ []) (suc (suc zero)) e = refl
begins_not b (x ∷ y ∷ []) (suc (suc (suc n))) e = refl
begins_not b (x ∷ y ∷ z ∷ xs) zero e = refl
begins_not b (x ∷ y ∷ z ∷ xs) (suc zero) e = refl
begins_not b (x ∷ y ∷ z ∷ xs) (suc (suc zero)) e = refl
begins_not b (x ∷ y ∷ z ∷ xs) (suc (suc (suc n))) e = e

-- a text at whose front no fence stands has no front matter
pub plain_at : (at : ℕ) (xs : List ℕ) → begins_fence 45 xs ≡ false → front_at at (lines xs) ≡ Plain
unfolding lines
plain_at at [] e = refl
plain_at at (c ∷ cs) e =
    let n = line_len (c ∷ cs) in
    let none : begins_fence 45 (take n (c ∷ cs)) ≡ false = begins_not 45 (c ∷ cs) n e in
    ap (front_at at) (first_line c cs) ∙ rw none refl
