-- Where no rule before takes a text, it is a bracket, white space or text.
use Rattle.std.proofs.Common.{◌≡◌, ◌∙◌, Bool, List, ap, arith, cond, drop, false, sym, ℕ, ◌==◌, ◌||◌}
use Rattle.markdown_grammar.specs.CodeSpans.{Taken, code_at}
use Rattle.markdown_grammar.specs.Flanking.{char_after, char_before}
use Rattle.site_text.specs.Fronts.{first_byte, run_len}
use Rattle.markdown_grammar.specs.Pieces.{run_at}
use Rattle.markdown_grammar.specs.Spans.{escape_at, piece_at, pointed_at, reference_at}
use Rattle.cm_spans.specs.Pieces.{bracket_or_text}

skip : (c k : ℕ) (x y : Taken) → (c ≡ k → ⊥) → cond (c == k) x y ≡ y
skip c k x y h = let other : (c == k) ≡ false = grind (arith, h) in ap (λ (b : Bool). cond b x y) other

skip_two : (c k l : ℕ) (x y : Taken) → (c ≡ k → ⊥) → (c ≡ l → ⊥) → cond ((c == k) || (c == l)) x y ≡ y
skip_two c k l x y h g = let other : ((c == k) || (c == l)) ≡ false = grind (arith, h, g) in ap (λ (b : Bool). cond b x y) other

pub others_at : (done t : List ℕ) → (first_byte t ≡ 92 → ⊥) → (first_byte t ≡ 38 → ⊥) → (first_byte t ≡ 96 → ⊥) → (first_byte t ≡ 60 → ⊥) → (first_byte t ≡ 42 → ⊥) → (first_byte t ≡ 95 → ⊥) → bracket_or_text t ≡ piece_at done t
others_at done t escape reference code point star underscore =
    let c = first_byte t in
    let n = run_len (λ d. d == c) t in
    let run : Taken = (run_at c n (char_before done) (char_after (drop n t)), n) in
    let r4 : Taken = cond ((c == 42) || (c == 95)) run (bracket_or_text t) in
    let r5 : Taken = cond (c == 60) (pointed_at t) r4 in
    let r6 : Taken = cond (c == 96) (code_at t) r5 in
    let r7 : Taken = cond (c == 38) (reference_at t) r6 in
    sym (skip c 92 (escape_at t) r7 escape ∙ skip c 38 (reference_at t) r6 reference ∙ skip c 96 (code_at t) r5 code ∙ skip c 60 (pointed_at t) r4 point ∙ skip_two c 42 95 run (bracket_or_text t) star underscore)
