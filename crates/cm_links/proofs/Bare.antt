-- A bare destination, byte by byte.
use Rattle.std.proofs.lemmas.List.{drop_more}
use Rattle.std.proofs.Common.{drop, get_or, length, ◌<◌, ap, sym, ◌∙◌, arith, ◌≡◌, ℕ, suc, ◌+◌, ◌-◌, Bool, true, false, cond, ◌&&◌, ◌||◌, List, ◌∷◌, Option, Some, None, refl, ◌==◌, nat_lt}
use Rattle.site_text.specs.Bytes.{is_control, is_punct}
use Rattle.markdown_grammar.specs.Readers.{plus}
use Rattle.markdown_grammar.specs.Destinations.{bare_len}
use Rattle.cm_links.specs.declared.destinations.Next.TheVariants.{Go, Stop, Refuse}
use Rattle.cm_links.specs.Bare.{bare_next, going}

pub bare_step : (escaped : Bool) (depth c : ℕ) (cs : List ℕ) → bare_len escaped depth (c ∷ cs) ≡ going (bare_next escaped depth c) cs
bare_step escaped depth c cs = go (escaped && is_punct c) ((c == 32) || is_control c) (c == 40) (c == 41) (depth == 0) (nat_lt depth 32) where
  go : (a b d e z w : Bool)
      → elim a as (λ x. Option ℕ) [ true ↦ plus 1 (bare_len false depth cs) | false ↦ elim b as (λ x. Option ℕ) [ true ↦ cond z (Some 0) None | false ↦ elim d as (λ x. Option ℕ) [ true ↦ elim w as (λ x. Option ℕ) [ true ↦ plus 1 (bare_len false (suc depth) cs) | false ↦ None ] | false ↦ elim e as (λ x. Option ℕ) [ true ↦ elim z as (λ x. Option ℕ) [ true ↦ Some 0 | false ↦ plus 1 (bare_len false (depth - 1) cs) ] | false ↦ plus 1 (bare_len (c == 92) depth cs) ] ] ] ]
      ≡ going (cond a (Go false depth) (cond b (cond z Stop Refuse) (cond d (cond w (Go false (suc depth)) Refuse) (cond e (cond z Stop (Go false (depth - 1))) (Go (c == 92) depth))))) cs
  go true b d e z w = refl
  go false true d e true w = refl
  go false true d e false w = refl
  go false false true e z true = refl
  go false false true e z false = refl
  go false false false true true w = refl
  go false false false true false w = refl
  go false false false false z w = refl

-- the loop's step
pub bare_more : (text : List ℕ) (i : ℕ) (escaped : Bool) (depth : ℕ) (o : Option ℕ) → i < length text → plus i (bare_len escaped depth (drop i text)) ≡ o → plus i (going (bare_next escaped depth (get_or text i 0)) (drop (i + 1) text)) ≡ o
bare_more text i escaped depth o lt e =
    ap (λ (x : Option ℕ). plus i x) (sym (ap (bare_len escaped depth) (drop_more text i 0 lt) ∙ bare_step escaped depth (get_or text i 0) (drop (i + 1) text))) ∙ e

pub plus_plus : (i : ℕ) (o : Option ℕ) → plus i (plus 1 o) ≡ plus (i + 1) o
plus_plus i (Some k) = ap (λ (n : ℕ). Some n) (omega arith)
plus_plus i None = refl
