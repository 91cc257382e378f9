-- The end of a comment.
use Rattle.std.proofs.Common.{◌≡◌, ◌∙◌, ℕ, suc, ◌+◌, ◌<◌, ◌==◌, Bool, IfSome, IsUtf8, List, None, Option, Some, [], ◌∷◌, ap, arith, cond, drop, false, get_or, length, refl, subst, sym, true}
use Rattle.std.specs.Str.{IsCharBoundary, is_utf8}
use Rattle.std.proofs.lemmas.List.{drop_more}
use Rattle.std.proofs.lemmas.Str.{IsCharBoundary-after_ascii, IsUtf8-from_is_utf8}
use Rattle.site_text.specs.Fronts.{begins_with}
use Rattle.link_check.specs.Links.{comment_end, up_to}
use Rattle.link_check.specs.Tags.{plus}

plus_plus : (i : ℕ) (o : Option ℕ) → plus (i + 1) o ≡ plus i (plus 1 o)
plus_plus i (Some k) = ap (λ (n : ℕ). Some n) (omega arith)
plus_plus i None = refl

-- a place further, where the mark does not stand
pub up_to_more : (mark t rest : List ℕ) (i : ℕ) (whole : Option ℕ) → i < length t → rest ≡ drop i t → begins_with mark rest ≡ false → plus i (up_to mark (drop i t)) ≡ whole → plus (i + 1) (up_to mark (drop (i + 1) t)) ≡ whole
up_to_more mark t rest i whole lt d h e =
    let opened = drop_more t i 0 lt in
    let test : begins_with mark (get_or t i 0 ∷ drop (i + 1) t) ≡ false = ap (begins_with mark) (sym opened ∙ sym d) ∙ h in
    plus_plus i (up_to mark (drop (i + 1) t))
    ∙ sym (ap (λ (u : List ℕ). plus i (up_to mark u)) opened ∙ ap (λ (b : Bool). plus i (cond b (Some (length mark)) (plus 1 (up_to mark (drop (i + 1) t))))) test) ∙ e

-- the byte before what follows a comment
pub record Last (t : List ℕ) (n : ℕ) : Type 0 where
  pub place : ℕ
  pub next : n ≡ place + 1
  pub within : place < length t
  pub sign : get_or t place 0 ≡ 62

same_byte : (a b : ℕ) (rest : Bool) → elim (a == b) as (λ x. Bool) [ true ↦ rest | false ↦ false ] ≡ true → (a ≡ b) × (rest ≡ true)
same_byte a b rest e = go (a == b) refl e where
  go : (x : Bool) → (a == b) ≡ x → elim x as (λ y. Bool) [ true ↦ rest | false ↦ false ] ≡ true → (a ≡ b) × (rest ≡ true)
  go true f h = (grind (arith, f), h)
  go false f h = absurd cc

some_false : false ≡ true → ⊥
some_false e = absurd cc

ends_here : (t : List ℕ) → begins_with comment_end t ≡ true → Last t 3
ends_here [] e = absurd cc
ends_here (a ∷ []) e = absurd (some_false (same_byte 45 a false e).1)
ends_here (a ∷ b ∷ []) e = absurd (some_false (same_byte 45 b false (same_byte 45 a _ e).1).1)
ends_here (a ∷ b ∷ c ∷ cs) e =
    let last = same_byte 62 c true (same_byte 45 b _ (same_byte 45 a _ e).1).1 in
    record { place = 2; next = refl; within = omega arith; sign = sym last.0 }

one_on : (c : ℕ) (cs : List ℕ) (m n : ℕ) → 1 + m ≡ n → Last cs m → Last (c ∷ cs) n
one_on c cs m n e l = record { place = suc l.place; next = omega (arith, e, l.next); within = omega (arith, l.within); sign = l.sign }

plus_is : (n : ℕ) (o : Option ℕ) → plus 1 o ≡ Some n → (m : ℕ) × (o ≡ Some m) × (1 + m ≡ n)
plus_is n None e = absurd cc
plus_is n (Some m) e = (m, refl, some_same (1 + m) n e) where
  some_same : (a b : ℕ) → Some a ≡ Some b → a ≡ b
  some_same a b h = cc

pub comment_last : (t : List ℕ) (n : ℕ) → up_to comment_end t ≡ Some n → Last t n
comment_last [] n e = absurd cc
comment_last (c ∷ cs) n e = go (begins_with comment_end (c ∷ cs)) refl (comment_last cs) e where
  go : (b : Bool) → begins_with comment_end (c ∷ cs) ≡ b → ((m : ℕ) → up_to comment_end cs ≡ Some m → Last cs m) → cond b (Some 3) (plus 1 (up_to comment_end cs)) ≡ Some n → Last (c ∷ cs) n
  go true f further h = subst (Last (c ∷ cs)) (three n h) (ends_here (c ∷ cs) f) where
    three : (n : ℕ) → Some 3 ≡ Some n → 3 ≡ n
    three n h = cc
  go false f further h = let m = plus_is n (up_to comment_end cs) h in one_on c cs m.0 n m.2 (further m.0 m.1)

-- where a comment ends a text may be cut
pub comment_cut : (t : List ℕ) (o : Option ℕ) → IsUtf8 t → o ≡ up_to comment_end t → IfSome o (IsCharBoundary t)
comment_cut t None u e = tt
comment_cut t (Some n) u e =
    let last = comment_last t n (sym e) in
    subst (IsCharBoundary t) (sym last.next) (IsCharBoundary-after_ascii t last.place u last.within (omega (arith, last.sign)))

-- ---- what is not UTF-8

pub not_utf8 : (s : List ℕ) → (IsUtf8 s → ⊥) → is_utf8 s ≡ false
not_utf8 s none = at (is_utf8 s) (IsUtf8-from_is_utf8 s) where
  at : (b : Bool) → (b ≡ true → IsUtf8 s) → b ≡ false
  at true h = absurd (none (h refl))
  at false h = refl
