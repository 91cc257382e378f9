-- Names, as loops find them.
use Rattle.std.proofs.Common.{◌≡◌, ℕ, zero, suc, ◌+◌, ◌-◌, ◌<◌, ◌≤◌, Bool, true, false, cond, eqb, List, [], ◌∷◌, ◌++◌, length, drop, get_or, slice_index, reverse, ltb, Option, Some, None, Result, Ok, Err, refl, sym, ap, subst, ◌∙◌, arith, append_assoc}
use Rattle.std.specs.List.{prefix_len, suffix_len}
use Rattle.std.specs.Str.{IsUtf8, IsCharBoundary}
use Rattle.std.proofs.lemmas.Bool.{ltb-true, ltb-false}
use Rattle.std.proofs.lemmas.Str.{IsCharBoundary-start, IsCharBoundary-end, IsCharBoundary-before_ascii}
use Rattle.std.proofs.lemmas.List.Sums.{prefix_len_passes, prefix_len_stops, prefix_len-le-length}
use Rattle.std.proofs.lemmas.List.{append-nil, drop_all, drop_more, length-reverse, get_or-reverse}
use Rattle.liquid_expr.proofs.TokenLaws.{cut_at, white_ascii, last_ascii}
use Rattle.liquid_grammar.specs.declared.tag.NamePlace.{NamePlace}
use Rattle.liquid_grammar.specs.declared.tag.NamePart.{NamePart}
use Rattle.liquid_grammar.specs.declared.piece.Piece.{Piece}
use Rattle.liquid_grammar.specs.Tags.{is_black, name_len, next_place, ends_at, part_of, inside, with_part, name_parts, parts_of_cut, read_name_parts}
use Rattle.liquid_grammar.specs.Pieces.{Cut, cut_is, cut_of, is_white, white_len}
use Rattle.liquid_expr.specs.declared.stop.ReadExprError.{ReadExprError}
use Rattle.liquid_expr.specs.declared.stop.ReadExprError.TheVariants as read_error
use Rattle.liquid_expr.specs.Readings.{ReadFails}
use Rattle.liquid_expr.specs.Token.{EndsAscii}
use Rattle.liquid_grammar.specs.Readings.{Refusal, syntax_fault, overflow}

module _ (p : NamePlace) where
  name_cons : (c : ℕ) (cs : List ℕ) (b : Bool) → ends_at p c ≡ b → name_len p (c ∷ cs) ≡ cond b 0 (suc (name_len (next_place p (c ∷ cs)) cs))
  unfolding name_len
  name_cons c cs b e = rw e refl

  pub name_on : (text : List ℕ) (at : ℕ) → at < length text → ends_at p (slice_index text at) ≡ false → at + 1 + name_len (next_place p (drop at text)) (drop (at + 1) text) ≡ at + name_len p (drop at text)
  name_on text at lt e =
      let parts : drop at text ≡ get_or text at 0 ∷ drop (at + 1) text = drop_more text at 0 lt in
      let one : name_len p (get_or text at 0 ∷ drop (at + 1) text) ≡ suc (name_len (next_place p (get_or text at 0 ∷ drop (at + 1) text)) (drop (at + 1) text)) = name_cons (get_or text at 0) (drop (at + 1) text) false e in
      let all : name_len p (drop at text) ≡ suc (name_len (next_place p (drop at text)) (drop (at + 1) text)) = ap (name_len p) parts ∙ one ∙ ap (λ xs. suc (name_len (next_place p xs) (drop (at + 1) text))) (sym parts) in
      omega (arith, all)

  pub name_stops : (text : List ℕ) (at : ℕ) → at < length text → ends_at p (slice_index text at) ≡ true → at + name_len p (drop at text) ≡ at
  name_stops text at lt e =
      let none : name_len p (drop at text) ≡ 0 = ap (name_len p) (drop_more text at 0 lt) ∙ name_cons (get_or text at 0) (drop (at + 1) text) true e in
      omega (arith, none)

  pub name_ends : (text : List ℕ) (at : ℕ) → length text ≤ at → at + name_len p (drop at text) ≡ at
  unfolding name_len
  name_ends text at le =
      let none : name_len p (drop at text) ≡ 0 = ap (name_len p) (drop_all at text le) in
      omega (arith, none)

-- ---- The parts of a name, one after another

abbrev pub with_parts : List NamePart → Result (List NamePart) Refusal → Result (List NamePart) Refusal
with_parts front (Ok ps) = Ok (front ++ ps)
with_parts front (Err e) = Err e

parts_joined : (front : List NamePart) (p : NamePart) (rest : Result (List NamePart) Refusal) → with_parts (front ++ p ∷ []) rest ≡ with_parts front (with_part (Ok p) rest)
parts_joined front p (Ok ps) = ap (λ (x : List NamePart). Ok x) (append_assoc front (p ∷ []) ps)
parts_joined front p (Err e) = refl

module _ (text : List ℕ) (unclosed : Option ℕ) (ps : List Piece) (all : Result (List NamePart) Refusal) (d : Piece) where
  parts_is : (i : ℕ) → i < length ps → name_parts text unclosed (drop i ps) ≡ with_part (part_of (get_or ps i d).kind (inside text (get_or ps i d).inner)) (name_parts text unclosed (drop (i + 1) ps))
  parts_is i lt = ap (name_parts text unclosed) (drop_more ps i d lt)

  pub part_on : (front : List NamePart) (i : ℕ) (p : NamePart) → i < length ps → part_of (get_or ps i d).kind (inside text (get_or ps i d).inner) ≡ Ok p → with_parts front (name_parts text unclosed (drop i ps)) ≡ all → with_parts (front ++ p ∷ []) (name_parts text unclosed (drop (i + 1) ps)) ≡ all
  part_on front i p lt e told =
      parts_joined front p (name_parts text unclosed (drop (i + 1) ps)) ∙ ap (λ r. with_parts front (with_part r (name_parts text unclosed (drop (i + 1) ps)))) (sym e) ∙ ap (with_parts front) (sym (parts_is i lt)) ∙ told

  pub part_fails : (front : List NamePart) (i : ℕ) (e : Refusal) → i < length ps → part_of (get_or ps i d).kind (inside text (get_or ps i d).inner) ≡ Err e → with_parts front (name_parts text unclosed (drop i ps)) ≡ all → all ≡ Err e
  part_fails front i e lt h told = sym told ∙ ap (with_parts front) (parts_is i lt ∙ ap (λ r. with_part r (name_parts text unclosed (drop (i + 1) ps))) h)

pub parts_end : (text : List ℕ) (ps : List Piece) (all : Result (List NamePart) Refusal) (front : List NamePart) (i : ℕ) → length ps ≤ i → with_parts front (name_parts text None (drop i ps)) ≡ all → all ≡ Ok front
parts_end text ps all front i le told = sym told ∙ ap (λ r. with_parts front (name_parts text None r)) (drop_all i ps le) ∙ ap (λ (x : List NamePart). Ok x) (append-nil front)

pub parts_open : (text : List ℕ) (line : ℕ) (ps : List Piece) (all : Result (List NamePart) Refusal) (front : List NamePart) (i : ℕ) → length ps ≤ i → with_parts front (name_parts text (Some line) (drop i ps)) ≡ all → all ≡ Err syntax_fault
parts_open text line ps all front i le told = sym told ∙ ap (λ r. with_parts front (name_parts text (Some line) r)) (drop_all i ps le)

pub some_text : (text : List ℕ) → eqb (length text) 0 ≡ false → read_name_parts text ≡ parts_of_cut text (cut_of text)
some_text text e = rw e refl

nothing_before : (r : Result (List NamePart) Refusal) → with_parts [] r ≡ r
nothing_before (Ok ps) = refl
nothing_before (Err e) = refl

pub parts_begin : (text : List ℕ) (ps : List Piece) (unclosed : Option ℕ) → cut_is ps unclosed ≡ cut_of text → with_parts [] (name_parts text (cut_of text).unclosed ps) ≡ parts_of_cut text (cut_of text)
parts_begin text ps unclosed e = nothing_before (name_parts text (cut_of text).unclosed ps) ∙ ap (λ (c : Cut). name_parts text (cut_of text).unclosed c.pieces) e

pub part_stops : (text : List ℕ) (unclosed : Option ℕ) (ps : List Piece) (all : Result (List NamePart) Refusal) (d : Piece) (front : List NamePart) (i : ℕ) (error : ReadExprError) (s : List ℕ) → s ≡ inside text (get_or ps i d).inner → i < length ps
    → ReadFails error (part_of (get_or ps i d).kind s) → with_parts front (name_parts text unclosed (drop i ps)) ≡ all → ReadFails error all
part_stops text unclosed ps all d front i read_error.Memory s is lt h told = tt
part_stops text unclosed ps all d front i read_error.Syntax s is lt h told = part_fails text unclosed ps all d front i syntax_fault lt (ap (part_of (get_or ps i d).kind) (sym is) ∙ h) told
part_stops text unclosed ps all d front i read_error.Overflow s is lt h told = part_fails text unclosed ps all d front i overflow lt (ap (part_of (get_or ps i d).kind) (sym is) ∙ h) told

-- ---- Cuts at white space

pub white_cut : (xs : List ℕ) (n : ℕ) → IsUtf8 xs → n ≡ white_len xs → IsCharBoundary xs n
white_cut xs zero u e = IsCharBoundary-start xs u
white_cut xs (suc n) u e =
    cut_at xs (suc n) u (omega arith) (omega (arith, prefix_len-le-length is_white xs))
    (subst (λ k. get_or xs (k - 1) 0 < 128) (sym e) (last_ascii is_white white_ascii xs (omega (arith, e))))

pub white_end_cut : (xs : List ℕ) (n : ℕ) → n ≡ suffix_len is_white xs → IsCharBoundary xs (length xs - n)
white_end_cut xs zero e = subst (IsCharBoundary xs) (let k : length xs ≡ length xs - 0 = omega arith in k) (IsCharBoundary-end xs)
white_end_cut xs (suc n) e =
    let le : suc n ≤ length xs = omega (arith, e, prefix_len-le-length is_white (reverse xs), length-reverse xs) in
    let white : is_white (get_or (reverse xs) n 0) ≡ true = prefix_len_passes is_white (reverse xs) n 0 (omega (arith, e)) in
    let back : get_or (reverse xs) n 0 ≡ get_or xs (length xs - suc n) 0 = get_or-reverse xs n 0 (omega arith) ∙ ap (λ i. get_or xs i 0) (let k : length xs - 1 - n ≡ length xs - suc n = omega arith in k) in
    IsCharBoundary-before_ascii xs (length xs - suc n) (omega arith) (subst (λ c. c < 128) back (white_ascii _ white))

white_if : (b : Bool) → cond b false true ≡ false → b ≡ true
white_if true e = refl
white_if false e = absurd cc

pub black_cut : (xs : List ℕ) (n : ℕ) → n ≡ prefix_len is_black xs → IsCharBoundary xs n
black_cut xs n e = at (ltb n (length xs)) refl where
  at : (b : Bool) → ltb n (length xs) ≡ b → IsCharBoundary xs n
  at true lt =
      let stop : is_black (get_or xs (prefix_len is_black xs) 0) ≡ false = prefix_len_stops is_black xs 0 (omega (arith, e, ltb-true n (length xs) lt)) in
      let white : is_white (get_or xs n 0) ≡ true = ap (λ k. is_white (get_or xs k 0)) e ∙ white_if (is_white (get_or xs (prefix_len is_black xs) 0)) stop in
      IsCharBoundary-before_ascii xs n (ltb-true n (length xs) lt) (white_ascii _ white)
  at false le = subst (IsCharBoundary xs) (let k : length xs ≡ n = omega (arith, e, ltb-false n (length xs) le, prefix_len-le-length is_black xs) in k) (IsCharBoundary-end xs)

-- a cut behind an ASCII byte, or at the start
pub ascii_cut : (xs bytes : List ℕ) (n : ℕ) → IsUtf8 xs → bytes ≡ xs → n ≤ length bytes → EndsAscii bytes n → IsCharBoundary xs n
ascii_cut xs bytes zero u e le ascii = IsCharBoundary-start xs u
ascii_cut xs bytes (suc n) u e le ascii = cut_at xs (suc n) u (omega arith) (omega (arith, ap length e)) (subst (λ ys. get_or ys (suc n - 1) 0 < 128) e (ascii (omega arith)))
