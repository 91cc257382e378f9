-- The walks over the value of a link.
use Rattle.std.proofs.Common.{◌≡◌, ◌∙◌, ℕ, ◌+◌, ◌<◌, ◌==◌, ◌||◌, Bool, List, None, Option, Some, [], ◌∷◌, ◌++◌, ap, append_assoc, arith, codes, cond, drop, false, get_or, length, length-drop, option_map, refl, sym, true}
use Rattle.std.specs.List.{list_any}
use Rattle.std.proofs.lemmas.List.{drop-drop, drop_more}
use Rattle.site_base.specs.Recursion.{Falls, down_is}
use Rattle.site_text.specs.Fronts.{begins_with}
use Rattle.link_check.specs.Targets.{decoded, decoded_step, first_len, hex_pair, onto, plain, plain_step}

-- ---- references to `&`

some_len : (t : List ℕ) → 0 < first_len t
some_len t = go (begins_with (codes "&amp;") t) where
  go : (b : Bool) → 0 < cond b 5 1
  go true = omega arith
  go false = omega arith

plain_falls : Falls length [] plain_step
plain_falls f g [] h = refl
plain_falls f g (c ∷ cs) h = ap (λ (t : List ℕ). c ∷ t) (h (drop (first_len (c ∷ cs)) (c ∷ cs)) (omega (arith, some_len (c ∷ cs), length-drop (first_len (c ∷ cs)) (c ∷ cs))))

pub plain_is : (t : List ℕ) → plain t ≡ plain_step plain t
unfolding plain
plain_is t = down_is length [] plain_step plain_falls t

-- a byte more
pub plain_more : (t rest : List ℕ) (i n : ℕ) → i < length t → rest ≡ drop i t → n ≡ first_len rest → plain (drop i t) ≡ get_or t i 0 ∷ plain (drop (i + n) t)
plain_more t rest i n lt r e =
    let c = get_or t i 0 in let cs = drop (i + 1) t in
    let opened : drop i t ≡ c ∷ cs = drop_more t i 0 lt in
    let len : first_len (c ∷ cs) ≡ n = ap first_len (sym opened ∙ sym r) ∙ sym e in
    ap plain opened ∙ plain_is (c ∷ cs) ∙ ap (λ (u : List ℕ). c ∷ plain (drop (first_len (c ∷ cs)) u)) (sym opened) ∙ ap (λ (k : ℕ). c ∷ plain (drop k (drop i t))) len ∙ ap (λ (u : List ℕ). c ∷ plain u) (drop-drop n i t)

pub plain_end : plain [] ≡ []
plain_end = plain_is []

-- ---- escapes

-- what a step over `%` makes of its digits
abbrev pub escaped : (List ℕ → Option (List ℕ)) → List ℕ → Option ℕ → Option (List ℕ)
escaped f cs o = elim o as (λ x. Option (List ℕ)) [ Some byte ↦ onto byte (f (drop 2 cs)) | None ↦ None ]

decoded_falls : Falls length None decoded_step
decoded_falls f g [] h = refl
decoded_falls f g (c ∷ cs) h = go (c == 37) (hex_pair cs) where
  go : (b : Bool) (o : Option ℕ) → cond b (escaped f cs o) (onto c (f cs)) ≡ cond b (escaped g cs o) (onto c (g cs))
  go true None = refl
  go true (Some byte) = ap (onto byte) (h (drop 2 cs) (omega (arith, length-drop 2 cs)))
  go false o = ap (onto c) (h cs (omega arith))

pub decoded_is : (t : List ℕ) → decoded t ≡ decoded_step decoded t
unfolding decoded
decoded_is t = down_is length None decoded_step decoded_falls t

pub decoded_end : decoded [] ≡ Some []
decoded_end = decoded_is []

pub other_spelled : (t : List ℕ) (c : ℕ) → 0 < length t → c ≡ get_or t 0 0 → (c == 37) ≡ false → decoded t ≡ onto c (decoded (drop 1 t))
other_spelled [] c lt e h = absurd (omega (arith, lt))
other_spelled (d ∷ cs) c lt e h =
    let other : (d == 37) ≡ false = ap (λ (x : ℕ). x == 37) (sym e) ∙ h in
    decoded_is (d ∷ cs) ∙ ap (λ (b : Bool). cond b (escaped decoded cs (hex_pair cs)) (onto d (decoded cs))) other ∙ ap (λ (x : ℕ). onto x (decoded cs)) (sym e)

pub escape_spelled : (t rest : List ℕ) (o : Option ℕ) → 0 < length t → get_or t 0 0 ≡ 37 → rest ≡ drop 1 t → o ≡ hex_pair rest → decoded t ≡ escaped decoded (drop 1 t) o
escape_spelled [] rest o lt e r h = absurd (omega (arith, lt))
escape_spelled (d ∷ cs) rest o lt e r h =
    let sign : (d == 37) ≡ true = grind (arith, e) in
    decoded_is (d ∷ cs) ∙ ap (λ (b : Bool). cond b (escaped decoded cs (hex_pair cs)) (onto d (decoded cs))) sign ∙ ap (escaped decoded cs) (ap hex_pair (sym r) ∙ sym h)

pub pair_spelled : (t rest : List ℕ) (byte : ℕ) → 0 < length t → get_or t 0 0 ≡ 37 → rest ≡ drop 1 t → Some byte ≡ hex_pair rest → decoded t ≡ onto byte (decoded (drop 3 t))
pair_spelled t rest byte lt e r h = escape_spelled t rest (Some byte) lt e r h ∙ ap (λ (u : List ℕ). onto byte (decoded u)) (drop-drop 2 1 t)

pub none_spelled : (t rest : List ℕ) → 0 < length t → get_or t 0 0 ≡ 37 → rest ≡ drop 1 t → None ≡ hex_pair rest → decoded t ≡ None
none_spelled t rest lt e r h = escape_spelled t rest None lt e r h

-- what was decoded, with what is left
abbrev pub ahead : List ℕ → Option (List ℕ) → Option (List ℕ)
ahead made left = option_map (λ cs. made ++ cs) left

pub ahead_more : (made : List ℕ) (c : ℕ) (left : Option (List ℕ)) → ahead (made ++ c ∷ []) left ≡ ahead made (onto c left)
ahead_more made c None = refl
ahead_more made c (Some cs) = ap (λ (t : List ℕ). Some t) (append_assoc made (c ∷ []) cs)

pub ahead_nothing : (left : Option (List ℕ)) → ahead [] left ≡ left
ahead_nothing None = refl
ahead_nothing (Some cs) = refl

-- ---- a value without `&`

pub none_plain : (t : List ℕ) → list_any (λ y. y == 38) t ≡ false → plain t ≡ t
none_plain [] h = plain_end
none_plain (c ∷ cs) h = go (c == 38) refl h (none_plain cs) where
  go : (b : Bool) → (c == 38) ≡ b → (b || list_any (λ y. y == 38) cs) ≡ false → (list_any (λ y. y == 38) cs ≡ false → plain cs ≡ cs) → plain (c ∷ cs) ≡ c ∷ cs
  go true e f further = absurd cc
  go false e f further =
      let other : (38 == c) ≡ false = grind (arith, e) in
      let one : first_len (c ∷ cs) ≡ 1 = ap (λ (x : Bool). cond (elim x as (λ y. Bool) [ true ↦ begins_with (codes "amp;") cs | false ↦ false ]) 5 1) other in
      plain_is (c ∷ cs) ∙ ap (λ (n : ℕ). c ∷ plain (drop n (c ∷ cs))) one ∙ ap (λ (t : List ℕ). c ∷ t) (further f)

-- ---- a value without `%`

pub none_decoded : (t : List ℕ) → list_any (λ y. y == 37) t ≡ false → decoded t ≡ Some t
none_decoded [] h = decoded_end
none_decoded (c ∷ cs) h = go (c == 37) refl h (none_decoded cs) where
  go : (b : Bool) → (c == 37) ≡ b → (b || list_any (λ y. y == 37) cs) ≡ false → (list_any (λ y. y == 37) cs ≡ false → decoded cs ≡ Some cs) → decoded (c ∷ cs) ≡ Some (c ∷ cs)
  go true e f further = absurd cc
  go false e f further = decoded_is (c ∷ cs) ∙ ap (λ (b : Bool). cond b (escaped decoded cs (hex_pair cs)) (onto c (decoded cs))) e ∙ ap (onto c) (further f)
