-- Slugs: no byte of one is `/`, `.` or a control character.
use Rattle.std.proofs.Common.{◌≡◌, ◌∙◌, refl, ap, sym, ℕ, zero, suc, ◌+◌, ◌/◌, ◌%◌, ◌<◌, ◌≤◌, Bool, true, false, cond, not, List, [], ◌∷◌, ◌++◌, nat_lt, ◌==◌, ◌&&◌, ◌||◌, arith, encode_utf8, chars}
use Rattle.std.specs.Char.{to_ascii_lowercase}
use Rattle.std.specs.List.{list_any}
use Rattle.std.proofs.Math.Utf8.{encode}
use Rattle.std.proofs.lemmas.Bool.Decides.{nat_tests}
use Rattle.std.proofs.lemmas.List.Folds.{list_any-append}
use Rattle.ucd_category.proofs.Computing.{ucd_category}
use Rattle.permalinks.specs.Slug.{is_kept, lower_bytes, slug, with_dash}
use Rattle.permalinks.proofs.SlugWalk.{left, tie}
use Rattle.site_base.specs.Path.{is_control}

-- what no segment of a path may have, or what is special in one
abbrev pub is_odd : ℕ → Bool
is_odd b = (b == 47) || ((b == 46) || is_control b)

abbrev pub has_odd : List ℕ → Bool
has_odd text = list_any is_odd text

abbrev bytes_of : ℕ → List ℕ
bytes_of c = encode_utf8 (to_ascii_lowercase c)

all_below : (ℕ → Bool) → ℕ → Bool
all_below f zero = true
all_below f (suc n) = f n && all_below f n

both : (a b : Bool) → (a && b) ≡ true → (a ≡ true) × (b ≡ true)
both true b e = (refl, e)
both false b e = absurd (cc (e))

below : (f : ℕ → Bool) (n c : ℕ) → all_below f n ≡ true → c < n → f c ≡ true
unfolding all_below
below f zero c e lt = absurd (omega (arith, lt))
below f (suc n) c e lt = by (c == n) refl (below f n c (both (f n) (all_below f n) e).1)
  where
    by : (b : Bool) → (c == n) ≡ b → (c < n → f c ≡ true) → f c ≡ true
    by true p rest = let same : c ≡ n = grind (arith, nat_tests, p) in ap f same ∙ (both (f n) (all_below f n) e).0
    by false p rest = rest (grind (arith, nat_tests, p, lt))

fine : ℕ → Bool
fine c = not (is_kept c && has_odd (bytes_of c))

low_fine : all_below fine 128 ≡ true
unfolding ucd_category encode all_below fine
low_fine = refl

odd_high : (b : ℕ) → 128 ≤ b → is_odd b ≡ false
odd_high b le = grind (arith, nat_tests, le)

high_bytes : (c : ℕ) → 128 ≤ c → has_odd (encode_utf8 c) ≡ false
unfolding encode
high_bytes c le = by (nat_lt c 128) (nat_lt c 2048) (nat_lt c 65536) (grind (arith, nat_tests, le))
  where
    by : (x y z : Bool) → x ≡ false → has_odd (cond x (c ∷ []) (cond y ((192 + c / 64) ∷ (128 + c % 64) ∷ []) (cond z ((224 + c / 4096) ∷ (128 + c / 64 % 64) ∷ (128 + c % 64) ∷ []) ((240 + c / 262144) ∷ (128 + c / 4096 % 64) ∷ (128 + c / 64 % 64) ∷ (128 + c % 64) ∷ [])))) ≡ false
    by true y z e = absurd (cc (e))
    by false true z e = rw (odd_high (192 + c / 64) (omega arith), odd_high (128 + c % 64) (omega arith)) refl
    by false false true e = rw (odd_high (224 + c / 4096) (omega arith), odd_high (128 + c / 64 % 64) (omega arith), odd_high (128 + c % 64) (omega arith)) refl
    by false false false e = rw (odd_high (240 + c / 262144) (omega arith), odd_high (128 + c / 4096 % 64) (omega arith), odd_high (128 + c / 64 % 64) (omega arith), odd_high (128 + c % 64) (omega arith)) refl

same_high : (c : ℕ) → 128 ≤ c → to_ascii_lowercase c ≡ c
same_high c le = by (nat_lt c 65) (nat_lt c 91) (grind (arith, nat_tests, le)) (grind (arith, nat_tests, le))
  where
    by : (x y : Bool) → x ≡ false → y ≡ false → cond x c (cond y (c + 32) c) ≡ c
    by true y e f = refl
    by false true e f = absurd (cc (f))
    by false false e f = refl

-- of a character that is kept
kept_bytes : (c : ℕ) → is_kept c ≡ true → has_odd (bytes_of c) ≡ false
unfolding fine
kept_bytes c kept = by (nat_lt c 128) refl
  where
    by : (b : Bool) → nat_lt c 128 ≡ b → has_odd (bytes_of c) ≡ false
    by true e = by_two (has_odd (bytes_of c)) refl (below fine 128 c low_fine (grind (arith, nat_tests, e)))
      where
        by_two : (o : Bool) → has_odd (bytes_of c) ≡ o → fine c ≡ true → has_odd (bytes_of c) ≡ false
        by_two false p f = p
        by_two true p f = let q : false ≡ true = rw (kept, p) at f in absurd (cc (q))
    by false e = let le : 128 ≤ c = grind (arith, nat_tests, e) in ap (λ d. has_odd (encode_utf8 d)) (same_high c le) ∙ high_bytes c le

neither : (p q : Bool) → p ≡ false → q ≡ false → (p || q) ≡ false
neither false q e f = f
neither true q e f = e

joined_clean : (xs ys : List ℕ) → has_odd xs ≡ false → has_odd ys ≡ false → has_odd (xs ++ ys) ≡ false
joined_clean xs ys e f = list_any-append is_odd xs ys ∙ neither (has_odd xs) (has_odd ys) e f

dash_clean : has_odd (bytes_of 45) ≡ false
unfolding encode
dash_clean = refl

dashed_clean : (gap : Bool) (c : ℕ) (cs : List ℕ) → has_odd (bytes_of c) ≡ false → has_odd (lower_bytes cs) ≡ false → has_odd (lower_bytes (with_dash gap (c ∷ cs))) ≡ false
dashed_clean true c cs e f = joined_clean (bytes_of 45) (lower_bytes (c ∷ cs)) dash_clean (joined_clean (bytes_of c) (lower_bytes cs) e f)
dashed_clean false c cs e f = joined_clean (bytes_of c) (lower_bytes cs) e f

left_clean : (begun gap : Bool) (cs : List ℕ) → has_odd (lower_bytes (left begun gap cs)) ≡ false
left_clean begun gap [] = refl
left_clean begun gap (c ∷ cs) = by (is_kept c) refl (left_clean true false cs) (left_clean begun begun cs)
  where
    by : (b : Bool) → is_kept c ≡ b → has_odd (lower_bytes (left true false cs)) ≡ false → has_odd (lower_bytes (left begun begun cs)) ≡ false → has_odd (lower_bytes (cond b (with_dash gap (c ∷ left true false cs)) (left begun begun cs))) ≡ false
    by true e f g = dashed_clean gap c (left true false cs) (kept_bytes c e) f
    by false e f g = g

pub slug_clean : (text : List ℕ) → has_odd (slug text) ≡ false
slug_clean text = ap (λ cs. has_odd (lower_bytes cs)) (sym ((tie (chars text)).before)) ∙ left_clean false false (chars text)
