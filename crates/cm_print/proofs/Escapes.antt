-- Text with references, one run of bytes that stand for themselves after another.
use Rattle.std.proofs.Common.{◌≡◌, ◌∙◌, ap, sym, refl, ℕ, suc, ◌+◌, ◌-◌, ◌<◌, Bool, true, false, cond, not, ◌||◌, ◌==◌, List, [], ◌∷◌, ◌++◌, append_assoc, append-nil, length, take, drop, get_or, arith, length-append, add-one, drop-cons, drop_of_length-le}
use Rattle.std.specs.Prelude.{if◌then◌else◌}
use Rattle.site_text.specs.Bytes.{line_feed, space}
use Rattle.site_text.specs.Fronts.{run_len}
use Rattle.markdown_grammar.specs.CodeSpans.{spaced}
use Rattle.markdown_grammar.specs.Escaping.{escaped}
use Rattle.site_text.specs.Urls.{escaped_byte}
use Rattle.cm_print.specs.Escapes.{escape_byte, escaped_as, is_plain, turns}
use Rattle.cm_print.specs.declared.escape.Escape.{Escape}
use Rattle.cm_print.specs.declared.escape.Escape.TheVariants as escape

plain_or : (t a b c d : Bool) (s x y z w v : List ℕ) → not (t || (a || b || c || d)) ≡ true → cond t s (cond a x (cond b y (cond c z (cond d w v)))) ≡ v
plain_or true a b c d s x y z w v h = absurd cc
plain_or false true b c d s x y z w v h = absurd cc
plain_or false false true c d s x y z w v h = absurd cc
plain_or false false false true d s x y z w v h = absurd cc
plain_or false false false false true s x y z w v h = absurd cc
plain_or false false false false false s x y z w v h = refl

plain_byte : (e : Escape) (c : ℕ) → is_plain e c ≡ true → escape_byte e c ≡ c ∷ []
plain_byte e c h = plain_or (turns e c) (c == 38) (c == 60) (c == 62) (c == 34) _ _ _ _ _ _ h

-- a run stands for itself
pub escaped_run : (e : Escape) (t : List ℕ) → escaped_as e t ≡ take (run_len (is_plain e) t) t ++ escaped_as e (drop (run_len (is_plain e) t) t)
escaped_run e [] = refl
escaped_run e (c ∷ cs) = go (is_plain e c) refl (escaped_run e cs) where
  run : Bool → ℕ
  run b = elim b as (λ x. ℕ) [ true ↦ suc (run_len (is_plain e) cs) | false ↦ 0 ]

  go : (b : Bool) → is_plain e c ≡ b → escaped_as e cs ≡ take (run_len (is_plain e) cs) cs ++ escaped_as e (drop (run_len (is_plain e) cs) cs) → escaped_as e (c ∷ cs) ≡ take (run b) (c ∷ cs) ++ escaped_as e (drop (run b) (c ∷ cs))
  go true is h = ap (λ (t : List ℕ). t ++ escaped_as e cs) (plain_byte e c is) ∙ ap (λ (t : List ℕ). c ∷ t) h
  go false is h = refl

-- and the byte behind it as a reference
escaped_at : (e : Escape) (t : List ℕ) (n : ℕ) → n < length t → escaped_as e (drop n t) ≡ escape_byte e (get_or t n 0) ++ escaped_as e (drop (n + 1) t)
escaped_at e t n lt = rw (add-one) (ap (escaped_as e) (drop-cons t n 0 lt))

front_of : (n : ℕ) (t : List ℕ) → take (n - 0) t ≡ take n t
front_of n t = let e : n - 0 ≡ n = omega arith in ap (λ k. take k t) e

whole_of : (e : Escape) (t : List ℕ) (n : ℕ) → n ≡ run_len (is_plain e) t → escaped_as e t ≡ take (n - 0) t ++ escaped_as e (drop n t)
whole_of e t n is = escaped_run e t ∙ ap (λ k. take k t ++ escaped_as e (drop k t)) (sym is) ∙ ap (λ f. f ++ escaped_as e (drop n t)) (sym (front_of n t))

-- where a run does not fit, the whole does not
pub run_refused : (e : Escape) (w rest whole : List ℕ) (most n : ℕ) → n ≡ run_len (is_plain e) rest → w ++ escaped_as e rest ≡ whole → most < length (w ++ take (n - 0) rest) → most < length whole
run_refused e w rest whole most n is same over =
    omega (arith, over, ap length same, ap length (whole_of e rest n is), length-append w (escaped_as e rest), length-append w (take (n - 0) rest), length-append (take (n - 0) rest) (escaped_as e (drop n rest)))

-- the run is all that is left
pub run_ends : (e : Escape) (w now rest whole : List ℕ) (n : ℕ) → n ≡ run_len (is_plain e) rest → n ≡ length rest → w ++ escaped_as e rest ≡ whole → now ≡ w ++ take (n - 0) rest → now ≡ whole
run_ends e w now rest whole n run end same is =
    let none : drop n rest ≡ [] = drop_of_length-le rest (omega (arith, end)) in
    is ∙ ap (λ f. w ++ f) (sym (whole_of e rest n run ∙ ap (λ t. take (n - 0) rest ++ escaped_as e t) none ∙ append-nil (take (n - 0) rest))) ∙ same

-- a run and a reference
pub step_same : (e : Escape) (w mid now rest whole reference : List ℕ) (n : ℕ) → n ≡ run_len (is_plain e) rest → n < length rest → reference ≡ escape_byte e (get_or rest n 0) → w ++ escaped_as e rest ≡ whole
    → mid ≡ w ++ take (n - 0) rest → now ≡ mid ++ reference → now ++ escaped_as e (drop (n + 1) rest) ≡ whole
step_same e w mid now rest whole reference n run lt r same m is =
    let tail = escaped_as e (drop (n + 1) rest) in
    ap (λ t. t ++ tail) (is ∙ ap (λ t. t ++ reference) m) ∙ append_assoc (w ++ take (n - 0) rest) reference tail ∙ append_assoc w (take (n - 0) rest) (reference ++ tail)
    ∙ ap (λ t. w ++ (take (n - 0) rest ++ t)) (ap (λ t. t ++ tail) r ∙ sym (escaped_at e rest n lt)) ∙ ap (λ t. w ++ t) (sym (whole_of e rest n run)) ∙ same

pub reference_refused : (e : Escape) (w mid rest whole reference : List ℕ) (most n : ℕ) → n ≡ run_len (is_plain e) rest → n < length rest → reference ≡ escape_byte e (get_or rest n 0) → w ++ escaped_as e rest ≡ whole
    → mid ≡ w ++ take (n - 0) rest → most < length (mid ++ reference) → most < length whole
reference_refused e w mid rest whole reference most n run lt r same m over =
    let is = step_same e w mid (mid ++ reference) rest whole reference n run lt r same m refl in
    omega (arith, over, ap length is, length-append (mid ++ reference) (escaped_as e (drop (n + 1) rest)))

small_or : (c : ℕ) (a b d e f : Bool) → (c == 10) ≡ f → (c == 38) ≡ a → (c == 60) ≡ b → (c == 62) ≡ d → (c == 34) ≡ e → not (f || (a || b || d || e)) ≡ false → c < 128
small_or c a b d e true o p q r s h = grind arith
small_or c true b d e false o p q r s h = grind arith
small_or c false true d e false o p q r s h = grind arith
small_or c false false true e false o p q r s h = grind arith
small_or c false false false true false o p q r s h = grind arith
small_or c false false false false false o p q r s h = absurd cc

-- a byte that does not stand for itself is of ASCII
pub small_byte : (e : Escape) (c : ℕ) → is_plain e c ≡ false → c < 128
small_byte escape.Text c h = small_or c _ _ _ _ _ refl refl refl refl refl (later (c == 10) _ h)
  where
    later : (f g : Bool) → not g ≡ false → not (f || g) ≡ false
    later true g h = refl
    later false g h = h
small_byte escape.Code c h = small_or c _ _ _ _ _ refl refl refl refl refl h

-- the text of code with its line ends turned
pub code_is : (t : List ℕ) → escaped_as escape.Code t ≡ escaped (spaced t)
code_is [] = refl
code_is (c ∷ cs) = one (c == line_feed) ∙ ap (λ t. escaped_byte (if c == line_feed then space else c) ++ t) (code_is cs)
  where
    one : (b : Bool) → (if b then space ∷ [] else escaped_byte c) ++ escaped_as escape.Code cs ≡ escaped_byte (if b then space else c) ++ escaped_as escape.Code cs
    one true = refl
    one false = refl
