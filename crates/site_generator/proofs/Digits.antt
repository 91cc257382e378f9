-- Paths of posts: they are paths, they have a dot, and no `/` stands behind it.
use Rattle.std.proofs.Common.{◌≡◌, ℕ, ◌+◌, ◌%◌, ◌^◌, ◌<◌, ◌≤◌, Bool, true, false, cond, List, [], ◌∷◌, ◌++◌, length, refl, ap, sym, ◌∙◌, arith, None, codes, length-append}
use Rattle.std.specs.Prelude.{◌||◌, ◌==◌, nat_lt}
use Rattle.std.specs.Fmt.{decimal}
use Rattle.std.specs.List.{list_any, onto_first, slice_split}
use Rattle.std.proofs.lemmas.Bool.{and_parts, eqb-true, le-ltb, ne_eqb}
use Rattle.std.proofs.lemmas.Fmt.{decimal_by_steps, length-decimal-le}
use Rattle.std.proofs.lemmas.List.Folds.{list_any-append}
use Rattle.site_base.specs.Clash.{is_below}
use Rattle.site_base.specs.Path.{IsSitePath, has_control, has_dots, has_empty_segment, is_absolute, is_control, is_dots, path_refusal, segments}
use Rattle.site_generator.specs.Generator.{post_path}

abbrev Digits : List ℕ → Type 0
Digits [] = Unit {0}
Digits (c ∷ cs) = (47 < c) × ((c < 58) × Digits cs)

digits-append : (xs ys : List ℕ) → Digits xs → Digits ys → Digits (xs ++ ys)
digits-append [] ys h k = k
digits-append (x ∷ xs) ys h k = (h.0, (h.1.0, digits-append xs ys h.1.1 k))

digits-decimal : (n : ℕ) → n < 2 ^ 64 → Digits (decimal n)
digits-decimal = decimal_by_steps (λ n ds. Digits ds) (λ n lt. (omega arith, (omega arith, tt))) (λ n ds ge h. digits-append ds ((48 + n % 10) ∷ []) h (omega arith, (omega arith, tt)))

abbrev is_slash : ℕ → Bool
is_slash b = b == 47

abbrev is_dot : ℕ → Bool
is_dot b = b == 46

-- what stands behind the letters of a post's name
abbrev ending : List ℕ → List ℕ
ending ds = ds ++ codes ".md"

no_slash : (c : ℕ) → 47 < c → (c == 47) ≡ false
no_slash c lt = ne_eqb c 47 (λ e. omega (arith, e, lt))

no_dot : (c : ℕ) → 47 < c → (c == 46) ≡ false
no_dot c lt = ne_eqb c 46 (λ e. omega (arith, e, lt))

split-ending : (ds : List ℕ) → Digits ds → slice_split is_slash (ending ds) ≡ ending ds ∷ []
split-ending [] h = refl
split-ending (c ∷ cs) h =
    ap (λ (b : Bool). cond b ([] ∷ slice_split is_slash (ending cs)) (onto_first c (slice_split is_slash (ending cs)))) (no_slash c h.0)
    ∙ ap (onto_first c) (split-ending cs h.1.1)

control-ending : (ds : List ℕ) → Digits ds → list_any is_control (ending ds) ≡ false
control-ending [] h = refl
control-ending (c ∷ cs) h =
    ap (λ (b : Bool). (b || (c == 127)) || list_any is_control (ending cs)) (le-ltb c 32 (omega (arith, h.0)))
    ∙ ap (λ (b : Bool). b || list_any is_control (ending cs)) (ne_eqb c 127 (λ e. omega (arith, e, h.1.0)))
    ∙ control-ending cs h.1.1

-- the parts of a text that is put before another, whose parts these are
abbrev parts_before : List ℕ → List (List ℕ) → List (List ℕ)
parts_before [] parts = parts
parts_before (c ∷ cs) parts = cond (is_slash c) ([] ∷ parts_before cs parts) (onto_first c (parts_before cs parts))

not_empty : (c : ℕ) (cs : List ℕ) → (length (c ∷ cs) == 0) ≡ false
not_empty c cs = ne_eqb (length (c ∷ cs)) 0 (λ e. omega (arith, e))

abbrev named : List ℕ → List ℕ
named text = codes "_posts/2020-01-01-p" ++ text

segments-named : (ds : List ℕ) → Digits ds → segments (named (ending ds)) ≡ codes "_posts" ∷ (codes "2020-01-01-p" ++ ending ds) ∷ []
segments-named ds h = ap (parts_before (codes "_posts/2020-01-01-p")) (split-ending ds h)

passes : (text : List ℕ) → (length text == 0) ≡ false → is_absolute text ≡ false → has_dots text ≡ false → has_empty_segment text ≡ false → has_control text ≡ false → nat_lt 1024 (length text) ≡ false → path_refusal text ≡ None
passes text a b c d e f = rw (a, b, c, d, e, f) refl

path-named : (ds : List ℕ) → Digits ds → length ds ≤ 20 → path_refusal (named (ending ds)) ≡ None
path-named ds h le =
    passes (named (ending ds)) (not_empty 95 (codes "posts/2020-01-01-p" ++ ending ds)) refl
    (ap (list_any is_dots) (segments-named ds h))
    (ap (list_any (λ (s : List ℕ). length s == 0)) (segments-named ds h) ∙ ap (λ (b : Bool). b || false) (not_empty 50 (codes "020-01-01-p" ++ ending ds)))
    (control-ending ds h)
    (le-ltb 1024 (length (named (ending ds))) (omega (arith, length-append ds (codes ".md"), le)))

-- a `/` stands behind a dot
abbrev has_late_slash : List ℕ → Bool
has_late_slash [] = false
has_late_slash (c ∷ cs) = cond (is_dot c) (list_any is_slash cs) (has_late_slash cs)

-- the names of files: with a dot, and with no `/` behind it
pub record IsTidy (path : List ℕ) : Type 0 where
  pub dotted : list_any is_dot path ≡ true
  pub ends : has_late_slash path ≡ false

ends-ending : (ds : List ℕ) → Digits ds → has_late_slash (ending ds) ≡ false
ends-ending [] h = refl
ends-ending (c ∷ cs) h = ap (λ (b : Bool). cond b (list_any is_slash (ending cs)) (has_late_slash (ending cs))) (no_dot c h.0) ∙ ends-ending cs h.1.1

or_true : (b : Bool) → (b || true) ≡ true
or_true true = refl
or_true false = refl

dotted-ending : (ds : List ℕ) → list_any is_dot (ending ds) ≡ true
dotted-ending ds = list_any-append is_dot ds (codes ".md") ∙ or_true (list_any is_dot ds)

pub path-post : (post : ℕ) → post < 2 ^ 32 → IsSitePath (post_path post)
path-post post lt = path-named (decimal post) (digits-decimal post (omega arith)) (length-decimal-le 20 post (omega arith) (omega arith) (omega arith))

pub tidy-post : (post : ℕ) → post < 2 ^ 32 → IsTidy (post_path post)
tidy-post post lt = record { dotted = dotted-ending (decimal post); ends = ends-ending (decimal post) (digits-decimal post (omega arith)) }

below-slash : (path folder : List ℕ) → is_below path folder ≡ true → list_any is_slash path ≡ true
below-slash [] folder e = absurd (cc (e))
below-slash (b ∷ path) [] e = ap (λ (x : Bool). x || list_any is_slash path) e
below-slash (b ∷ path) (c ∷ folder) e = ap (λ (x : Bool). is_slash b || x) (below-slash path folder (and_parts (c == b) (is_below path folder) e).1) ∙ or_true (is_slash b)

late-slash : (path folder : List ℕ) → is_below path folder ≡ true → list_any is_dot folder ≡ true → has_late_slash path ≡ true
late-slash [] folder e d = absurd (cc (e))
late-slash (b ∷ path) [] e d = absurd (cc (d))
late-slash (b ∷ path) (c ∷ folder) e d = by (is_dot b) refl (late-slash path folder parts.1)
  where
    parts : ((c == b) ≡ true) × (is_below path folder ≡ true)
    parts = and_parts (c == b) (is_below path folder) e

    same : c ≡ b
    same = eqb-true c b parts.0

    by : (x : Bool) → is_dot b ≡ x → (list_any is_dot folder ≡ true → has_late_slash path ≡ true) → cond x (list_any is_slash path) (has_late_slash path) ≡ true
    by true is later = below-slash path folder parts.1
    by false is later = later (sym (ap (λ (x : Bool). x || list_any is_dot folder) (ap is_dot same ∙ is)) ∙ d)

-- no tidy path is a folder of another
pub apart : (path folder : List ℕ) → IsTidy path → IsTidy folder → is_below path folder ≡ true → ⊥
apart path folder p f e = absurd (cc (late-slash path folder e f.dotted, p.ends))
