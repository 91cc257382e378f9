-- Names that begin with a date.
use Rattle.std.proofs.Common.{◌≡◌, ◌≢◌, ℕ, ◌+◌, ◌<◌, Bool, true, false, ◌&&◌, List, [], ◌∷◌, length, drop, get_or, nat_lt, None, refl, sym, ap, ◌∙◌, arith, drop-cons, drop_of_length-le, inl, inr, add-one}
use Rattle.std.specs.Prelude.{ℤ}
use Rattle.std.specs.Str.{IsCharBoundary}
use Rattle.std.proofs.lemmas.Bool.{cases_lt, ne_eqb}
use Rattle.std.proofs.lemmas.Str.{IsCharBoundary-before_ascii}
use Rattle.site_files.specs.Names.{extension, stem}
use Rattle.site_files.specs.PostNames.{behind_dash, dated_name, has_title, is_post_name}

-- a text that is not `-` and a rest has nothing behind a dash
pub no_dash : (s : List ℕ) → ((rest : List ℕ) → s ≢ 45 ∷ rest) → None ≡ behind_dash s
no_dash [] none = refl
no_dash (b ∷ s) none = rw (ne_eqb b 45 (λ e. none s (ap (λ n. n ∷ s) e))) refl

-- a text that cannot be cut at a place has no dash there
pub no_cut : (s : List ℕ) (i : ℕ) → (IsCharBoundary s i → ⊥) → None ≡ behind_dash (drop i s)
no_cut s i none = elim (cases_lt i (length s)) [
  | inl inside ↦
      let at : drop i s ≡ get_or s i 0 ∷ drop (i + 1) s = rw add-one (drop-cons s i 0 inside) in
      no_dash (drop i s) (λ rest e. none (IsCharBoundary-before_ascii s i inside (small (get_or s i 0) (drop (i + 1) s) rest (sym at ∙ e))))
  | inr past ↦ ap behind_dash (sym (drop_of_length-le s past))
]
  where
    small : (b : ℕ) (s rest : List ℕ) → b ∷ s ≡ 45 ∷ rest → b < 128
    small b s rest e = let is : b ≡ 45 = cc in omega (arith, is)

-- a file's name, by the parts of it
pub named_post : (offset : ℤ) (name : List ℕ) {front ext : List ℕ} {has : Bool} → front ≡ stem name → has ≡ has_title (dated_name offset front) → has ≡ true → ext ≡ extension name
    → nat_lt 1 (length ext) ≡ is_post_name offset name
named_post offset name front_is has_is has ext_is =
    let fits : has_title (dated_name offset (stem name)) ≡ true = ap (λ s. has_title (dated_name offset s)) (sym front_is) ∙ sym has_is ∙ has in
    ap (λ e. nat_lt 1 (length e)) ext_is ∙ sym (ap (λ b. b && nat_lt 1 (length (extension name))) fits)

pub not_named_post : (offset : ℤ) (name : List ℕ) {front : List ℕ} {has : Bool} → front ≡ stem name → has ≡ has_title (dated_name offset front) → has ≡ false → has ≡ is_post_name offset name
not_named_post offset name front_is has_is has =
    let fits : has_title (dated_name offset (stem name)) ≡ false = ap (λ s. has_title (dated_name offset s)) (sym front_is) ∙ sym has_is ∙ has in
    has ∙ sym (ap (λ b. b && nat_lt 1 (length (extension name))) fits)
