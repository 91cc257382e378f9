-- Names without their extension, by what stands before their last `.`.
use Rattle.std.proofs.Common.{◌≡◌, ℕ, Bool, true, false, List, [], length, ◌==◌, refl, sym, ap, ◌∙◌}
use Rattle.std.specs.List.{before_last}
use Rattle.site_files.specs.Names.{is_dot, stem}

pub stem_of_all : (name before : List ℕ) {empty : Bool} → before ≡ before_last is_dot name → empty ≡ (length before == 0) → empty ≡ true → name ≡ stem name
stem_of_all name before is empty_is empty = rw (ap (λ b. length b == 0) (sym is) ∙ sym empty_is ∙ empty) refl

pub stem_of_front : (name before : List ℕ) {empty : Bool} → before ≡ before_last is_dot name → empty ≡ (length before == 0) → empty ≡ false → before ≡ stem name
stem_of_front name before is empty_is some = is ∙ rw (ap (λ b. length b == 0) (sym is) ∙ sym empty_is ∙ some) refl

pub stem_of_none : (name : List ℕ) → [] ≡ before_last is_dot name → name ≡ stem name
stem_of_none name is = rw (ap (λ b. length b == 0) (sym is)) refl
