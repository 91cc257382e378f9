-- Sums over a part of the files.
use Rattle.std.proofs.Common.{◌≡◌, ℕ, zero, suc, ◌+◌, ◌<◌, ◌≤◌, true, false, cond, is_some, List, [], ◌∷◌, length, take, get_or, Option, refl, sym, ap, ◌∙◌, arith}
use Rattle.std.specs.List.{sum_by}
use Rattle.std.proofs.lemmas.List.Sums.{sum_by-cons, sum_by_more}
use Rattle.site_items.specs.declared.static_file.StaticFile.{StaticFile}
use Rattle.site_world.specs.Copied.{copied_length}
use Rattle.site_world.specs.Named.{named}
use Rattle.site_world.specs.declared.named.Named.{Named}

module _ {X : Type 0} (f g : X → ℕ) (less : (x : X) → f x ≤ g x) where
  pub part : (xs : List X) (k : ℕ) → sum_by f (take k xs) ≤ sum_by g xs
  part [] zero = omega arith
  part [] (suc k) = omega arith
  part (x ∷ xs) zero = omega arith
  part (x ∷ xs) (suc k) = omega (arith, less x, part xs k, sum_by-cons f x (take k xs), sum_by-cons g x xs)

pub copied-less : (copies : Named StaticFile) (file : List ℕ × List ℕ) → copied_length copies file ≤ length file.1
copied-less copies file = elim (is_some (named copies file.0)) as (λ b. cond b (length file.1) 0 ≤ length file.1) [ true ↦ omega arith | false ↦ omega arith ]

-- one file more
pub step : (copies : Named StaticFile) (es : List (List ℕ × List ℕ)) (place bytes more : ℕ) → place < length es → bytes ≡ sum_by (copied_length copies) (take place es)
    → ((d : List ℕ × List ℕ) → more ≡ copied_length copies (get_or es place d)) → bytes + more ≡ sum_by (copied_length copies) (take (place + 1) es)
step copies es place bytes more lt sum is = (λ i. sum i + is ([], []) i) ∙ sym (sum_by_more (copied_length copies) es place ([], []) lt)

pub bound : (copies : Named StaticFile) (es : List (List ℕ × List ℕ)) (place bytes more most : ℕ) → place < length es → bytes ≡ sum_by (copied_length copies) (take place es)
    → ((d : List ℕ × List ℕ) → more ≡ copied_length copies (get_or es place d)) → sum_by (λ file. length file.1) es ≤ most → bytes + more ≤ most
bound copies es place bytes more most lt sum is within =
    omega (arith, step copies es place bytes more lt sum is, part (copied_length copies) (λ file. length file.1) (copied-less copies) es (place + 1), within)

same_any : {X : Type 0} (xs : List X) (i : ℕ) (d e : X) → i < length xs → get_or xs i d ≡ get_or xs i e
same_any [] i d e lt = absurd (omega arith)
same_any (x ∷ xs) zero d e lt = refl
same_any (x ∷ xs) (suc i) d e lt = same_any xs i d e (omega arith)

pub one_file : (copies : Named StaticFile) (es : List (List ℕ × List ℕ)) (place : ℕ) (path bytes : List ℕ) (found : Option StaticFile) → place < length es → (path, bytes) ≡ get_or es place (path, bytes)
    → named copies path ≡ found → (d : List ℕ × List ℕ) → cond (is_some found) (length bytes) 0 ≡ copied_length copies (get_or es place d)
one_file copies es place path bytes found lt at e d =
    ap (λ (o : Option StaticFile). cond (is_some o) (length bytes) 0) (sym e) ∙ ap (copied_length copies) (at ∙ same_any es place (path, bytes) d lt)
