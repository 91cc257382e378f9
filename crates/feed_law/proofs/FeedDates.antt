-- The dates of posts, as the variable `date` has them: none is a word for the present, nor digits alone.
use Rattle.std.proofs.Common.{◌≡◌, refl, sym, subst, ℕ, suc, ◌==◌, nat_lt, ℤ, pos, negsuc, Bool, true, false, not, ◌&&◌, ◌||◌, List, [], ◌∷◌, ◌++◌, append-nil, arith, length, codes, Option, Some}
use Rattle.std.specs.List.{slice_split, list_all}
use Rattle.std.specs.Option.{unwrap_or}
use Rattle.std.specs.Str.{bytes_eq}
use Rattle.filter_base.specs.Limits.{most_text}
use Rattle.site_text.specs.Bytes.{is_digit}
use Rattle.site_dates.specs.Format.{pattern_text, is_percent, full_date, full_time, offset_text, two_digits}
use Rattle.site_dates.specs.Shown.{Shown, local_time}
use Rattle.feed_law.specs.FeedViews.{IsDate, date_variable}

-- the text of a date's variable
abbrev variable_time : Shown → List ℕ
variable_time t = full_date t.date ++ (codes " " ++ (full_time t ++ (codes " " ++ offset_text [] t.offset)))

written_by_pattern : (t : Shown) → pattern_text t (slice_split is_percent (codes "%Y-%m-%d %H:%M:%S %z")) ≡ Some (variable_time t)
written_by_pattern t = simp append-nil

offset_len : (o : ℤ) → length (offset_text [] o) ≡ 5
offset_len (pos n) = refl
offset_len (negsuc n) = refl

no_digits : (x a b c d r : Bool) → (x && (a && (b && (c && (d && (false && r)))))) ≡ false
no_digits true true true true true r = refl
no_digits true true true true false r = refl
no_digits true true true false d r = refl
no_digits true true false c d r = refl
no_digits true false b c d r = refl
no_digits false a b c d r = refl

never_now : (a b c : Bool) → (a && (b && (c && false))) ≡ false
never_now true true true = refl
never_now true true false = refl
never_now true false c = refl
never_now false b c = refl

never_today : (a b c d r : Bool) → (a && (b && (c && (d && (false && r))))) ≡ false
never_today true true true true r = refl
never_today true true true false r = refl
never_today true true false d r = refl
never_today true false c d r = refl
never_today false b c d r = refl

neither : (a b : Bool) → a ≡ false → b ≡ false → (a || b) ≡ false
neither true b e h = cc
neither false b e h = h

-- a year, a dash and twenty bytes
dated : (a b c d : ℕ) (rest : List ℕ) → length rest ≡ 20 → IsDate (a ∷ b ∷ c ∷ d ∷ 45 ∷ rest)
dated a b c d rest len =
    let t : List ℕ = a ∷ b ∷ c ∷ d ∷ 45 ∷ rest in
    let some : (length t == 0) ≡ false = grind arith in
    record {
      some = some;
      dated = neither (bytes_eq t (codes "now")) (bytes_eq t (codes "today")) (never_now (a == 110) (b == 111) (c == 119)) (never_today (a == 116) (b == 111) (c == 100) (d == 97) (bytes_eq rest []));
      marked = no_digits (not (length t == 0)) (is_digit a) (is_digit b) (is_digit c) (is_digit d) (list_all is_digit rest);
      short = subst (λ (n : ℕ). nat_lt most_text (suc (suc (suc (suc (suc n))))) ≡ false) (sym len) refl;
    }

-- what stands behind the year and its dash
abbrev behind_year : Shown → List ℕ
behind_year t = two_digits t.date.month ++ (45 ∷ (two_digits t.date.day ++ (codes " " ++ (full_time t ++ (codes " " ++ offset_text [] t.offset)))))

behind_year_len : (t : Shown) → length (behind_year t) ≡ 20
behind_year_len t = subst (λ (n : ℕ). suc (suc (suc (suc (suc (suc (suc (suc (suc (suc (suc (suc (suc (suc (suc n)))))))))))))) ≡ 20) (sym (offset_len t.offset)) refl

shown_dated : (t : Shown) → IsDate (variable_time t)
shown_dated t = dated _ _ _ _ (behind_year t) (behind_year_len t)

pub variable_dated : (offset moment : ℤ) → IsDate (date_variable offset moment)
variable_dated offset moment =
    let t : Shown = local_time moment offset in
    subst (λ (o : Option (List ℕ)). IsDate (unwrap_or o (codes ""))) (sym (written_by_pattern t)) (shown_dated t)
