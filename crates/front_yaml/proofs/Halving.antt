-- Doubled quotes, one byte more.
use Rattle.std.proofs.Common.{◌≡◌, ℕ, ◌+◌, ◌<◌, Bool, true, false, ◌&&◌, not, List, [], ◌∷◌, ◌++◌, length, get_or, drop, refl, ap, ◌∙◌, append_assoc}
use Rattle.std.specs.Prelude.{◌==◌, if◌then◌else◌}
use Rattle.std.proofs.lemmas.List.{at_drop_more}
use Rattle.front_yaml.specs.Quotes.{halved}

step : (second : Bool) (out : List ℕ) (c : ℕ) (cs : List ℕ) → out ++ halved second (c ∷ cs) ≡ (if second then out else (out ++ c ∷ [])) ++ halved (not second && (c == 39)) cs
step true out c cs = refl
step false out c cs = rw append_assoc refl

pub one_more : (second : Bool) (out s : List ℕ) (n : ℕ) → n < length s → out ++ halved second (drop n s) ≡ (if second then out else (out ++ get_or s n 0 ∷ [])) ++ halved (not second && (get_or s n 0 == 39)) (drop (n + 1) s)
one_more second out s n lt = ap (λ xs. out ++ xs) (at_drop_more (halved second) s n 0 lt) ∙ step second out (get_or s n 0) (drop (n + 1) s)
