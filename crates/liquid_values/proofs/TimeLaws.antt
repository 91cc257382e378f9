-- The moment of the build, as the filter `date` gives it.
use Rattle.std.proofs.Common.{◌≡◌, ◌∙◌, ap, codes, [], ◌∷◌}
use Rattle.site_base.specs.Plain.{Plain, text}
use Rattle.filter_base.specs.Answers.{limited}
use Rattle.filter_base.specs.Dates.{date}
use Rattle.liquid_values.specs.Names.{time_pattern, time_query}
use Rattle.liquid_values.specs.Places.{Place, placed}

pub time_is : (p : Place) (v w : Plain) → v ≡ text (codes "now") → w ≡ text time_pattern → placed p (limited (date v (w ∷ []))) ≡ time_query p
unfolding time_query
time_is p v w e f = ap (λ x. placed p (limited (date x (w ∷ [])))) e ∙ ap (λ x. placed p (limited (date (text (codes "now")) (x ∷ [])))) f
