-- The table of the code against that of the definition.
use Rattle.std.proofs.Common.{◌≡◌, ℕ, Bool, List, [], ◌∷◌, refl, ap, ◌∙◌, Some, None, arith}
use Rattle.std.specs.Prelude.{map, Option}
use Rattle.std.specs.Option.{option_map}
use Rattle.std.specs.List.{find}
use Rattle.std.specs.Borrow.{Bor}
use Rattle.site_config.specs.declared.form.Form.{Form}
use Rattle.site_config.specs.declared.table.Row.{Row}

abbrev pub entry : Row → List ℕ × Form
entry r = (r.key.now, r.form)

first_key : (p : List ℕ × Form → Bool) (rs : List Row) → option_map (λ (r : Row). r.key.now) (find (λ r. p (entry r)) rs) ≡ option_map (λ e. e.0) (find p (map entry rs))
first_key p [] = refl
first_key p (r ∷ rs) = grind (arith, first_key p rs)

pub found_key : (p : List ℕ × Form → Bool) (rs : List Row) (o : Option (Bor Row)) → option_map (λ (b : Bor Row). b.now) o ≡ find (λ r. p (entry r)) rs
    → option_map (λ (b : Bor Row). b.now.key.now) o ≡ option_map (λ e. e.0) (find p (map entry rs))
found_key p rs None e = ap (option_map (λ (r : Row). r.key.now)) e ∙ first_key p rs
found_key p rs (Some b) e = ap (option_map (λ (r : Row). r.key.now)) e ∙ first_key p rs
