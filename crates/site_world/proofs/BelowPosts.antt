-- What is behind the folder `_posts`.
use Rattle.std.proofs.Common.{◌≡◌, ℕ, true, List, ◌∷◌, refl, ap, sym, ◌∙◌}
use Rattle.std.specs.Prelude.{codes}
use Rattle.std.specs.List.{join_with_byte}
use Rattle.std.specs.Str.{bytes_eq}
use Rattle.std.proofs.lemmas.List.Splits.{join_with_byte-slice_split}
use Rattle.site_base.specs.Path.{segments}
use Rattle.site_items.specs.Addresses.{behind_posts}

pub found_posts : (segment behind rest path : List ℕ) → segments rest ≡ segment ∷ segments behind → bytes_eq segment (codes "_posts") ≡ true → behind_posts (segments rest) ≡ behind_posts (segments path)
    → behind ≡ join_with_byte 47 (behind_posts (segments path))
found_posts segment behind rest path parts is_it so_far =
    let here : behind_posts (segment ∷ segments behind) ≡ segments behind = rw is_it refl in
    sym (join_with_byte-slice_split 47 behind) ∙ ap (join_with_byte 47) (sym here ∙ ap behind_posts (sym parts) ∙ so_far)
