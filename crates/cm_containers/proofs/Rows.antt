-- Worked rows: rests by their places.
use Rattle.std.proofs.Common.{codes, refl, ◌≡◌}
use Rattle.cm_containers.specs.Rests.{rest_text}

tab_in_part : rest_text (codes ">\tb") 1 2 ≡ codes "  b"
tab_in_part = refl

tab_whole : rest_text (codes "> \tb") 2 2 ≡ codes "\tb"
tab_whole = refl

behind_tab : rest_text (codes ">\tb") 2 4 ≡ codes "b"
behind_tab = refl

at_end : rest_text (codes ">") 1 1 ≡ codes ""
at_end = refl
