use Rattle.std.proofs.Common.{◌≡◌, ℕ, List, drop}
use Rattle.site_reader.specs.FirstPlaces.{place_in}
use Rattle.site_reader.proofs.FirstPlaceLaws.{place_from}
use Rattle.site_reader.proofs.first_places.FirstPlaces.of.Given as goal

abbrev pub invariant-loop-place : goal.invariant-loop-place
invariant-loop-place l = (x : List ℕ) → place_in l.places x ≡ place_from x l.place (drop l.place l.texts)
