-- The entries of an ordered map, in the order of their paths.
use Rattle.std.proofs.Common.{◌≡◌, Bool, true, false, ℕ, List, [], ◌∷◌, Less, is_lt, map, refl, ap, ◌∙◌}
use Rattle.std.specs.FinMap as finite
use Rattle.std.specs.FinMap.Entries.{below_all}
use Rattle.std.specs.List.{AllByRecursion}
use Rattle.std.specs.List.Sorted.{IsStrictlySortedBy}
use Rattle.std.specs.Map.{keys_of}
use Rattle.std.specs.Prelude.{◌&&◌}
use Rattle.site_base.specs.Clash.{first_folder}
use Rattle.site_base.specs.PathMap.{as_map}
use Rattle.site_base.specs.Places.{PathsRise, path_cmp}
use Rattle.site_base.specs.declared.path_map.PathMap.{PathMap}
use Rattle.site_base.proofs.Entries.{entries_mapped}

pub both : (a b : Bool) → a ≡ true → b ≡ true → (a && b) ≡ true
both true b p q = q
both false b p q = p

module _ {V : Type 0} where
  below : (k : List ℕ) (es : List (List ℕ × V)) → AllByRecursion (λ q. path_cmp k q ≡ Less) (keys_of es) → below_all path_cmp k es ≡ true
  below k [] all = refl
  below k (e ∷ es) all = both _ _ (ap is_lt all.0) (below k es all.1)

  pub rises : (es : List (List ℕ × V)) → IsStrictlySortedBy path_cmp (keys_of es) → PathsRise es
  unfolding IsStrictlySortedBy
  rises [] sorted = refl
  rises (e ∷ es) sorted = both _ _ (below e.0 es sorted.0) (rises es sorted.1)

  pub clash_by : (m : PathMap V) (es : List (List ℕ × V)) → PathsRise es → as_map m ≡ finite.from_sorted es → first_folder (finite.keys (as_map m)) ≡ first_folder (keys_of es)
  clash_by m es rise is = ap (λ n. first_folder (finite.keys n)) is ∙ ap (λ xs. first_folder (map (λ (e : List ℕ × V). e.0) xs)) (entries_mapped es rise)
