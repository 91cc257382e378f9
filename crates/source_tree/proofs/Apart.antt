-- The map of a list's paths tells whether these stand apart.
use Rattle.std.proofs.Common.{◌≡◌, ℕ, Bool, Bor, IsNone, IsTrue, List, MatchOption, None, Option, Some, ap, false, is_some, not, refl, subst, sym, true, ◌∙◌}
use Rattle.std.specs.FinMap.{FinMap, contains_key, contains_key-keys, from_entries, keys}
use Rattle.std.specs.Option.{option_copied}
use Rattle.site_base.specs.Clash.{ClashFree, HasNoClash, first_folder}
use Rattle.site_base.specs.PathMap.{as_map}
use Rattle.site_base.specs.Places.{AllDiffer, is_listed, path_cmp, paths_of}
use Rattle.site_base.specs.declared.path_map.PathMap.{PathMap}
use Rattle.source_tree.specs.Rise.{units}
use Rattle.source_tree.proofs.Clashing.{first_folder_clashes}
use Rattle.source_tree.proofs.Fitted.{none_of, some_folder}
use Rattle.source_tree.proofs.Listed.{first_of_units}
use Rattle.source_tree.proofs.Plain.{contains-from_entries}

-- the entries are the paths, each with nothing
pub distinct_units : (es : List (List ℕ × Unit {0})) (ps : List (List ℕ)) (o : Option (PathMap (Unit {0}))) → es ≡ units ps → MatchOption o (AllDiffer (paths_of es) → ⊥) (λ made. AllDiffer (paths_of es) × (as_map made ≡ from_entries es)) → MatchOption o (AllDiffer ps → ⊥) (λ made. AllDiffer ps × (as_map made ≡ from_entries (units ps)))
distinct_units es ps None is h = λ differ. h (subst AllDiffer (sym (ap paths_of is ∙ first_of_units ps)) differ)
distinct_units es ps (Some made) is h = (subst AllDiffer (ap paths_of is ∙ first_of_units ps) h.0, h.1 ∙ ap from_entries is)

module _ (ps : List (List ℕ)) (m : FinMap path_cmp (Unit {0})) (made : m ≡ from_entries (units ps)) where
  held_listed : (q : List ℕ) → contains_key m q ≡ is_listed q ps
  held_listed q = ap (λ (n : FinMap path_cmp (Unit {0})). contains_key n q) made ∙ contains-from_entries (units ps) q ∙ ap (is_listed q) (first_of_units ps)

  clash_free-listed : HasNoClash m → ClashFree ps
  clash_free-listed free path folder p f = free path folder (held_listed path ∙ p) (held_listed folder ∙ f)

  clash_free-held : ClashFree ps → ClashFree (keys m)
  clash_free-held free path folder p f =
      free path folder (sym (held_listed path) ∙ contains_key-keys m path ∙ p) (sym (held_listed folder) ∙ contains_key-keys m folder ∙ f)

  pub apart_test : (found : Option (Bor (List ℕ))) (none : Bool) → AllDiffer ps → option_copied found ≡ first_folder (keys m) → (IsNone found → HasNoClash m) → is_some found ≡ not none → (IsTrue none → AllDiffer ps × ClashFree ps) × (AllDiffer ps × ClashFree ps → IsTrue none)
  apart_test found true differ first free is = (λ _. (differ, clash_free-listed (free (none_of found is))), λ _. refl)
  apart_test found false differ first free is =
      let folder = some_folder found is in
      (λ yes. absurd (cc (yes)), λ both. absurd (first_folder_clashes (keys m) folder.0 (sym first ∙ folder.1) (clash_free-held both.1)))
