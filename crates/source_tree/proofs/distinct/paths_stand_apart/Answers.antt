use Rattle.std.proofs.Common.{◌≡◌, List, ℕ}
use Rattle.std.specs.FinMap.{from_entries}
use Rattle.site_base.specs.PathMap.{as_map}
use Rattle.site_base.specs.Places.{AllDiffer, paths_of}
use Rattle.site_base.specs.declared.path_map.PathMap.{PathMap}
use Rattle.source_tree.specs.Rise.{units}
use Rattle.source_tree.proofs.Apart.{apart_test}
use Rattle.source_tree.proofs.Fitted.{made_of}
use Rattle.source_tree.proofs.distinct.paths_stand_apart.Goals as goal

abbrev Made : List (List ℕ) → PathMap (Unit {0}) → Type 0
Made paths made = AllDiffer paths × (as_map made ≡ from_entries (units paths))

pub returns-in-Some : goal.returns-in-Some
returns-in-Some c =
    let paths = paths_of c.args.files.now in
    let made = made_of (AllDiffer paths → ⊥) (Made paths) c.in_ok-paths.field-0 c.in-Some.paths c.in-Some.is c.in_ok-paths.ensures in
    apart_test paths (as_map c.in-Some.paths) made.1 c.find_clash.result c.is_none.result made.0 c.find_clash.ensures.first c.find_clash.ensures.clash_free c.is_none.ensures
