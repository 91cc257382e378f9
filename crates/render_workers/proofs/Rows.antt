-- Worked rows over the small site of three items.
use Rattle.std.proofs.Common.{◌≡◌, ℕ, ◌+◌, ◌-◌, codes, [], ◌∷◌, refl}
use Rattle.std.specs.FinMap.{empty}
use Rattle.site_base.specs.Plain.{Plain, nil, text}
use Rattle.site_base.specs.declared.item_name.ItemName.{ItemName}
use Rattle.read_record.specs.declared.outcome.Outcome.TheVariants.{Done}
use Rattle.read_record.specs.Queries.{Gave, Failed}
use Rattle.round_core.specs.Meant.{Given, given_by}
use Rattle.round_core.specs.Samples.{sample_sight, sample_item, lacks_variable}
use Rattle.render_workers.specs.Folds.{most_tree_bytes, tree_too_long, fold_from, fold_of}

abbrev part : ℕ → ItemName
part n = record { path = codes "a.html"; part = n }

abbrev site : Plain → Given
site variable = given_by (part 0 ∷ part 1 ∷ part 2 ∷ []) (sample_sight (text (codes "*x*")) variable) sample_item empty

renders_all : fold_of (site (text (codes "<p>x</p>"))) 0 ≡ Gave (Done (codes "*x*") (codes "*x*") ∷ Done (codes "<p>x</p>") (codes "<p>x</p>") ∷ Done (codes "<p>x</p>") (codes "<p>x</p>") ∷ [])
unfolding fold_from
renders_all = refl

tells_the_first_fault : fold_of (site nil) 0 ≡ Failed (1, lacks_variable (part 1))
unfolding fold_from
tells_the_first_fault = refl

-- the first item has six bytes, and the second two
has_room : fold_of (site (text (codes "y"))) (most_tree_bytes - 10) ≡ Gave (Done (codes "*x*") (codes "*x*") ∷ Done (codes "y") (codes "y") ∷ Done (codes "y") (codes "y") ∷ [])
unfolding fold_from
has_room = refl

has_no_room : fold_of (site (text (codes "y"))) (most_tree_bytes - 7) ≡ Failed (1, tree_too_long (part 1))
unfolding fold_from
has_no_room = refl

has_no_room_at_first : fold_of (site (text (codes "y"))) (most_tree_bytes + 1) ≡ Failed (0, tree_too_long (part 0))
unfolding fold_from
has_no_room_at_first = refl
