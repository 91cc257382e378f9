-- Tests of the items and pairs of values, one after another.
use Rattle.std.proofs.Common.{◌≡◌, ℕ, Bool, ◌&&◌, ◌||◌, List, [], ◌∷◌, refl, ap, ◌∙◌}
use Rattle.std.specs.List.{list_all, list_any}
use Rattle.site_base.specs.Plain.{Plain, Items, Pairs, item_list}
use Rattle.site_base.specs.View.{plain, items_of, pairs_of}
use Rattle.site_base.specs.declared.value.Value.{Value}
use Rattle.site_base.specs.declared.value.Pair.{Pair}
use Rattle.site_config.specs.Forms.{pair_list}

all_items : (p : Plain → Bool) (vs : List Value) → list_all (λ v. p (plain v)) vs ≡ list_all p (item_list (items_of vs))
all_items p [] = refl
all_items p (v ∷ vs) = ap (λ b. p (plain v) && b) (all_items p vs)

-- the answer of a test of each item of a list
pub all_in_list : (p : Plain → Bool) (is : Items) (vs : List Value) → items_of vs ≡ is → list_all (λ v. p (plain v)) vs ≡ list_all p (item_list is)
all_in_list p is vs e = all_items p vs ∙ ap (λ js. list_all p (item_list js)) e

any_items : (p : Plain → Bool) (vs : List Value) → list_any (λ v. p (plain v)) vs ≡ list_any p (item_list (items_of vs))
any_items p [] = refl
any_items p (v ∷ vs) = ap (λ b. p (plain v) || b) (any_items p vs)

pub any_in_list : (p : Plain → Bool) (is : Items) (vs : List Value) → items_of vs ≡ is → list_any (λ v. p (plain v)) vs ≡ list_any p (item_list is)
any_in_list p is vs e = any_items p vs ∙ ap (λ js. list_any p (item_list js)) e

all_pairs : (p : List ℕ × Plain → Bool) (vs : List Pair) → list_all (λ v. p (v.key, plain v.value)) vs ≡ list_all p (pair_list (pairs_of vs))
all_pairs p [] = refl
all_pairs p (v ∷ vs) = ap (λ b. p (v.key, plain v.value) && b) (all_pairs p vs)

pub all_in_hash : (p : List ℕ × Plain → Bool) (ps : Pairs) (vs : List Pair) → pairs_of vs ≡ ps → list_all (λ v. p (v.key, plain v.value)) vs ≡ list_all p (pair_list ps)
all_in_hash p ps vs e = all_pairs p vs ∙ ap (λ qs. list_all p (pair_list qs)) e
