-- Items behind others.
use Rattle.std.proofs.Common.{◌≡◌, Some, None, refl, ap}
use Rattle.std.specs.Prelude.{Option, option_map}
use Rattle.site_base.specs.Plain.{Plain, Items, no_items, item, onto}

pub onto_item : (is js : Items) (v : Plain) → onto (onto is (item v no_items)) js ≡ onto is (item v js)
onto_item no_items js v = refl
onto_item (item w is) js v = ap (λ ks. item w ks) (onto_item is js v)

pub onto_nothing : (is : Items) → onto is no_items ≡ is
onto_nothing no_items = refl
onto_nothing (item w is) = ap (λ ks. item w ks) (onto_nothing is)

pub map_onto : (is : Items) (v : Plain) (o : Option Items) → option_map (onto (onto is (item v no_items))) o ≡ option_map (onto is) (option_map (item v) o)
map_onto is v None = refl
map_onto is v (Some js) = ap (λ ks. Some ks) (onto_item is js v)
