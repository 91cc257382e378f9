-- Values behind others.
use Rattle.std.proofs.Common.{◌≡◌, refl, ap, ◌∙◌}
use Rattle.site_base.specs.Plain.{Items, Plain, item, no_items, onto}

pub onto_more : (is : Items) (v : Plain) (rest : Items) → onto (onto is (item v no_items)) rest ≡ onto is (item v rest)
onto_more no_items v rest = refl
onto_more (item w is) v rest = ap (item w) (onto_more is v rest)

pub onto_none : (is : Items) → onto is no_items ≡ is
onto_none no_items = refl
onto_none (item w is) = ap (item w) (onto_none is)

-- one pair more
pub listed_more : (list new : Items) (v : Plain) (rest : Items) {all : Items} → new ≡ onto list (item v no_items) → onto list (item v rest) ≡ all → onto new rest ≡ all
listed_more list new v rest is so_far = rw is (onto_more list v rest ∙ so_far)
