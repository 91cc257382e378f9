-- Texts cut where another text stands in them. After the reference of Liquid 4 (Shopify), "Filters": `replace`, `remove`, `split`.
use Rattle.std.specs.Prelude.{ℕ, zero, suc, ◌-◌, List, [], ◌∷◌, length, if◌then◌else◌}
use Rattle.std.specs.List.{onto_first}
use Rattle.site_text.specs.Fronts.{begins_with}

-- a text from its front, of which the first bytes are passed over
unfoldable pub parts_after : List ℕ → ℕ → List ℕ → List (List ℕ)
parts_after mark passed [] = [] ∷ []
parts_after mark (suc passed) (c ∷ cs) = parts_after mark passed cs
parts_after mark zero (c ∷ cs) = if begins_with mark (c ∷ cs) then [] ∷ parts_after mark (length mark - 1) cs else onto_first c (parts_after mark zero cs)

-- the parts of a text before, between and behind the places at which another one stands, each looked for behind the one before
abbrev pub parts : List ℕ → List ℕ → List (List ℕ)
parts mark t = parts_after mark 0 t
