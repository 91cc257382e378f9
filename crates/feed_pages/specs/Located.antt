-- What a reader of a sitemap finds in it. After the Sitemaps protocol (sitemaps.org, schema 0.9): the text of each `loc`.
use Rattle.std.specs.Prelude.{Bool, List, [], codes, drop, if◌then◌else◌, ℕ, ◌==◌, ◌∷◌}
use Rattle.std.specs.List.{list_any}
use Rattle.site_text.specs.Bytes.{less_than}
use Rattle.site_text.specs.Fronts.{begins_with}

-- up to the next tag
abbrev pub before_tag : List ℕ → List ℕ
before_tag [] = []
before_tag (c ∷ cs) = if c == less_than then [] else c ∷ before_tag cs

-- what stands after each `<loc>`, in order
abbrev pub located : List ℕ → List (List ℕ)
located [] = []
located (c ∷ cs) = if begins_with (codes "<loc>") (c ∷ cs) then before_tag (drop 4 cs) ∷ located cs else located cs

-- there is a `{`, with which Liquid's tags and outputs begin
abbrev pub has_brace : List ℕ → Bool
has_brace t = list_any (λ c. c == 123) t
