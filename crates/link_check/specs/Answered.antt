-- Which links are broken, in view of the paths of an output. A server answers a path without `.html` too, and a folder by its `index.html`.
use Rattle.std.specs.Prelude.{Bool, List, None, Some, [], codes, false, flat_map, if◌then◌else◌, not, true, ℕ, ◌++◌, ◌∷◌}
use Rattle.site_base.specs.Path.{path_refusal}
use Rattle.link_check.specs.declared.answering.Broken.{Broken}
use Rattle.link_check.specs.declared.leading.LinkTarget.{LinkTarget}
use Rattle.link_check.specs.declared.leading.LinkTarget.TheVariants.{Bad, Outside, Path}
use Rattle.link_check.specs.Targets.{target}

-- whether a text is a path, and one of these
abbrev pub is_one : (List ℕ → Bool) → List ℕ → Bool
is_one has text = elim (path_refusal text) [ Some refusal ↦ false | None ↦ has text ]

-- one of these is the path with `.html` or `/index.html` at its end
abbrev pub has_page : (List ℕ → Bool) → List ℕ → Bool
has_page has path = if is_one has (path ++ codes ".html") then true else is_one has (path ++ codes "/index.html")

-- one of these answers the path
abbrev pub is_answered : (List ℕ → Bool) → List ℕ → Bool
is_answered has path = if has path then true else has_page has path

abbrev pub is_unanswered : (List ℕ → Bool) → LinkTarget → Bool
is_unanswered has (Path path) = not (is_answered has path)
is_unanswered has Outside = false
is_unanswered has Bad = true

-- a value that stands in a file and leads nowhere
abbrev pub is_broken : (List ℕ → Bool) → (from value base : List ℕ) → Bool
is_broken has from value base = is_unanswered has (target from value base)

-- a broken link of a file
abbrev pub broken_at : (from value : List ℕ) → Broken
broken_at from value = record { from = from; value = value }

-- the link of a file, if it is broken
abbrev pub told : (List ℕ → Bool) → (from base value : List ℕ) → List Broken
told has from base value = if is_broken has from value base then broken_at from value ∷ [] else []

-- the broken ones of a file's links, in their order
abbrev pub broken_links : (List ℕ → Bool) → (from base : List ℕ) → (links : List (List ℕ)) → List Broken
broken_links has from base links = flat_map (told has from base) links
