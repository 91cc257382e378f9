-- Escapes in HTML and URLs, as they are printed.
use Rattle.std.specs.Prelude.{List, None, Option, Some, [], codes, flat_map, ℕ, ◌++◌}
use Rattle.site_text.specs.Urls.{escaped_byte}

-- text as it stands in HTML
abbrev pub escaped : List ℕ → List ℕ
escaped t = flat_map escaped_byte t

-- the attribute of a title that is given
abbrev pub title_text : Option (List ℕ) → List ℕ
title_text None = []
title_text (Some t) = codes " title=\"" ++ (escaped t ++ codes "\"")
