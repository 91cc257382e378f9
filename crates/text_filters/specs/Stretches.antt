-- Stretches of a text, each from `<` and a name behind it to the next end. After the reference of Liquid 4 (Shopify), "Filters": `strip_html`.
use Rattle.std.specs.Prelude.{ℕ, ◌==◌, List, [], ◌∷◌, drop, length, codes, if◌then◌else◌, Option, Some, None}
use Rattle.site_base.specs.Recursion.{down}
use Rattle.site_text.specs.Fronts.{begins_with}
use Rattle.text_filters.specs.declared.stretches.Stretch.{Stretch}
use Rattle.text_filters.specs.declared.stretches.Stretch.TheVariants.{Script, Comment, Style, Tag}

abbrev pub name_of : Stretch → List ℕ
name_of Script = codes "script"
name_of Comment = codes "!--"
name_of Style = codes "style"
name_of Tag = []

abbrev pub end_of : Stretch → List ℕ
end_of Script = codes "</script>"
end_of Comment = codes "-->"
end_of Style = codes "</style>"
end_of Tag = codes ">"

-- the first kind whose name begins a text, and what follows the name
abbrev pub begun : List Stretch → List ℕ → Option (Stretch × List ℕ)
begun [] t = None
begun (kind ∷ kinds) t = if begins_with (name_of kind) t then Some (kind, drop (length (name_of kind)) t) else begun kinds t

-- what follows the first place of a mark in a text
abbrev pub behind : List ℕ → List ℕ → Option (List ℕ)
behind mark [] = None
behind mark (c ∷ cs) = if begins_with mark (c ∷ cs) then Some (drop (length mark) (c ∷ cs)) else behind mark cs

abbrev pub behind_end : Option (Stretch × List ℕ) → Option (List ℕ)
behind_end (Some begun) = behind (end_of begun.0) begun.1
behind_end None = None

-- what follows the stretch that a `<` before the text begins, if it is of one of these kinds
abbrev pub behind_stretch : List Stretch → List ℕ → Option (List ℕ)
behind_stretch kinds t = behind_end (begun kinds t)

abbrev pub without_step : List Stretch → (List ℕ → List ℕ) → List ℕ → List ℕ
without_step kinds without [] = []
without_step kinds without (c ∷ cs) = elim (if c == 60 then behind_stretch kinds cs else None) [ Some rest ↦ without rest | None ↦ c ∷ without cs ]

-- a text without its stretches of these kinds
unfoldable pub without : List Stretch → List ℕ → List ℕ
without kinds t = down length [] (without_step kinds) t

-- without scripts, comments and styles, and then without tags
abbrev pub stripped : List ℕ → List ℕ
stripped t = without (Tag ∷ []) (without (Script ∷ Comment ∷ Style ∷ []) t)
