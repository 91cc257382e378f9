-- Link reference definitions at the front of a paragraph's text: CommonMark 0.31.2, section 4.7.
use Rattle.std.specs.Prelude.{List, None, Option, Some, [], drop, false, if◌then◌else◌, length, take, true, ℕ, ◌+◌, ◌-◌, ◌==◌, ◌∷◌}
use Rattle.site_base.specs.Recursion.{down}
use Rattle.site_text.specs.Bytes.{colon, line_feed}
use Rattle.site_text.specs.Fronts.{begins_with}
use Rattle.markdown_grammar.specs.Destinations.{Part, destination}
use Rattle.markdown_grammar.specs.Fronts.{same_bytes}
use Rattle.markdown_grammar.specs.Labels.{label_key, link_label}
use Rattle.markdown_grammar.specs.Readers.{Reader, at_end, exactly, spaces, taken, white_gap, ◌or◌, ◌then◌}
use Rattle.markdown_grammar.specs.Titles.{link_title}

-- the label's text, where it goes, the title if it has one, and how many bytes it takes
pub record Definition : Type 0 where
  pub name : List ℕ
  pub url : List ℕ
  pub title : Option (List ℕ)
  pub size : ℕ

-- nothing else stands on the line; its end is taken too
abbrev pub line_rest : Reader
line_rest = spaces then (exactly (line_feed ∷ []) or at_end)

-- behind white space, a title that ends its line
abbrev pub title_behind : ℕ → List ℕ → Option Part
title_behind gap t = elim (link_title t) [ Some part ↦ elim (line_rest (drop part.1 t)) [ Some k ↦ Some (part.0, gap + part.1 + k) | None ↦ None ] | None ↦ None ]

-- white space, and not none, and a title that ends its line
abbrev pub line_title : List ℕ → Option Part
line_title t = let gap = taken (white_gap t) in elim (gap == 0) [ true ↦ None | false ↦ title_behind gap (drop gap t) ]

-- behind a destination, where n bytes stand: a title that ends its line, or the end of the line
abbrev pub untitled : List ℕ → List ℕ → ℕ → List ℕ → Option Definition
untitled name url n t = elim (line_rest t) [ Some k ↦ Some (record { name = name; url = url; title = None; size = n + k }) | None ↦ None ]

abbrev pub titled : List ℕ → List ℕ → ℕ → List ℕ → Option Definition
titled name url n t = elim (line_title t) [ Some part ↦ Some (record { name = name; url = url; title = Some part.0; size = n + part.1 }) | None ↦ untitled name url n t ]

-- behind the colon, where n bytes stand: white space, which there may be, and a destination
abbrev pub pointing : List ℕ → ℕ → List ℕ → Option Definition
pointing name n t =
    let gap = taken (white_gap t) in
    elim (destination (drop gap t)) [ Some part ↦ titled name part.0 (n + gap + part.1) (drop part.1 (drop gap t)) | None ↦ None ]

-- behind a label of n bytes: `:`, a destination and perhaps a title
abbrev pub behind_label : List ℕ → ℕ → Option Definition
behind_label t n = elim (begins_with (colon ∷ []) (drop n t)) [ true ↦ pointing (take (n - 2) (drop 1 t)) (n + 1) (drop 1 (drop n t)) | false ↦ None ]

-- a label, `:`, a destination and perhaps a title
abbrev pub front_definition : List ℕ → Option Definition
front_definition t = elim (link_label t) [ Some n ↦ behind_label t n | None ↦ None ]

-- the definitions at the front of a paragraph's text, one after another
abbrev pub definitions_step : (List ℕ → List Definition) → List ℕ → List Definition
definitions_step rest [] = []
definitions_step rest (c ∷ cs) = elim (front_definition (c ∷ cs)) [ Some d ↦ d ∷ rest (drop (d.size - 1) cs) | None ↦ [] ]

-- the definitions at the front of a text
unfoldable pub definitions : List ℕ → List Definition
definitions t = down length [] definitions_step t

-- how many bytes definitions take
abbrev pub total_size : List Definition → ℕ
total_size [] = 0
total_size (d ∷ ds) = d.size + total_size ds

-- what is left of a paragraph's text behind its definitions
abbrev pub after_definitions : List ℕ → List ℕ
after_definitions t = drop (total_size (definitions t)) t

-- where a link goes, and its title
abbrev pub Target : Type 0
Target = List ℕ × Option (List ℕ)

-- the target of a key: the first definition of a label wins
abbrev pub look_up : List ℕ → List Definition → Option Target
look_up key [] = None
look_up key (d ∷ ds) = elim (same_bytes (label_key d.name) key) [ true ↦ Some (d.url, d.title) | false ↦ look_up key ds ]
