-- Where the first definition of a label stands: CommonMark 0.31.2, section 4.7.
use Rattle.std.specs.Prelude.{◌≡◌, ℕ, suc, List, [], ◌∷◌, true, false, Option, Some, None, option_map, if◌then◌else◌, String, chars, IsUtf8}
use Rattle.std.specs.HashMap.{HashMap, get_by_text}
use Rattle.std.specs.Str.{bytes_eq}
use Rattle.markdown_grammar.specs.Definitions.{Definition, Target}
use Rattle.markdown_grammar.specs.Fronts.{same_bytes, ◌orelse◌}
use Rattle.markdown_grammar.specs.Labels.{label_key}
use Rattle.cm_links.specs.declared.definitions.LinkDef.{LinkDef}

abbrev pub definition_of : LinkDef → Definition
definition_of d = record { name = d.label; url = d.url; title = d.title; size = d.end }

-- where a definition's label goes
abbrev pub target : LinkDef → Target
target d = (d.url, d.title)

-- the place of the first definition of a key
abbrev pub first_place : List ℕ → List Definition → Option ℕ
first_place key [] = None
first_place key (d ∷ ds) = elim (same_bytes (label_key d.name) key) [ true ↦ Some 0 | false ↦ option_map suc (first_place key ds) ]

-- a map has at each text the place of the first definition whose key the text spells
abbrev pub IsIndex : {Y S : Type 0} → HashMap (String Y) ℕ S → List Definition → Type 0
IsIndex places ds = (q : List ℕ) → IsUtf8 q → get_by_text places q ≡ first_place (chars q) ds

-- two maps have the same places
abbrev pub SamePlaces : {Y S : Type 0} → HashMap (String Y) ℕ S → HashMap (String Y) ℕ S → Type 0
SamePlaces old new = (q : List ℕ) → get_by_text new q ≡ get_by_text old q

-- a place is noted under a key where none was before
abbrev pub NotesFirst : {Y S : Type 0} → HashMap (String Y) ℕ S → HashMap (String Y) ℕ S → List ℕ → ℕ → Type 0
NotesFirst old new key place = (q : List ℕ) → get_by_text new q ≡ (get_by_text old q orelse (if bytes_eq key q then Some place else None))
