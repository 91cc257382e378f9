-- What the calls answer, from what the grammar of Markdown says of a text.
use Rattle.std.specs.Prelude.{ℕ, ◌+◌}
use Rattle.markdown_grammar.specs.References as references
use Rattle.markdown_grammar.specs.Destinations.{Part}
use Rattle.markdown_grammar.specs.Definitions.{Definition}
use Rattle.cm_links.specs.declared.references.CharRef.{CharRef}
use Rattle.cm_links.specs.declared.parts.LinkPart.{LinkPart}
use Rattle.cm_links.specs.declared.definitions.LinkDef.{LinkDef}

-- a reference that stands at a place of a text
abbrev pub char_ref : ℕ → references.CharRef → CharRef
char_ref at found = record { end = at + found.1; first = found.0 }

abbrev pub link_part : Part → LinkPart
link_part part = record { text = part.0; len = part.1 }

abbrev pub link_def : Definition → LinkDef
link_def found = record { label = found.name; url = found.url; title = found.title; end = found.size }
