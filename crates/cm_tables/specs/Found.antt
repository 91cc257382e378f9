-- The table in a paragraph's text.
use Rattle.std.specs.Prelude.{length, map, ◌∷◌}
use Rattle.markdown_grammar.specs.Tables.{Table, cells, filled}
use Rattle.cm_tables.specs.Rows.{below}
use Rattle.cm_tables.specs.declared.found.TableText.{TableText}

-- the table that its lines are
abbrev pub shown : TableText → Table
shown t = record { aligns = t.aligns.items; rows = map (λ line. filled (length t.aligns.items) (cells line)) (t.header.now ∷ below t.rows) }
