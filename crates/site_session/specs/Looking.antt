-- How a table of pages comes to those of an output: they are offered one after another.
use Rattle.std.specs.Prelude.{Bool, List, [], false, not, ℕ, ◌∷◌}
use Rattle.link_check.specs.Table.{Table, has_bytes, with_offer}
use Rattle.out_tree.specs.Values.{map_values}
use Rattle.site_base.specs.Places.{Files}
use Rattle.site_session.specs.Pages.{Page}

-- the pages with their bytes
abbrev pub bytes_of : Table → Files
bytes_of table = map_values (λ kept. kept.bytes) table

abbrev pub offered : Table → List Page → Table
offered table [] = table
offered table (page ∷ pages) = offered (with_offer table page.0 page.1) pages

-- the table has not the one page of these, if there is one
abbrev pub finds_new : Table → List Page → Bool
finds_new table [] = false
finds_new table (page ∷ pages) = not (has_bytes table page.0 page.1)
