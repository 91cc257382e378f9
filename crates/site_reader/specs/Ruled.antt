-- The parts of the reading of items, by what holds for all of them.
use Rattle.std.specs.Prelude.{List, [], Some, map}
use Rattle.site_base.specs.Chains.{◌>>=◌}
use Rattle.site_items.specs.declared.item.Rules.{Rules}
use Rattle.site_items.specs.declared.kind.Kind.{Kind}
use Rattle.site_reader.specs.Found.{Found, each}
use Rattle.site_reader.specs.Placements.{AreKnown, IsKnown}
use Rattle.site_reader.specs.Placing.{File, Placed}
use Rattle.site_reader.specs.Ranks.{Ranked}
use Rattle.site_reader.specs.Sites.{add_item, add_kind, items_in_order}
use Rattle.site_reader.specs.declared.placed_file.PlacedFile.{PlacedFile}
use Rattle.site_reader.specs.declared.site_item.SiteItem.{SiteItem}

-- what is kept of a file is what it is by these rules
abbrev pub IsRuled : Rules → PlacedFile → Type 0
IsRuled rules file = IsKnown rules.config.now (map (λ s. s.now) rules.scopes.now) file

abbrev pub AreRuled : Rules → List PlacedFile → Type 0
AreRuled rules files = AreKnown rules.config.now (map (λ s. s.now) rules.scopes.now) files

abbrev pub ruled_kind : Rules → Kind → File → Ranked → Found Ranked
ruled_kind rules kind file ranked = add_kind rules.config.now (map (λ s. s.now) rules.scopes.now) rules.now rules.future file (Some kind) ranked

abbrev pub ruled_item : Rules → Placed → Ranked → Found Ranked
ruled_item rules file ranked = add_item rules.config.now (map (λ s. s.now) rules.scopes.now) rules.now rules.future file ranked

abbrev pub ruled_ranks : Rules → List Placed → Found Ranked
ruled_ranks rules files = each (ruled_item rules) files []

abbrev pub ruled_items : Rules → List Placed → Found (List SiteItem)
ruled_items rules files = ruled_ranks rules files >>= items_in_order rules.config.now
