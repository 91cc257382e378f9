-- What threads may pass to each other and share: the world of a site.
use denote.Ref.{NamedLft}
use denote.Param.Send.{IsSend, IsSync, sendable}
use Rattle.std.proofs.Crossing as heap
use Rattle.std.proofs.MapsCrossing as maps
use Rattle.site_base.proofs.item_name.ItemName.TheSendSync as ItemName
use Rattle.site_base.proofs.path.SitePath.TheSendSync as SitePath
use Rattle.site_base.proofs.text.Text.TheSendSync as Text
use Rattle.site_base.proofs.value.Hash.TheLaws.TheKnot as values
use Rattle.site_base.specs.contracts.value.Hash.TheKnot.{hole-Hash, hole-List}
use Rattle.site_base.specs.contracts.value.Hash as Hash
use Rattle.site_base.specs.contracts.value.Value as Value
use Rattle.site_base.proofs.shared.SharedBytes.TheSendSync as SharedBytes
use Rattle.site_base.proofs.text_list.TextList.TheSendSync as TextList
use Rattle.site_base.proofs.sequence.Sequence.TheSendSync as Sequence
use Rattle.site_config.proofs.collection.Collection.TheSendSync as Collection
use Rattle.site_items.proofs.include_file.IncludeFile.TheSendSync as IncludeFile
use Rattle.site_items.proofs.static_file.StaticFile.TheSendSync as StaticFile
use Rattle.source_tree.proofs.held.Held.TheSendSync as Held
use Rattle.site_world.proofs.item_places.ItemPlaces.TheSendSync as ItemPlaces
use Rattle.site_world.proofs.named.Named.TheSendSync as Named
use Rattle.site_config.specs.contracts.config.Config as Config
use Rattle.site_config.specs.contracts.scope.Scope as Scope
use Rattle.site_items.specs.contracts.layout_file.LayoutFile as LayoutFile
use Rattle.site_reader.specs.contracts.site.Site as Site
use Rattle.site_reader.specs.contracts.site_item.SiteItem as SiteItem
use Rattle.site_world.specs.contracts.coded.Coded as Coded
use Rattle.site_world.specs.contracts.shelf.Shelf as Shelf
use Rattle.site_world.specs.contracts.site_world.SiteWorld as SiteWorld

hash_send : IsSend hole-Hash
hash_send = search (values.both_send-Hash, Text.the_send, Text.the_sync, ItemName.the_send, ItemName.the_sync, maps.crosses, heap.crosses, sendable) depth 60 fits 20000

hash_sync : IsSync hole-Hash
hash_sync = search (values.both_sync-Hash, Text.the_send, Text.the_sync, ItemName.the_send, ItemName.the_sync, maps.crosses, heap.crosses, sendable) depth 60 fits 20000

list_send : IsSend hole-List
list_send = search (values.both_send-List, Text.the_send, Text.the_sync, ItemName.the_send, ItemName.the_sync, maps.crosses, heap.crosses, sendable) depth 60 fits 20000

list_sync : IsSync hole-List
list_sync = search (values.both_sync-List, Text.the_send, Text.the_sync, ItemName.the_send, ItemName.the_sync, maps.crosses, heap.crosses, sendable) depth 60 fits 20000

value_field_send : IsSend Value.the_field.row
value_field_send = let hash = hash_send in let list = list_send in search (values.send-Value, Text.the_send, ItemName.the_field_send, sendable) depth 60 fits 20000

value_field_sync : IsSync Value.the_field.row
value_field_sync = let hash = hash_sync in let list = list_sync in search (values.sync-Value, Text.the_sync, ItemName.the_field_sync, sendable) depth 60 fits 20000

value_send : IsSend Value.the_row
value_send = let value = value_field_send in let hash = hash_send in let list = list_send in search (sendable) depth 60 fits 20000

value_sync : IsSync Value.the_row
value_sync = let value = value_field_sync in let hash = hash_sync in let list = list_sync in search (sendable) depth 60 fits 20000

hash_field_sync : IsSync Hash.the_field.row
hash_field_sync = let hash = hash_sync in let list = list_sync in let value = value_field_sync in search (maps.crosses, heap.crosses, sendable) depth 60 fits 20000

scope_field_sync : IsSync Scope.the_field.row
scope_field_sync = let hash = hash_field_sync in let value = value_field_sync in let row = value_sync in search (Text.the_sync, heap.crosses, sendable) depth 60 fits 20000

config_field_sync : IsSync Config.the_field.row
config_field_sync = let hash = hash_field_sync in let value = value_field_sync in let row = value_sync in let scope = scope_field_sync in search (Text.the_sync, TextList.the_sync, Collection.the_sync, Sequence.the_sync, heap.crosses, sendable) depth 60 fits 20000

layout_field_sync : IsSync LayoutFile.the_field.row
layout_field_sync = let value = value_field_sync in let row = value_sync in search (SitePath.the_sync, Text.the_sync, heap.crosses, sendable) depth 60 fits 20000

item_sync : IsSync SiteItem.the_row
item_sync = let value = value_field_sync in let row = value_sync in search (ItemName.the_field_sync, SitePath.the_sync, Text.the_sync, heap.crosses, sendable) depth 60 fits 20000

item_field_sync : IsSync SiteItem.the_field.row
item_field_sync = let value = value_field_sync in let row = value_sync in search (ItemName.the_field_sync, SitePath.the_sync, Text.the_sync, heap.crosses, sendable) depth 60 fits 20000

site_sync : IsSync Site.the_row
site_sync =
    let value = value_field_sync in let row = value_sync in let config = config_field_sync in let layout = layout_field_sync in let item = item_field_sync in
    search (IncludeFile.the_sync, StaticFile.the_sync, Sequence.the_sync, heap.crosses, sendable) depth 60 fits 20000

coded_send : IsSend Coded.the_row
coded_send = let value = value_field_send in let row = value_send in search (SharedBytes.the_send, heap.crosses, sendable) depth 60 fits 20000

coded_field_send : IsSend Coded.the_field.row
coded_field_send = let value = value_field_send in let row = value_send in search (SharedBytes.the_send, heap.crosses, sendable) depth 60 fits 20000

coded_sync : IsSync Coded.the_row
coded_sync = let value = value_field_sync in let row = value_sync in search (SharedBytes.the_sync, heap.crosses, sendable) depth 60 fits 20000

coded_field_sync : IsSync Coded.the_field.row
coded_field_sync = let value = value_field_sync in let row = value_sync in search (SharedBytes.the_sync, heap.crosses, sendable) depth 60 fits 20000

shelf_field_send : IsSend Shelf.the_field.row
shelf_field_send = let coded = coded_send in let field = coded_field_send in search (maps.crosses, heap.crosses, sendable) depth 60 fits 20000

shelf_field_sync : IsSync Shelf.the_field.row
shelf_field_sync = let coded = coded_sync in let field = coded_field_sync in search (maps.crosses, heap.crosses, sendable) depth 60 fits 20000

shelf_send : IsSend Shelf.the_row
shelf_send = let coded = coded_send in let field = coded_field_send in search (maps.crosses, heap.crosses, sendable) depth 60 fits 20000

shelf_sync : IsSync Shelf.the_row
shelf_sync = let coded = coded_sync in let field = coded_field_sync in search (maps.crosses, heap.crosses, sendable) depth 60 fits 20000

-- it lends the site and its files, so these are shared
pub world_send : (a : NamedLft) → IsSend (SiteWorld.the_row a)
world_send a =
    let site = site_sync in let coded = coded_field_send in let shelf = shelf_field_send in let shared = shelf_field_sync in let row = shelf_send in let shared_row = shelf_sync in let item = item_sync in
    search (Held.the_sync, ItemPlaces.the_field_send, Named.the_field_send, StaticFile.the_sync, heap.crosses, sendable) depth 60 fits 20000

pub world_sync : (a : NamedLft) → IsSync (SiteWorld.the_row a)
world_sync a =
    let site = site_sync in let coded = coded_field_sync in let shelf = shelf_field_sync in let sent = shelf_field_send in let row = shelf_sync in let sent_row = shelf_send in let item = item_sync in
    search (Held.the_sync, ItemPlaces.the_field_sync, Named.the_field_sync, StaticFile.the_sync, heap.crosses, sendable) depth 60 fits 20000
