-- What threads may pass to each other and share: keys, records and entries.
use denote.RattleType.{RattleType}
use denote.Ref.{NamedLft}
use denote.Param.Send.{IsSend, IsSync, sendable}
use Rattle.std.proofs.Crossing as heap
use Rattle.std.proofs.MapsCrossing as maps
use Rattle.indexmap.proofs.map.IndexMap.TheSendSync as IndexMap
use Rattle.site_base.proofs.item_name.ItemName.TheSendSync as ItemName
use Rattle.site_base.proofs.path.SitePath.TheSendSync as SitePath
use Rattle.site_base.proofs.text.Text.TheSendSync as Text
use Rattle.site_base.proofs.value.Hash.TheLaws.TheKnot as values
use Rattle.slab.proofs.Slab.TheSendSync as Slab
use Rattle.text_pool.proofs.pool.Pool.TheSendSync as Pool
use Rattle.text_pool.proofs.text_id.TextId.TheSendSync as TextId
use Rattle.read_record.specs.declared.renderer.ItemMeaning as meaning
use Rattle.read_record.specs.contracts.entry.Entry as Entry
use Rattle.read_record.specs.contracts.fresh_read.FreshRead as FreshRead
use Rattle.read_record.specs.contracts.key.Key as Key
use Rattle.read_record.specs.contracts.key_table.KeySlot as KeySlot
use Rattle.read_record.specs.contracts.key_table.KeyTable as KeyTable
use Rattle.read_record.specs.contracts.numbered_entry.NumberedEntry as NumberedEntry
use Rattle.read_record.specs.contracts.read_shares.ReadShares as ReadShares
use Rattle.read_record.specs.contracts.read_store.ReadStore as ReadStore
use Rattle.read_record.specs.contracts.record.Record as Record
use Rattle.read_record.specs.contracts.shared_entry.SharedEntry as SharedEntry
use Rattle.read_record.specs.contracts.shared_key.SharedKey as SharedKey
use Rattle.read_record.specs.contracts.shared_key.TableKey as TableKey
use Rattle.read_record.proofs.seen_code.SeenCode.TheSendSync as SeenCode

-- a key in one step, which leaves `search` steps for the map of keys
pub key_send : IsSend Key.the_row
key_send = search (
  SitePath.the_send,
  ItemName.the_send,
  ItemName.the_sync,
  Text.the_send,
  Text.the_sync,
  maps.crosses,
  heap.crosses,
  values.crosses,
  sendable,
) depth 60 fits 20000

pub key_field_send : IsSend Key.the_field.row
key_field_send = search (
  SitePath.the_send,
  ItemName.the_send,
  ItemName.the_sync,
  Text.the_send,
  Text.the_sync,
  maps.crosses,
  heap.crosses,
  values.crosses,
  sendable,
) depth 60 fits 20000

key_sync : IsSync Key.the_row
key_sync = search (
  SitePath.the_sync,
  ItemName.the_send,
  ItemName.the_sync,
  Text.the_send,
  Text.the_sync,
  maps.crosses,
  heap.crosses,
  values.crosses,
  sendable,
) depth 60 fits 20000

-- ---- the keys and codes that records share

shared_key_send : IsSend SharedKey.the_row
shared_key_send = search (key_send, key_sync, heap.crosses, sendable) depth 60 fits 20000

shared_key_sync : IsSync SharedKey.the_row
shared_key_sync = search (key_send, key_sync, heap.crosses, sendable) depth 60 fits 20000

fresh_read_send : IsSend FreshRead.the_row
fresh_read_send = search (shared_key_send, SeenCode.the_send, heap.crosses, sendable) depth 60 fits 20000

fresh_read_sync : IsSync FreshRead.the_row
fresh_read_sync = search (shared_key_sync, SeenCode.the_sync, heap.crosses, sendable) depth 60 fits 20000

record_send : IsSend Record.the_row
record_send = search (fresh_read_send, heap.crosses, sendable) depth 60 fits 20000

record_sync : IsSync Record.the_row
record_sync = search (fresh_read_sync, heap.crosses, sendable) depth 60 fits 20000

table_key_send : (a : NamedLft) → IsSend (TableKey.the_row a)
table_key_send a = search (key_sync, shared_key_send, heap.crosses, sendable) depth 60 fits 20000

table_key_sync : (a : NamedLft) → IsSync (TableKey.the_row a)
table_key_sync a = search (key_sync, shared_key_sync, heap.crosses, sendable) depth 60 fits 20000

key_slot_send : IsSend KeySlot.the_row
key_slot_send = search (shared_key_send, heap.crosses, sendable) depth 60 fits 20000

key_slot_sync : IsSync KeySlot.the_row
key_slot_sync = search (shared_key_sync, heap.crosses, sendable) depth 60 fits 20000

key_table_send : IsSend KeyTable.the_row
key_table_send = search (table_key_send, key_slot_send, IndexMap.the_send, Slab.the_send, heap.crosses, sendable) depth 60 fits 20000

key_table_sync : IsSync KeyTable.the_row
key_table_sync = search (table_key_sync, key_slot_sync, IndexMap.the_sync, Slab.the_sync, heap.crosses, sendable) depth 60 fits 20000

pub store_field_send : IsSend ReadStore.the_field.row
store_field_send = search (key_table_send, Pool.the_send, heap.crosses, sendable) depth 60 fits 20000

pub store_send : IsSend ReadStore.the_row
store_send = search (key_table_send, Pool.the_send, heap.crosses, sendable) depth 60 fits 20000

pub store_field_sync : IsSync ReadStore.the_field.row
store_field_sync = search (key_table_sync, Pool.the_sync, heap.crosses, sendable) depth 60 fits 20000

pub store_sync : IsSync ReadStore.the_row
store_sync = search (key_table_sync, Pool.the_sync, heap.crosses, sendable) depth 60 fits 20000

-- ---- what the records of one worker share

pub shares_field_send : IsSend ReadShares.the_field.row
shares_field_send = search (table_key_send, fresh_read_send, IndexMap.the_send, heap.crosses, sendable) depth 60 fits 20000

pub shares_send : IsSend ReadShares.the_row
shares_send = search (table_key_send, fresh_read_send, IndexMap.the_send, heap.crosses, sendable) depth 60 fits 20000

-- ---- entries

module _ (M : RattleType) (m : meaning.Ghosts M.Denot) where
  pub entry_field_send : IsSend M → IsSend (Entry.the_field M m).row
  entry_field_send s = search (record_send, heap.crosses, sendable) depth 60 fits 20000

  pub entry_send : IsSend M → IsSend (Entry.the_row M m)
  entry_send s = search (record_send, heap.crosses, sendable) depth 60 fits 20000

  pub entry_field_sync : IsSync M → IsSync (Entry.the_field M m).row
  entry_field_sync y = search (record_sync, heap.crosses, sendable) depth 60 fits 20000

  pub entry_sync : IsSync M → IsSync (Entry.the_row M m)
  entry_sync y = search (record_sync, heap.crosses, sendable) depth 60 fits 20000

  pub shared_entry_field_send : IsSend M → IsSync M → IsSend (SharedEntry.the_field M m).row
  shared_entry_field_send s y = let es = entry_send s in let ey = entry_sync y in search (heap.crosses, sendable) depth 60 fits 20000

  pub shared_entry_send : IsSend M → IsSync M → IsSend (SharedEntry.the_row M m)
  shared_entry_send s y = let es = entry_send s in let ey = entry_sync y in search (heap.crosses, sendable) depth 60 fits 20000

  pub shared_entry_field_sync : IsSend M → IsSync M → IsSync (SharedEntry.the_field M m).row
  shared_entry_field_sync s y = let es = entry_send s in let ey = entry_sync y in search (heap.crosses, sendable) depth 60 fits 20000

  pub shared_entry_sync : IsSend M → IsSync M → IsSync (SharedEntry.the_row M m)
  shared_entry_sync s y = let es = entry_send s in let ey = entry_sync y in search (heap.crosses, sendable) depth 60 fits 20000

  pub numbered_entry_field_send : IsSend M → IsSend (NumberedEntry.the_field M m).row
  numbered_entry_field_send s = search (ItemName.the_field_send, Text.the_send, TextId.the_send, heap.crosses, sendable) depth 60 fits 20000

  pub numbered_entry_send : IsSend M → IsSend (NumberedEntry.the_row M m)
  numbered_entry_send s = search (ItemName.the_field_send, Text.the_send, TextId.the_send, heap.crosses, sendable) depth 60 fits 20000

  pub numbered_entry_field_sync : IsSync M → IsSync (NumberedEntry.the_field M m).row
  numbered_entry_field_sync y = search (ItemName.the_field_sync, Text.the_sync, TextId.the_sync, heap.crosses, sendable) depth 60 fits 20000

  pub numbered_entry_sync : IsSync M → IsSync (NumberedEntry.the_row M m)
  numbered_entry_sync y = search (ItemName.the_field_sync, Text.the_sync, TextId.the_sync, heap.crosses, sendable) depth 60 fits 20000
