-- What threads may pass to each other and share: the entries that are kept.
use denote.RattleType.{RattleType}
use denote.Param.Send.{IsSend, IsSync, sendable}
use Rattle.std.proofs.Crossing as heap
use Rattle.indexmap.proofs.map.IndexMap.TheSendSync as IndexMap
use Rattle.read_record.specs.declared.renderer.ItemMeaning as meaning
use Rattle.read_record.proofs.Crosses.{numbered_entry_field_send, numbered_entry_field_sync, store_field_send, store_field_sync}
use Rattle.memo_table.specs.contracts.memo.Memo as Memo
use Rattle.memo_table.proofs.name_key.NameKey.TheSendSync as NameKey

module _ (M : RattleType) (m : meaning.Ghosts M.Denot) where
  pub memo_send : IsSend M → IsSend (Memo.the_row M m)
  memo_send s = let e = numbered_entry_field_send M m s in let t = store_field_send in search (NameKey.the_send, IndexMap.the_send, heap.crosses, sendable) depth 60 fits 20000

  pub memo_field_sync : IsSync M → IsSync (Memo.the_field M m).row
  memo_field_sync y = let e = numbered_entry_field_sync M m y in let t = store_field_sync in search (NameKey.the_sync, IndexMap.the_sync, heap.crosses, sendable) depth 60 fits 20000

  pub memo_sync : IsSync M → IsSync (Memo.the_row M m)
  memo_sync y = let e = numbered_entry_field_sync M m y in let t = store_field_sync in search (NameKey.the_sync, IndexMap.the_sync, heap.crosses, sendable) depth 60 fits 20000
