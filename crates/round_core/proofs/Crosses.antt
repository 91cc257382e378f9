-- What threads may pass to each other and share: what was made of an item.
use denote.RattleType.{RattleType}
use denote.Param.Send.{IsSend, IsSync, sendable}
use Rattle.std.proofs.Crossing as heap
use Rattle.read_record.specs.declared.renderer.ItemMeaning as meaning
use Rattle.read_record.proofs.Crosses.{shared_entry_field_send, shared_entry_field_sync}
use Rattle.round_core.specs.contracts.made.Made as Made

module _ (M : RattleType) (m : meaning.Ghosts M.Denot) where
  pub made_field_send : IsSend M → IsSync M → IsSend (Made.the_field M m).row
  made_field_send s y = let e = shared_entry_field_send M m s y in search (heap.crosses, sendable) depth 60 fits 20000

  pub made_send : IsSend M → IsSync M → IsSend (Made.the_row M m)
  made_send s y = let e = shared_entry_field_send M m s y in search (heap.crosses, sendable) depth 60 fits 20000

  pub made_field_sync : IsSend M → IsSync M → IsSync (Made.the_field M m).row
  made_field_sync s y = let e = shared_entry_field_sync M m s y in search (heap.crosses, sendable) depth 60 fits 20000

  pub made_sync : IsSend M → IsSync M → IsSync (Made.the_row M m)
  made_sync s y = let e = shared_entry_field_sync M m s y in search (heap.crosses, sendable) depth 60 fits 20000
