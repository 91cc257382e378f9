use denote.Param.Send.{sendable}
use Rattle.read_record.proofs.Crosses.{store_send, store_sync}
use Rattle.read_record.proofs.crossing.stores_are_shared.Goals as goal

pub is_shared-requires-send-T : goal.is_shared-requires-send-T
is_shared-requires-send-T c = search (store_send, sendable) depth 60 fits 20000

pub is_shared-requires-sync-T : goal.is_shared-requires-sync-T
is_shared-requires-sync-T c = search (store_sync, sendable) depth 60 fits 20000
