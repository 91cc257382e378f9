use denote.Param.Send.{sendable}
use Rattle.read_record.proofs.Crosses.{shared_entry_send, shared_entry_sync}
use Rattle.read_record.proofs.crossing.shared_entries_are_shared.Goals as goal

pub is_shared-requires-send-T : goal.is_shared-requires-send-T
is_shared-requires-send-T g c κs within =
    let s = c.type_bounds.send-M in
    let y = c.type_bounds.sync-M in
    search (shared_entry_send, sendable) depth 60 fits 20000

pub is_shared-requires-sync-T : goal.is_shared-requires-sync-T
is_shared-requires-sync-T g c κs within =
    let s = c.type_bounds.send-M in
    let y = c.type_bounds.sync-M in
    search (shared_entry_sync, sendable) depth 60 fits 20000
