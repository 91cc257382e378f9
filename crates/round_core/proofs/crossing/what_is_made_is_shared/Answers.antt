use denote.Param.Send.{sendable}
use Rattle.round_core.proofs.Crosses.{made_send, made_sync}
use Rattle.round_core.proofs.crossing.what_is_made_is_shared.Goals as goal

pub is_shared-requires-send-T : goal.is_shared-requires-send-T
is_shared-requires-send-T g c κs within =
    let s = c.type_bounds.send-M in
    let y = c.type_bounds.sync-M in
    search (made_send, sendable) depth 60 fits 20000

pub is_shared-requires-sync-T : goal.is_shared-requires-sync-T
is_shared-requires-sync-T g c κs within =
    let s = c.type_bounds.send-M in
    let y = c.type_bounds.sync-M in
    search (made_sync, sendable) depth 60 fits 20000
