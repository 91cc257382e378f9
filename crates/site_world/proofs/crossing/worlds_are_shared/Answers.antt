use denote.Param.Send.{sendable}
use Rattle.site_world.proofs.Crosses.{world_send, world_sync}
use Rattle.site_world.proofs.crossing.worlds_are_shared.Goals as goal

pub is_shared-requires-send-T : goal.is_shared-requires-send-T
is_shared-requires-send-T g c = search (world_send, sendable) depth 60 fits 20000

pub is_shared-requires-sync-T : goal.is_shared-requires-sync-T
is_shared-requires-sync-T g c = search (world_sync, sendable) depth 60 fits 20000
