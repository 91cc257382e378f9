use denote.Param.Send.{sendable}
use Rattle.std.proofs.Crossing as heap
use Rattle.site_base.proofs.errors.Memory.TheSendSync as Memory
use Rattle.claim_table.proofs.table.ClaimTable.TheSendSync as ClaimTable
use Rattle.memo_table.proofs.Crosses.{memo_sync, memo_field_sync}
use Rattle.render_workers.proofs.Crosses.{part_send, part_field_send, cells_sync, cells_field_sync}
use Rattle.render_workers.proofs.spreading.spread.Goals as goal

pub map_vec-requires-send-X : goal.map_vec-requires-send-X
map_vec-requires-send-X g c κs within =
    let s = c.type_bounds.send-R-Meaning in
    let y = c.type_bounds.sync-R-Meaning in
    search (part_send, part_field_send, Memory.the_send, heap.crosses, sendable) depth 60 fits 20000

pub map_vec-requires-sync-F : goal.map_vec-requires-sync-F
map_vec-requires-sync-F g c κs within =
    let s = c.type_bounds.send-R-Meaning in
    let y = c.type_bounds.sync-R-Meaning in
    let h = c.type_bounds.sync-H in
    let r = c.type_bounds.sync-R in
    let w = c.type_bounds.sync-W in
    search (memo_sync, memo_field_sync, cells_sync, cells_field_sync, ClaimTable.the_sync, heap.crosses, sendable) depth 60 fits 20000
