-- What may cross threads.
use denote.RattleType.{RattleType}
use denote.Param.Send.{IsSend, IsSync, sendable}
use Rattle.std.proofs.Crossing as heap
use Rattle.std.proofs.option.Option.TheSendSync as Option
use Rattle.site_base.proofs.item_name.ItemName.TheSendSync as ItemName
use Rattle.read_record.specs.declared.renderer.ItemMeaning as meaning
use Rattle.read_record.proofs.Crosses.{key_field_send, key_send, shared_entry_field_send}
use Rattle.read_record.proofs.tally.Tally.TheSendSync as Tally
use Rattle.round_core.proofs.Crosses.{made_field_send, made_field_sync}
use Rattle.once_cell.proofs.race.once_box.OnceBox.TheSendSync as OnceBox
use Rattle.claim_table.proofs.seat.ClaimSeat.TheSendSync as ClaimSeat
use Rattle.render_workers.specs.contracts.answers.Why as Why
use Rattle.render_workers.specs.contracts.cells.Cells as Cells
use Rattle.render_workers.specs.contracts.part.Brought as Brought
use Rattle.render_workers.specs.contracts.part.Part as Part
use Rattle.render_workers.specs.contracts.part.Work as Work

module _ (M : RattleType) (m : meaning.Ghosts M.Denot) where
  -- ---- what a worker brings back

  why_send : IsSend Why.the_field.row
  why_send = search (key_send, key_field_send, ItemName.the_send, ItemName.the_field_send, Option.the_send, heap.crosses, sendable) depth 60 fits 20000

  work_field_send : IsSend M → IsSync M → IsSend (Work.the_field M m).row
  work_field_send s y = let e = shared_entry_field_send M m s y in let w = why_send in search (heap.crosses, sendable) depth 60 fits 20000

  work_send : IsSend M → IsSync M → IsSend (Work.the_row M m)
  work_send s y = let e = shared_entry_field_send M m s y in let w = why_send in search (heap.crosses, sendable) depth 60 fits 20000

  brought_field_send : IsSend M → IsSync M → IsSend (Brought.the_field M m).row
  brought_field_send s y = let w = work_field_send s y in search (heap.crosses, sendable) depth 60 fits 20000

  brought_send : IsSend M → IsSync M → IsSend (Brought.the_row M m)
  brought_send s y = let w = work_field_send s y in search (heap.crosses, sendable) depth 60 fits 20000

  pub part_field_send : IsSend M → IsSync M → IsSend (Part.the_field M m).row
  part_field_send s y = let b = brought_field_send s y in search (ClaimSeat.the_send, Tally.the_send, heap.crosses, sendable) depth 60 fits 20000

  pub part_send : IsSend M → IsSync M → IsSend (Part.the_row M m)
  part_send s y = let b = brought_field_send s y in search (ClaimSeat.the_send, Tally.the_send, heap.crosses, sendable) depth 60 fits 20000

  -- ---- what workers share

  pub cells_field_sync : IsSend M → IsSync M → IsSync (Cells.the_field M m).row
  cells_field_sync s y = let a = made_field_send M m s y in let b = made_field_sync M m s y in search (OnceBox.the_sync, heap.crosses, sendable) depth 60 fits 20000

  pub cells_sync : IsSend M → IsSync M → IsSync (Cells.the_row M m)
  cells_sync s y = let a = made_field_send M m s y in let b = made_field_sync M m s y in search (OnceBox.the_sync, heap.crosses, sendable) depth 60 fits 20000
