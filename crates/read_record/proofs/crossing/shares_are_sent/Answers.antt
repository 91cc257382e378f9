use denote.Param.Send.{sendable}
use Rattle.read_record.proofs.Crosses.{shares_send}
use Rattle.read_record.proofs.crossing.shares_are_sent.Goals as goal

pub is_sent-requires-send-T : goal.is_sent-requires-send-T
is_sent-requires-send-T c = search (shares_send, sendable) depth 60 fits 20000
