use Rattle.std.proofs.Common.{◌≡◌, arith, get_or}
use Rattle.cm_containers.proofs.Entering.{quote_kept, quote_left_end, quote_left_far, quote_left_other}
use Rattle.cm_containers.proofs.Steps.{spot_behind}
use Rattle.cm_containers.proofs.matching.enter_quote.Goals as goal
use Rattle.cm_containers.proofs.matching.enter_quote.Goals.{then-mark-spot-eq4-via-then-mark-spot-eq4, then-mark-spot-eq4-via-else-mark-spot-eq4+then-mark-bytes, then-mark-spot-eq4-via-else-mark-spot-eq4+else-mark-bytes+then-bytes-mark-ne62}

pub returns-then-mark-spot-eq4-clause-rest : goal.returns-then-mark-spot-eq4-clause-rest
returns-then-mark-spot-eq4-clause-rest c =
    let line = c.args.line.now in
    let s = c.args.spot in
    let t = c.shift-mark.result in
    let rest = c.shift-mark.ensures.rest in
    let is = c.shift-mark.ensures.spot in
    elim c.then-mark-spot-eq4.branch [
      | then-mark-spot-eq4-via-then-mark-spot-eq4 w ↦ quote_left_far line s t rest w.if-mark-spot-eq4.true
      | then-mark-spot-eq4-via-else-mark-spot-eq4+then-mark-bytes w ↦ quote_left_end line s t is rest w.if-mark-spot-eq4.false (omega (arith, w.if-mark-bytes.true, c.as_bytes-bytes.ensures.len))
      | then-mark-spot-eq4-via-else-mark-spot-eq4+else-mark-bytes+then-bytes-mark-ne62 w ↦ quote_left_other line s t is rest w.if-mark-spot-eq4.false (omega (arith, is.within, w.if-mark-bytes.false, c.as_bytes-bytes.ensures.len)) (rw c.as_bytes-bytes.ensures.value at w.if-bytes-mark-ne62.true)
    ]

pub shift-requires : goal.shift-requires
shift-requires c =
    let t = c.shift-mark.result in
    let mark : get_or c.args.line.now t.at 0 ≡ 62 = rw c.as_bytes-bytes.ensures.value at c.if-bytes-mark-ne62.false in
    spot_behind c.args.line.now t c.behind.result c.utf8.line c.shift-mark.ensures.spot (omega (arith, c.shift-mark.ensures.spot.within, c.if-mark-bytes.false, c.as_bytes-bytes.ensures.len)) (omega (arith, mark)) (λ bad. omega (arith, bad, mark)) c.behind.ensures

pub returns-clause-rest : goal.returns-clause-rest
returns-clause-rest c =
    let line = c.args.line.now in
    let t = c.shift-mark.result in
    let mark : get_or line t.at 0 ≡ 62 = rw c.as_bytes-bytes.ensures.value at c.if-bytes-mark-ne62.false in
    quote_kept line c.args.spot t c.behind.result c.shift.result c.shift-mark.ensures.spot c.shift-mark.ensures.rest c.if-mark-spot-eq4.false (omega (arith, c.shift-mark.ensures.spot.within, c.if-mark-bytes.false, c.as_bytes-bytes.ensures.len)) mark c.behind.ensures c.shift.ensures.rest
