use Rattle.std.proofs.Common.{◌≡◌, ◌∙◌, ap, arith, get_or, length, sym, ◌<◌, List, ℕ}
use Rattle.cm_starts.proofs.Ends.{fence_is}
use Rattle.cm_starts.proofs.fences.fence.Goals as goal

pub returns : goal.returns
returns c =
    let t = c.args.text.now in
    let m = get_or c.as_bytes-bytes.result.now 0 0 in
    let some : 0 < length t = omega (arith, c.if-bytes-eq0.false, c.as_bytes-bytes.ensures.len) in
    let first : m ≡ get_or t 0 0 = ap (λ (x : List ℕ). get_or x 0 0) c.as_bytes-bytes.ensures.value in
    fence_is c.args.indent m c.run-len.result t c.range_from-info.result.now c.trim.result.now some first (sym c.is_mark.ensures ∙ c.if-not-is_mark.false) c.run-len.ensures.value (omega (arith, c.if-len-lt3.false)) c.range_from-info.ensures.value (sym c.spoils.ensures ∙ c.if-spoils.false) c.trim.ensures
