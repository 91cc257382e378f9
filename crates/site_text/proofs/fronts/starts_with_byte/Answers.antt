use Rattle.std.proofs.Common.{sym, ap, arith, ◌<◌, length, List, ℕ}
use Rattle.site_text.proofs.Words.{begins_one}
use Rattle.site_text.proofs.Runs.{boundary_byte}
use Rattle.site_text.proofs.fronts.starts_with_byte.Goals as goal

pub returns : goal.returns
returns c =
    let text = c.args.text.now in
    let e = rw c.as_bytes-bytes.ensures.value at c.if-bytes-c.false in
    let some : 0 < length text = omega (arith, c.if-bytes-eq0.false, c.as_bytes-bytes.ensures.len, ap (λ (t : List ℕ). length t) c.as_bytes-bytes.ensures.value) in
    record { value = sym (begins_one text c.args.c some e); cut = boundary_byte text 0 c.args.c c.utf8.text some e c.requires }
