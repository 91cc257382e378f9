use Rattle.std.proofs.Common.{◌≤◌, length, take, drop, arith}
use Rattle.std.proofs.lemmas.List.{length-take-le, take-append-drop}
use Rattle.std.proofs.Common.{sym}
use Rattle.site_script.proofs.body.read_more.Goals as goal

-- the bytes that could not be kept
pub returns-in-Err-extend_from_slice-clause-part : goal.returns-in-Err-extend_from_slice-clause-part
returns-in-Err-extend_from_slice-clause-part g c = λ text w.
    let gives = c.in-Ok.ensures.gives text w in
    let few : length (take c.in-Ok.count text) ≤ length c.args.block.now = omega (arith, length-take-le c.in-Ok.count text gives.2, c.in-Ok.ensures.bound, c.read.auto.into) in (
      take c.in-Ok.count text,
      record { rest = drop c.in-Ok.count text; left = gives.1; whole = sym (take-append-drop c.in-Ok.count text) },
      few,
      λ e. absurd (cc (e)),
    )
