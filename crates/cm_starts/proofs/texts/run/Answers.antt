use Rattle.std.proofs.Common.{◌≡◌, ◌==◌, true, get_or, arith}
use Rattle.std.proofs.lemmas.Str.{IsCharBoundary-start}
use Rattle.site_text.proofs.Runs.{boundary_byte, run_more}
use Rattle.cm_starts.proofs.texts.run.Goals as goal

pub loop-i-init : goal.loop-i-init
loop-i-init c = record { within = omega arith; cut = IsCharBoundary-start _ c.as_bytes-bytes.ensures.utf8; so_far = omega arith }

pub loop-i-preserved : goal.loop-i-preserved
loop-i-preserved c =
    let same : (get_or c.as_bytes-bytes.result.now c.loop-i.i 0 == c.args.c) ≡ true = grind (arith, c.if-bytes-i.true) in
    record {
      within = omega (arith, c.loop-i-test.true);
      cut = boundary_byte _ c.loop-i.i c.args.c c.as_bytes-bytes.ensures.utf8 c.loop-i-test.true c.if-bytes-i.true c.requires;
      so_far = run_more (λ d. d == c.args.c) _ c.loop-i.i _ c.loop-i-test.true same c.loop-i.invariant.so_far;
    }
