use Rattle.std.proofs.Common.{length, ◌≡◌, ◌≤◌, reverse, take}
use Rattle.std.specs.Str.{IsCharBoundary}
use Rattle.site_text.specs.Bytes.{is_space}
use Rattle.cm_starts.specs.Runs.{behind_run}
use Rattle.cm_starts.proofs.texts.before_spaces.Given as goal

abbrev pub invariant-loop-end : goal.invariant-loop-end
invariant-loop-end l = record {
  within : l.end ≤ length l.bytes;
  cut : IsCharBoundary l.bytes l.end;
  so_far : behind_run is_space (reverse (take l.end l.bytes)) ≡ behind_run is_space (reverse l.bytes);
}

abbrev pub decreases-loop-end : goal.decreases-loop-end
decreases-loop-end l = l.end
