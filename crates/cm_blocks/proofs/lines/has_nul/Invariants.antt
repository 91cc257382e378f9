use Rattle.std.proofs.Common.{◌≡◌, drop}
use Rattle.site_text.specs.Fronts.{has_one}
use Rattle.cm_blocks.specs.LineCuts.{is_nul}
use Rattle.cm_blocks.proofs.lines.has_nul.Given as goal

abbrev pub invariant-loop-c : goal.invariant-loop-c
invariant-loop-c l = has_one is_nul (drop l.c-index l.text) ≡ has_one is_nul l.text
