-- Runs of white space and of unquoted bytes, beyond ASCII.
use Rattle.std.proofs.Common.{◌≡◌, ℕ, ◌≤◌, arith, false, true}
use Rattle.site_text.specs.declared.classes.Class.TheVariants.{Unquoted}
use Rattle.site_text.proofs.Ascii.{beyond_ascii}
use Rattle.link_check.specs.Tags.{is_gap, is_unquoted}

pub gap_beyond : (c : ℕ) → 128 ≤ c → is_gap c ≡ false
gap_beyond c h = grind arith

pub unquoted_beyond : (c : ℕ) → 128 ≤ c → is_unquoted c ≡ true
unquoted_beyond c h = grind (arith, beyond_ascii Unquoted c h)
