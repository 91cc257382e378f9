use Rattle.std.proofs.Common.{◌≡◌, ◌++◌, ◌≤◌, drop, map}
use Rattle.std.specs.Prelude.{fold}
use Rattle.std.specs.FinMap as finite
use Rattle.std.specs.Option.{option_copied}
use Rattle.site_reader.specs.Kept.{is_parsed, parsed_under}
use Rattle.site_reader.specs.Placements.{ArePlaced, bytes_at, bytes_in}
use Rattle.site_reader.proofs.KeptLaws.{counting}
use Rattle.site_reader.proofs.renewal.renewed_files.Given as goal

abbrev pub invariant-loop-number : goal.invariant-loop-number
invariant-loop-number g l =
    (map bytes_at l.files.items ++ drop l.number (finite.entries l.held) ≡ finite.entries l.held)
    × (fold (counting (is_parsed l.rules.rules.config.now l.rules.told.drafts (bytes_in l.old.files))) l.parsed (drop l.number (finite.entries l.held)) ≡ parsed_under l.rules.rules.config.now l.rules.told.drafts (bytes_in l.old.files) l.held)
    × (l.parsed ≤ l.number)
    × ArePlaced (option_copied l.rules.told.bytes) l.rules.told.drafts l.files.items
