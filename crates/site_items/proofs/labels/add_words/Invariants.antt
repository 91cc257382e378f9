use Rattle.std.proofs.Common.{◌≡◌, length}
use Rattle.std.specs.Prelude.{fold}
use Rattle.std.specs.List.{slice_split}
use denote.Shadow.{shadow}
use denote.Text.{Utf8}
use Rattle.site_items.specs.Labels.{add_name, is_white}
use Rattle.site_items.proofs.labels.add_words.Given as goal

abbrev pub invariant-loop-word : goal.invariant-loop-word
invariant-loop-word l = shadow (Utf8 l.rest) × (fold add_name l.names (slice_split is_white l.rest) ≡ fold add_name l.initial.names (slice_split is_white l.text))

abbrev pub decreases-loop-word : goal.decreases-loop-word
decreases-loop-word l = length l.rest
