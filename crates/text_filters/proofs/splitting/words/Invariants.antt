use Rattle.std.proofs.Common.{◌≡◌, length}
use denote.Shadow.{shadow}
use denote.Text.{Utf8}
use Rattle.site_base.specs.Plain.{onto}
use Rattle.text_filters.specs.Splitting.{text_items}
use Rattle.text_filters.specs.Words.{words}
use Rattle.text_filters.proofs.splitting.words.Given as goal

abbrev pub invariant-loop-word : goal.invariant-loop-word
invariant-loop-word l = record {
  utf8 : shadow (Utf8 l.rest);
  so_far : onto l.list (text_items (words l.rest)) ≡ text_items (words l.whole);
}

abbrev pub decreases-loop-word : goal.decreases-loop-word
decreases-loop-word l = length l.rest
