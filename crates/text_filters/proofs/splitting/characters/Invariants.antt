use Rattle.std.proofs.Common.{◌≡◌, length}
use denote.Shadow.{shadow}
use denote.Text.{Utf8}
use Rattle.site_base.specs.Plain.{onto}
use Rattle.text_filters.specs.Splitting.{characters, text_items}
use Rattle.text_filters.proofs.splitting.characters.Given as goal

abbrev pub invariant-loop-first : goal.invariant-loop-first
invariant-loop-first l = record {
  utf8 : shadow (Utf8 l.rest);
  so_far : onto l.list (text_items (characters l.rest)) ≡ text_items (characters l.whole);
}

abbrev pub decreases-loop-first : goal.decreases-loop-first
decreases-loop-first l = length l.rest
