use Rattle.std.proofs.Common.{◌≡◌, length}
use Rattle.text_filters.specs.UrlTexts.{url_bytes}
use Rattle.text_filters.proofs.UrlLaws.{behind}
use Rattle.text_filters.proofs.url_texts.url_bytes.Given as goal

abbrev pub invariant-loop-rest : goal.invariant-loop-rest
invariant-loop-rest l = behind l.made.items (url_bytes l.rest) ≡ url_bytes l.written

abbrev pub decreases-loop-rest : goal.decreases-loop-rest
decreases-loop-rest l = length l.rest
