use Rattle.std.proofs.Common.{◌≡◌, length, map}
use Rattle.site_text.specs.Bytes.{lowered}
use Rattle.markdown_grammar.specs.HtmlStarts as grammar
use Rattle.cm_starts.proofs.names.is_among.Given as goal

abbrev pub invariant-loop-names : goal.invariant-loop-names
invariant-loop-names l = grammar.is_among (map (λ n. n.now) l.names) (lowered l.name) ≡ grammar.is_among (map (λ n. n.now) l.initial.names) (lowered l.name)

abbrev pub decreases-loop-names : goal.decreases-loop-names
decreases-loop-names l = length l.names
