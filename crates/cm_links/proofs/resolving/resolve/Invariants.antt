use Rattle.std.proofs.Common.{length, string_bytes, ◌≡◌, ◌++◌}
use denote.Shadow.{shadow}
use denote.Text.{Utf8}
use Rattle.markdown_grammar.specs.References.{resolved}
use Rattle.cm_links.proofs.resolving.resolve.Given as goal

abbrev pub invariant-loop-rest : goal.invariant-loop-rest
invariant-loop-rest l = shadow (Utf8 l.rest) × (string_bytes l.out ++ resolved l.rest ≡ resolved l.fn.text)

abbrev pub decreases-loop-rest : goal.decreases-loop-rest
decreases-loop-rest l = length l.rest
