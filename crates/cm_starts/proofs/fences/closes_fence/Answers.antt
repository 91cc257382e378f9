use Rattle.std.proofs.Common.{◌∙◌, ap, sym, List, ℕ}
use Rattle.markdown_grammar.specs.Columns.{indent}
use Rattle.cm_starts.specs.Runs.{closes_at}
use Rattle.cm_starts.proofs.fences.closes_fence.Goals as goal

pub returns : goal.returns
returns c col line i t =
    c.closes.ensures ∙ ap (λ (u : List ℕ). closes_at c.args.mark c.args.len c.args.indent u) c.as_bytes.ensures.value ∙ sym (ap (λ (n : ℕ). closes_at c.args.mark c.args.len n c.args.text.now) i) ∙ sym (ap (λ (u : List ℕ). closes_at c.args.mark c.args.len (indent col line) u) t)
