use Rattle.std.proofs.lemmas.Str.{IsCharBoundary-before_ascii}
use Rattle.std.proofs.Common.{false, ℕ, ◌+◌, ◌∙◌, ap, sym, drop, arith, Some}
use Rattle.markdown_grammar.specs.Readers.{plus}
use Rattle.markdown_grammar.specs.Destinations.{bare_len}
use Rattle.cm_links.specs.declared.destinations.Next.{Next}
use Rattle.cm_links.specs.Bare.{going}
use Rattle.cm_links.proofs.Bare.{bare_more, plus_plus}
use Rattle.cm_links.proofs.destinations.bare_len.Goals as goal

pub returns-in-Stop-clause-value : goal.returns-in-Stop-clause-value
returns-in-Stop-clause-value c =
    let text = c.as_bytes-bytes.result.now in
    let i = c.loop-i.i in
    let far = bare_more text i c.loop-i.is_escaped c.loop-i.depth (bare_len false 0 text) c.loop-i-test.true c.loop-i.invariant.so_far in
    ap (λ (n : ℕ). Some n) (omega arith) ∙ ap (λ (n : Next). plus i (going n (drop (i + 1) text))) c.in-Stop.ensures.value ∙ far ∙ ap (bare_len false 0) c.as_bytes-bytes.ensures.value

pub returns-in-Refuse-clause-value : goal.returns-in-Refuse-clause-value
returns-in-Refuse-clause-value c =
    let text = c.as_bytes-bytes.result.now in
    let i = c.loop-i.i in
    let far = bare_more text i c.loop-i.is_escaped c.loop-i.depth (bare_len false 0 text) c.loop-i-test.true c.loop-i.invariant.so_far in
    ap (λ (n : Next). plus i (going n (drop (i + 1) text))) c.in-Refuse.ensures.value ∙ far ∙ ap (bare_len false 0) c.as_bytes-bytes.ensures.value

pub loop-i-preserved : goal.loop-i-preserved
loop-i-preserved c =
    let text = c.as_bytes-bytes.result.now in
    let i = c.loop-i.i in
    let far = bare_more text i c.loop-i.is_escaped c.loop-i.depth (bare_len false 0 text) c.loop-i-test.true c.loop-i.invariant.so_far in
    record {
      within = omega arith;
      deep = c.in-Go.ensures.small;
      so_far = sym (plus_plus i (bare_len c.in-Go.escapes c.in-Go.deep (drop (i + 1) text))) ∙ ap (λ (n : Next). plus i (going n (drop (i + 1) text))) c.in-Go.ensures.value ∙ far;
    }

pub returns-in-Stop-clause-cut : goal.returns-in-Stop-clause-cut
returns-in-Stop-clause-cut c = rw c.as_bytes-bytes.ensures.value at (IsCharBoundary-before_ascii c.as_bytes-bytes.result.now c.loop-i.i c.loop-i-test.true (c.in-Stop.ensures.ascii tt))
