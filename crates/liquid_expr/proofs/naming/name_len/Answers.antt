use Rattle.std.proofs.Common.{arith, ◌≡◌, ◌+◌, ap, sym, ◌∙◌, drop, true, false, slice_index}
use Rattle.liquid_grammar.specs.Tags.{name_len, next_place, ends_at}
use Rattle.liquid_expr.proofs.NameLaws.{name_on, name_stops, name_ends}
use Rattle.liquid_expr.proofs.naming.name_len.Goals as goal

pub loop-at-preserved : goal.loop-at-preserved
loop-at-preserved c =
    let text = c.args.text.now in
    let at = c.loop-at.at in
    let on : ends_at c.loop-at.place (slice_index text at) ≡ false = sym c.ends_at.ensures ∙ c.if-not-ends_at.true in
    let place : c.next_place-place.result ≡ next_place c.loop-at.place (drop at text) = c.next_place-place.ensures ∙ ap (next_place c.loop-at.place) c.tail.ensures in
    record {
      within = omega arith;
      told = ap (λ p. at + 1 + name_len p (drop (at + 1) text)) place ∙ name_on c.loop-at.place text at c.loop-at-test.true on ∙ c.loop-at.invariant.told;
    }

pub returns-else-not-ends_at-clause-value : goal.returns-else-not-ends_at-clause-value
returns-else-not-ends_at-clause-value c =
    let stops : ends_at c.loop-at.place (slice_index c.args.text.now c.loop-at.at) ≡ true = sym c.ends_at.ensures ∙ c.if-not-ends_at.false in
    sym (name_stops c.loop-at.place c.args.text.now c.loop-at.at c.loop-at-test.true stops) ∙ c.loop-at.invariant.told

pub returns-after-loop-at-clause-value : goal.returns-after-loop-at-clause-value
returns-after-loop-at-clause-value c = sym (name_ends c.loop-at.place c.args.text.now c.loop-at.at c.loop-at-test.false) ∙ c.loop-at.invariant.told
