use Rattle.std.proofs.Common.{ℕ, List, ◌∙◌, ◌+◌, ap, arith, drop}
use Rattle.std.specs.Option.{option_copied}
use Rattle.site_base.specs.Code.{past, code, text_code, items_code, pairs_code}
use Rattle.site_base.specs.Plain.{weight, items_weight, pairs_weight}
use Rattle.site_base.specs.View.{plain, items_of, pairs_of}
use Rattle.site_base.specs.declared.value.Value.{Value}
use Rattle.site_base.specs.declared.value.Pair.{Pair}
use Rattle.site_base.proofs.PastLaws.{past_item, past_pair, past_list, past_hash}
use Rattle.site_base.proofs.Weights.{item_lighter, pair_lighter}
use Rattle.site_base.proofs.value.+past.Goals as goal

pub List::past_code-loop-value-preserved : goal.List::past_code-loop-value-preserved
List::past_code-loop-value-preserved t c =
    let vs = c.as_slice-value-items.result.now in let i = c.loop-value.value-index in let rest = option_copied c.loop-value.rest in
    ap (past (items_code (items_of (drop (i + 1) vs)))) (c.past_value-rest.ensures ∙ ap (λ (v : Value). past (code (plain v)) rest) c.value-item.is)
    ∙ past_item vs i c.value-item.result rest c.loop-value-test.true ∙ c.loop-value.invariant

pub List::past_code-returns : goal.List::past_code-returns
List::past_code-returns t c =
    past_list c.args.self.now c.as_slice-value-items.result.now c.loop-value.value-index c.len.result
    (option_copied c.args.bytes) (option_copied c.past_head-rest.result) (option_copied c.loop-value.rest)
    c.as_slice-value-items.ensures c.len.ensures c.past_head-rest.ensures c.loop-value-test.false c.loop-value.invariant

pub Hash::past_code-loop-pair-preserved : goal.Hash::past_code-loop-pair-preserved
Hash::past_code-loop-pair-preserved t c =
    let ps = c.as_slice-pair-items.result.now in let i = c.loop-pair.pair-index in let rest = option_copied c.loop-pair.rest in
    ap (past (pairs_code (pairs_of (drop (i + 1) ps))))
    (c.past_value-rest.ensures ∙ ap (past (code (plain c.pair-item.result.value))) (c.past_text.ensures ∙ ap (λ (k : List ℕ). past (text_code k) rest) c.as_str.ensures)
    ∙ ap (λ (p : Pair). past (code (plain p.value)) (past (text_code p.key) rest)) c.pair-item.is)
    ∙ past_pair ps i c.pair-item.result rest c.loop-pair-test.true ∙ c.loop-pair.invariant

pub Hash::past_code-returns : goal.Hash::past_code-returns
Hash::past_code-returns t c =
    past_hash c.args.self.now c.as_slice-pair-items.result.now c.loop-pair.pair-index c.len.result
    (option_copied c.args.bytes) (option_copied c.past_head-rest.result) (option_copied c.loop-pair.rest)
    c.as_slice-pair-items.ensures c.len.ensures c.past_head-rest.ensures c.loop-pair-test.false c.loop-pair.invariant

pub List::past_code-past_value-rest-requires : goal.List::past_code-past_value-rest-requires
List::past_code-past_value-rest-requires t c =
    (omega (arith, item_lighter _ c.loop-value.value-index c.value-item.result c.loop-value-test.true, ap (λ v. weight (plain v)) c.value-item.is, ap items_weight c.as_slice-value-items.ensures, c.decreases), tt)

pub Hash::past_code-past_value-rest-requires : goal.Hash::past_code-past_value-rest-requires
Hash::past_code-past_value-rest-requires t c =
    (omega (arith, pair_lighter _ c.loop-pair.pair-index c.pair-item.result c.loop-pair-test.true, ap (λ p. weight (plain p.value)) c.pair-item.is, ap pairs_weight c.as_slice-pair-items.ensures, c.decreases), tt)
