use Rattle.std.proofs.Common.{◌≡◌, ◌+◌, ◌<◌, ◌∷◌, ap, sym, ◌∙◌, subst, Ok, true, false, arith, drop}
use Rattle.std.proofs.lemmas.List.{drop_more, drop_all}
use Rattle.site_base.specs.Chains.{◌>>=◌}
use Rattle.site_base.specs.Plain.{list, hash}
use Rattle.site_base.specs.View.{plain}
use Rattle.site_base.specs.declared.faults.YamlKind.TheVariants as kind
use Rattle.front_yaml.specs.declared.faults.YamlError.{YamlError}
use Rattle.front_yaml.specs.declared.faults.YamlError.TheVariants as yaml_error
use Rattle.front_yaml.specs.TextLines.{inside}
use Rattle.front_yaml.specs.Given.{Gives, FailsLines}
use Rattle.front_yaml.specs.LineRuns.{is_pair, is_item}
use Rattle.front_yaml.specs.LineLeaves.{leaf_lines}
use Rattle.front_yaml.specs.Blocks.{block, sequence, all_entries, mapping_pairs}
use Rattle.front_yaml.specs.Keys.{starts_block, is_dash}
use Rattle.front_yaml.proofs.BlockCases.{block-leaf, block-deep, block-sequence, block-mapping, fails-on}
use Rattle.front_yaml.proofs.Entries.{item_more, item_fails_by, items_end, pair_more, pair_fails_by, pairs_end, first_item, first_pair, items_from, pairs_from, with_items, with_pairs}
use Rattle.front_yaml.proofs.blocks.+block.Goals as goal

pub block-returns-then-not-starts_block : goal.block-returns-then-not-starts_block
block-returns-then-not-starts_block t c =
    let e : starts_block (inside c.args.head.now) ≡ false = ap starts_block (sym c.inside-text.ensures) ∙ sym c.starts_block.ensures ∙ c.if-not-starts_block.true in
    subst (Gives c.leaf_lines.result) (ap (λ s. leaf_lines c.args.depth c.args.floor c.args.head.now s c.args.body.now) c.inside-text.ensures ∙ sym (block-leaf _ _ _ _ e)) c.leaf_lines.ensures

pub block-returns-then-depth-eq0 : goal.block-returns-then-depth-eq0
block-returns-then-depth-eq0 t c =
    let e : starts_block (inside c.args.head.now) ≡ true = ap starts_block (sym c.inside-text.ensures) ∙ sym c.starts_block.ensures ∙ c.if-not-starts_block.false in
    let told = c.at.ensures ∙ ap (λ n. yaml_error.Fault (record { line = n; kind = kind.Depth })) c.number.ensures.value in
    subst (λ (x : YamlError). FailsLines x (block c.args.depth c.args.floor (c.args.head.now ∷ c.args.body.now))) (sym told) (block-deep c.args.depth c.args.floor c.args.head.now c.args.body.now c.if-depth-eq0.true e)

pub block-returns-in-Ok : goal.block-returns-in-Ok
block-returns-in-Ok t c =
    let e : starts_block (inside c.args.head.now) ≡ true = ap starts_block (sym c.inside-text.ensures) ∙ sym c.starts_block.ensures ∙ c.if-not-starts_block.false in
    let k : is_dash (inside c.args.head.now) ≡ true = ap is_dash (sym c.inside-text.ensures) ∙ sym c.is_dash.ensures ∙ c.if-is_dash.true in
    let lt : 0 < c.args.depth = omega arith in
    block-sequence _ _ _ _ lt e k ∙ ap (λ r. r >>= λ vs. Ok (list vs)) c.in-Ok.ensures

pub block-returns-in-Err : goal.block-returns-in-Err
block-returns-in-Err t c =
    let e : starts_block (inside c.args.head.now) ≡ true = ap starts_block (sym c.inside-text.ensures) ∙ sym c.starts_block.ensures ∙ c.if-not-starts_block.false in
    let k : is_dash (inside c.args.head.now) ≡ true = ap is_dash (sym c.inside-text.ensures) ∙ sym c.is_dash.ensures ∙ c.if-is_dash.true in
    let lt : 0 < c.args.depth = omega arith in
    fails-on _ (λ vs. Ok (list vs)) _ _ (block-sequence _ _ _ _ lt e k) c.in-Err.ensures

pub block-returns-in-Ok-mapping : goal.block-returns-in-Ok-mapping
block-returns-in-Ok-mapping t c =
    let e : starts_block (inside c.args.head.now) ≡ true = ap starts_block (sym c.inside-text.ensures) ∙ sym c.starts_block.ensures ∙ c.if-not-starts_block.false in
    let k : is_dash (inside c.args.head.now) ≡ false = ap is_dash (sym c.inside-text.ensures) ∙ sym c.is_dash.ensures ∙ c.if-is_dash.false in
    let lt : 0 < c.args.depth = omega arith in
    block-mapping _ _ _ _ lt e k ∙ ap (λ r. r >>= λ ps. Ok (hash ps)) c.in-Ok-mapping.ensures

pub block-returns-in-Err-mapping : goal.block-returns-in-Err-mapping
block-returns-in-Err-mapping t c =
    let e : starts_block (inside c.args.head.now) ≡ true = ap starts_block (sym c.inside-text.ensures) ∙ sym c.starts_block.ensures ∙ c.if-not-starts_block.false in
    let k : is_dash (inside c.args.head.now) ≡ false = ap is_dash (sym c.inside-text.ensures) ∙ sym c.is_dash.ensures ∙ c.if-is_dash.false in
    let lt : 0 < c.args.depth = omega arith in
    fails-on _ (λ ps. Ok (hash ps)) _ _ (block-mapping _ _ _ _ lt e k) c.in-Err-mapping.ensures

pub mapping-returns-in-Err : goal.mapping-returns-in-Err
mapping-returns-in-Err t c =
    let d = c.args.depth in
    let n = c.indent-indent.result in
    let k = c.before_pair-more.result in
    let rest = c.loop-pair.rest.now in
    let h = subst (λ xs. FailsLines c.in-Err.error (first_pair d (block d) n (is_pair n) c.loop-pair.first.now xs)) c.first_lines.ensures c.in-Err.ensures in
    subst (λ m. FailsLines c.in-Err.error (mapping_pairs c.args.depth (block c.args.depth) m c.args.head.now c.args.body.now)) c.indent-indent.ensures.value (pair_fails_by d (block d) n (is_pair n) c.loop-pair.first.now rest k c.loop-pair.pairs c.in-Err.error _ c.before_pair-more.ensures.value c.loop-pair.invariant.told h)

pub mapping-returns-then-more-rest : goal.mapping-returns-then-more-rest
mapping-returns-then-more-rest t c =
    let d = c.args.depth in
    let n = c.indent-indent.result in
    let k = c.before_pair-more.result in
    let rest = c.loop-pair.rest.now in
    let h = subst (λ xs. first_pair d (block d) n (is_pair n) c.loop-pair.first.now xs ≡ Ok (c.in-Ok.pair.0, plain c.in-Ok.pair.1)) c.first_lines.ensures c.in-Ok.ensures in
    let told = pair_more d (block d) n (is_pair n) c.loop-pair.first.now rest k c.loop-pair.pairs (c.in-Ok.pair.0) (plain c.in-Ok.pair.1) _ c.before_pair-more.ensures.value c.loop-pair.invariant.told h in
    let new = subst (λ x. with_pairs x (pairs_from d (block d) n (is_pair n) (drop k rest)) ≡ mapping_pairs c.args.depth (block c.args.depth) n c.args.head.now c.args.body.now) (sym c.in_ok-put.ensures) told in
    subst (λ m. mapping_pairs c.args.depth (block c.args.depth) m c.args.head.now c.args.body.now ≡ Ok c.put.new.pairs) c.indent-indent.ensures.value (pairs_end d (block d) n (is_pair n) (drop k rest) c.put.new.pairs _ (drop_all k rest c.if-more-rest.true) new)

pub mapping-loop-pair-preserved : goal.mapping-loop-pair-preserved
mapping-loop-pair-preserved t c =
    let d = c.args.depth in
    let n = c.indent-indent.result in
    let k = c.before_pair-more.result in
    let rest = c.loop-pair.rest.now in
    let h = subst (λ xs. first_pair d (block d) n (is_pair n) c.loop-pair.first.now xs ≡ Ok (c.in-Ok.pair.0, plain c.in-Ok.pair.1)) c.first_lines.ensures c.in-Ok.ensures in
    let told = pair_more d (block d) n (is_pair n) c.loop-pair.first.now rest k c.loop-pair.pairs (c.in-Ok.pair.0) (plain c.in-Ok.pair.1) _ c.before_pair-more.ensures.value c.loop-pair.invariant.told h in
    let new = subst (λ x. with_pairs x (pairs_from d (block d) n (is_pair n) (drop k rest)) ≡ mapping_pairs c.args.depth (block c.args.depth) n c.args.head.now c.args.body.now) (sym c.in_ok-put.ensures) told in
    let place : drop k rest ≡ c.index-rest-more.result ∷ c.lines_after-rest.result.now =
    drop_more rest k c.index-rest-more.result c.if-more-rest.false ∙ ap (λ x. x ∷ drop (k + 1) rest) (sym c.index-rest-more.is) ∙ ap (λ xs. c.index-rest-more.result ∷ xs) (sym c.lines_after-rest.ensures) in
    record {
      indent = c.indent-indent.ensures.value;
      told = subst (λ xs. with_pairs c.put.new.pairs (pairs_from d (block d) n (is_pair n) xs) ≡ mapping_pairs c.args.depth (block c.args.depth) n c.args.head.now c.args.body.now) place new;
    }

pub sequence-returns-in-Err : goal.sequence-returns-in-Err
sequence-returns-in-Err t c =
    let d = c.args.depth in
    let n = c.indent-indent.result in
    let k = c.before_item-more.result in
    let rest = c.loop-value.rest.now in
    let h = subst (λ xs. FailsLines c.in-Err.error (first_item d (block d) n (is_item n) c.loop-value.first.now xs)) c.first_lines.ensures c.in-Err.ensures in
    subst (λ m. FailsLines c.in-Err.error (sequence c.args.depth (block c.args.depth) m (all_entries (is_item m) c.args.head.now c.args.body.now))) c.indent-indent.ensures.value (item_fails_by d (block d) n (is_item n) c.loop-value.first.now rest k c.loop-value.items c.in-Err.error _ c.before_item-more.ensures.value c.loop-value.invariant.told h)

pub sequence-returns-then-more-rest : goal.sequence-returns-then-more-rest
sequence-returns-then-more-rest t c =
    let d = c.args.depth in
    let n = c.indent-indent.result in
    let k = c.before_item-more.result in
    let rest = c.loop-value.rest.now in
    let h = subst (λ xs. first_item d (block d) n (is_item n) c.loop-value.first.now xs ≡ Ok (plain c.in-Ok.value)) c.first_lines.ensures c.in-Ok.ensures in
    let told = item_more d (block d) n (is_item n) c.loop-value.first.now rest k c.loop-value.items (plain c.in-Ok.value) _ c.before_item-more.ensures.value c.loop-value.invariant.told h in
    let new = subst (λ x. with_items x (items_from d (block d) n (is_item n) (drop k rest)) ≡ sequence c.args.depth (block c.args.depth) n (all_entries (is_item n) c.args.head.now c.args.body.now)) (sym c.in_ok-push.ensures.ok) told in
    subst (λ m. sequence c.args.depth (block c.args.depth) m (all_entries (is_item m) c.args.head.now c.args.body.now) ≡ Ok c.push.new.self) c.indent-indent.ensures.value (items_end d (block d) n (is_item n) (drop k rest) c.push.new.self _ (drop_all k rest c.if-more-rest.true) new)

pub sequence-loop-value-preserved : goal.sequence-loop-value-preserved
sequence-loop-value-preserved t c =
    let d = c.args.depth in
    let n = c.indent-indent.result in
    let k = c.before_item-more.result in
    let rest = c.loop-value.rest.now in
    let h = subst (λ xs. first_item d (block d) n (is_item n) c.loop-value.first.now xs ≡ Ok (plain c.in-Ok.value)) c.first_lines.ensures c.in-Ok.ensures in
    let told = item_more d (block d) n (is_item n) c.loop-value.first.now rest k c.loop-value.items (plain c.in-Ok.value) _ c.before_item-more.ensures.value c.loop-value.invariant.told h in
    let new = subst (λ x. with_items x (items_from d (block d) n (is_item n) (drop k rest)) ≡ sequence c.args.depth (block c.args.depth) n (all_entries (is_item n) c.args.head.now c.args.body.now)) (sym c.in_ok-push.ensures.ok) told in
    let place : drop k rest ≡ c.index-rest-more.result ∷ c.lines_after-rest.result.now =
    drop_more rest k c.index-rest-more.result c.if-more-rest.false ∙ ap (λ x. x ∷ drop (k + 1) rest) (sym c.index-rest-more.is) ∙ ap (λ xs. c.index-rest-more.result ∷ xs) (sym c.lines_after-rest.ensures) in
    record {
      indent = c.indent-indent.ensures.value;
      told = subst (λ xs. with_items c.push.new.self (items_from d (block d) n (is_item n) xs) ≡ sequence c.args.depth (block c.args.depth) n (all_entries (is_item n) c.args.head.now c.args.body.now)) place new;
    }
