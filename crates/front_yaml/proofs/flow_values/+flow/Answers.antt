use Rattle.std.proofs.Common.{ℕ, List, ◌+◌, drop, length, length-drop, subst, sym, ap, ◌∙◌, arith, Ok, Err}
use Rattle.site_base.specs.View.{plain}
use Rattle.front_yaml.specs.declared.faults.PlaceError.{PlaceError}
use Rattle.front_yaml.specs.declared.faults.PlaceError.TheVariants as place_error
use Rattle.front_yaml.specs.declared.faults.PlaceFault.{PlaceFault}
use Rattle.front_yaml.specs.declared.flow_parts.Part.{Part}
use Rattle.site_base.specs.declared.value.Value.{Value}
use Rattle.front_yaml.specs.Given.{FailsAt, ReadsSized, ReadsItem, ReadsPair, PartFits}
use Rattle.front_yaml.specs.Flow.{node, part, items, pairs, with_items, with_pairs, entry, collection}
use Rattle.front_yaml.proofs.FlowLaws.{too_deep, is_list, is_hash, items_start, items_shut, items_last, items_more, items_fault, items_end, pairs_start, pairs_shut, pairs_last, pairs_more, pairs_fault, pairs_end}
use Rattle.front_yaml.proofs.flow_values.+flow.Goals as goal

pub collection-returns-then-depth-eq0-clause-value : goal.collection-returns-then-depth-eq0-clause-value
collection-returns-then-depth-eq0-clause-value t c = subst (λ (e : PlaceError). FailsAt e (collection c.args.depth c.args.text.now)) (sym c.at.ensures) (too_deep c.args.depth c.args.text.now c.if-depth-eq0.true)

pub collection-returns-then-starts-clause-value : goal.collection-returns-then-starts-clause-value
collection-returns-then-starts-clause-value t c =
    subst (λ r. ReadsSized c.list.result r) (sym (is_list c.args.depth c.args.text.now c.if-depth-eq0.false (sym c.starts.ensures ∙ c.if-starts.true))) c.list.ensures.value

pub collection-returns-else-starts-clause-value : goal.collection-returns-else-starts-clause-value
collection-returns-else-starts-clause-value t c =
    subst (λ r. ReadsSized c.hash.result r) (sym (is_hash c.args.depth c.args.text.now c.if-depth-eq0.false (sym c.starts.ensures ∙ c.if-starts.false))) c.hash.ensures.value

pub items-returns-in-Ok-clause-value : goal.items-returns-in-Ok-clause-value
items-returns-in-Ok-clause-value t c =
    let read = items (node (collection c.args.depth)) c.args.text.now in
    sym (items_start read) ∙ ap (λ is. with_items 0 is read) (sym c.new-items.ensures) ∙ c.in-Ok.ensures.value

pub items-returns-in-Err-clause-value : goal.items-returns-in-Err-clause-value
items-returns-in-Err-clause-value t c =
    let read = items (node (collection c.args.depth)) c.args.text.now in
    subst (λ r. FailsAt c.in-Err.error r) (ap (λ is. with_items 0 is read) c.new-items.ensures ∙ items_start read) c.in-Err.ensures.value

pub add_items-returns-in-Ok-Shut-clause-value : goal.add_items-returns-in-Ok-Shut-clause-value
add_items-returns-in-Ok-Shut-clause-value t c =
    let child = node (collection c.args.depth) in
    let s = c.args.text.now in
    let n = c.loop-n.n in
    let h = subst (λ (x : Part Value). ReadsItem (Ok x) (part 93 child c.tail.result.now)) c.in-Ok-Shut.field-0-is c.in-Ok-Shut.ensures.value in
    items_shut child n c.in-Ok-Shut.len c.loop-n.list s _ c.loop-n-test.true c.loop-n.invariant.told (ap (part 93 child) (sym c.tail.ensures) ∙ h)

pub add_items-returns-in-Ok-Last-clause-value : goal.add_items-returns-in-Ok-Last-clause-value
add_items-returns-in-Ok-Last-clause-value t c =
    let child = node (collection c.args.depth) in
    let s = c.args.text.now in
    let n = c.loop-n.n in
    let h = subst (λ (x : Part Value). ReadsItem (Ok x) (part 93 child c.tail.result.now)) c.in-Ok-Last.field-0-is c.in-Ok-Last.ensures.value in
    items_last child n c.in-Ok-Last.len (plain c.in-Ok-Last.value) c.loop-n.list s _ c.loop-n-test.true c.loop-n.invariant.told (ap (part 93 child) (sym c.tail.ensures) ∙ h) ∙ ap (λ x. Ok (x, n + c.in-Ok-Last.len + 1)) (sym c.in_ok-push-in-Ok-Last.ensures.ok)

pub add_items-loop-n-preserved : goal.add_items-loop-n-preserved
add_items-loop-n-preserved t c =
    let child = node (collection c.args.depth) in
    let s = c.args.text.now in
    let n = c.loop-n.n in
    let m = n + (c.in-Ok-More.len + 1) in
    let h = subst (λ (x : Part Value). ReadsItem (Ok x) (part 93 child c.tail.result.now)) c.in-Ok-More.field-0-is c.in-Ok-More.ensures.value in
    let w = subst (λ (x : Part Value). PartFits (length c.tail.result.now) (Ok x)) c.in-Ok-More.field-0-is c.in-Ok-More.ensures.within in
    record {
      within = omega (arith, w, ap length c.tail.ensures, length-drop n s);
      told = ap (λ x. with_items m x (items child (drop m s))) c.in_ok-push-in-Ok-More.ensures.ok ∙ items_more child n c.in-Ok-More.len m (plain c.in-Ok-More.value) c.loop-n.list s _ (omega arith) c.loop-n-test.true c.loop-n.invariant.told (ap (part 93 child) (sym c.tail.ensures) ∙ h);
    }

pub add_items-returns-in-Err-Fault-clause-value : goal.add_items-returns-in-Err-Fault-clause-value
add_items-returns-in-Err-Fault-clause-value t c =
    let child = node (collection c.args.depth) in
    let s = c.args.text.now in
    let n = c.loop-n.n in
    let h = subst (λ (x : PlaceError). ReadsItem (Err x) (part 93 child c.tail.result.now)) c.in-Err-Fault.field-0-is c.in-Err-Fault.ensures.value in
    let e = ap (λ (f : PlaceFault). place_error.Fault (record { place = n + f.place; kind = f.kind })) c.in-Err-Fault.fault-is in
    subst (λ (x : PlaceError). FailsAt x (with_items 0 c.args.list.now (items child s))) (sym (c.further.ensures ∙ e)) (items_fault child n (c.in-Err-Fault.fault.place, c.in-Err-Fault.fault.kind) c.loop-n.list s _ c.loop-n-test.true c.loop-n.invariant.told (ap (part 93 child) (sym c.tail.ensures) ∙ h))

pub add_items-returns-clause-value : goal.add_items-returns-clause-value
add_items-returns-clause-value t c =
    let child = node (collection c.args.depth) in
    let s = c.args.text.now in
    let n = c.loop-n.n in
    subst (λ (x : PlaceError). FailsAt x (with_items 0 c.args.list.now (items child s))) (sym c.at.ensures) (items_end child n c.loop-n.list s _ c.loop-n-test.false c.loop-n.invariant.told)

pub pairs-returns-in-Ok-clause-value : goal.pairs-returns-in-Ok-clause-value
pairs-returns-in-Ok-clause-value t c =
    let child = node (collection c.args.depth) in
    sym (pairs_start child c.args.text.now) ∙ ap (λ ps. with_pairs 0 ps (pairs child c.args.text.now)) (sym c.new-pairs.ensures) ∙ c.in-Ok.ensures.value

pub pairs-returns-in-Err-clause-value : goal.pairs-returns-in-Err-clause-value
pairs-returns-in-Err-clause-value t c =
    let child = node (collection c.args.depth) in
    subst (λ r. FailsAt c.in-Err.error r) (ap (λ ps. with_pairs 0 ps (pairs child c.args.text.now)) c.new-pairs.ensures ∙ pairs_start child c.args.text.now) c.in-Err.ensures.value

pub add_pairs-returns-in-Ok-Shut-clause-value : goal.add_pairs-returns-in-Ok-Shut-clause-value
add_pairs-returns-in-Ok-Shut-clause-value t c =
    let child = node (collection c.args.depth) in
    let s = c.args.text.now in
    let n = c.loop-n.n in
    let h = subst (λ (x : Part (List ℕ × Value)). ReadsPair (Ok x) (part 125 (entry child) c.tail.result.now)) c.in-Ok-Shut.field-0-is c.in-Ok-Shut.ensures.value in
    pairs_shut child n c.in-Ok-Shut.len c.loop-n.hash s _ c.loop-n-test.true c.loop-n.invariant.told (ap (part 125 (entry child)) (sym c.tail.ensures) ∙ h)

pub add_pairs-returns-in-Ok-Last-clause-value : goal.add_pairs-returns-in-Ok-Last-clause-value
add_pairs-returns-in-Ok-Last-clause-value t c =
    let child = node (collection c.args.depth) in
    let s = c.args.text.now in
    let n = c.loop-n.n in
    let h = subst (λ (x : Part (List ℕ × Value)). ReadsPair (Ok x) (part 125 (entry child) c.tail.result.now)) c.in-Ok-Last.field-0-is c.in-Ok-Last.ensures.value in
    pairs_last child n c.in-Ok-Last.len c.in-Ok-Last.pair.0 (plain c.in-Ok-Last.pair.1) c.loop-n.hash s _ c.loop-n-test.true c.loop-n.invariant.told (ap (part 125 (entry child)) (sym c.tail.ensures) ∙ h) ∙ ap (λ x. Ok (x, n + c.in-Ok-Last.len + 1)) (sym c.in_ok-put-in-Ok-Last.ensures)

pub add_pairs-loop-n-preserved : goal.add_pairs-loop-n-preserved
add_pairs-loop-n-preserved t c =
    let child = node (collection c.args.depth) in
    let s = c.args.text.now in
    let n = c.loop-n.n in
    let m = n + (c.in-Ok-More.len + 1) in
    let h = subst (λ (x : Part (List ℕ × Value)). ReadsPair (Ok x) (part 125 (entry child) c.tail.result.now)) c.in-Ok-More.field-0-is c.in-Ok-More.ensures.value in
    let w = subst (λ (x : Part (List ℕ × Value)). PartFits (length c.tail.result.now) (Ok x)) c.in-Ok-More.field-0-is c.in-Ok-More.ensures.within in
    record {
      within = omega (arith, w, ap length c.tail.ensures, length-drop n s);
      told = ap (λ x. with_pairs m x (pairs child (drop m s))) c.in_ok-put-in-Ok-More.ensures ∙ pairs_more child n c.in-Ok-More.len m c.in-Ok-More.pair.0 (plain c.in-Ok-More.pair.1) c.loop-n.hash s _ (omega arith) c.loop-n-test.true c.loop-n.invariant.told (ap (part 125 (entry child)) (sym c.tail.ensures) ∙ h);
    }

pub add_pairs-returns-in-Err-Fault-clause-value : goal.add_pairs-returns-in-Err-Fault-clause-value
add_pairs-returns-in-Err-Fault-clause-value t c =
    let child = node (collection c.args.depth) in
    let s = c.args.text.now in
    let n = c.loop-n.n in
    let h = subst (λ (x : PlaceError). ReadsPair (Err x) (part 125 (entry child) c.tail.result.now)) c.in-Err-Fault.field-0-is c.in-Err-Fault.ensures.value in
    let e = ap (λ (f : PlaceFault). place_error.Fault (record { place = n + f.place; kind = f.kind })) c.in-Err-Fault.fault-is in
    subst (λ (x : PlaceError). FailsAt x (with_pairs 0 c.args.hash.now (pairs child s))) (sym (c.further.ensures ∙ e)) (pairs_fault child n (c.in-Err-Fault.fault.place, c.in-Err-Fault.fault.kind) c.loop-n.hash s _ c.loop-n-test.true c.loop-n.invariant.told (ap (part 125 (entry child)) (sym c.tail.ensures) ∙ h))

pub add_pairs-returns-clause-value : goal.add_pairs-returns-clause-value
add_pairs-returns-clause-value t c =
    let child = node (collection c.args.depth) in
    let s = c.args.text.now in
    let n = c.loop-n.n in
    subst (λ (x : PlaceError). FailsAt x (with_pairs 0 c.args.hash.now (pairs child s))) (sym c.at.ensures) (pairs_end child n c.loop-n.hash s _ c.loop-n-test.false c.loop-n.invariant.told)
