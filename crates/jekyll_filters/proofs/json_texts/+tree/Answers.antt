use Rattle.std.proofs.Common.{◌≡◌, ◌∙◌, ap, map, arith}
use Rattle.std.proofs.lemmas.Result.{err_from_is_err_and}
use Rattle.site_base.specs.View.{plain}
use Rattle.serde_json.specs.Data.{put}
use Rattle.serde_json.specs.View.{view, members_view}
use Rattle.filter_base.proofs.CallLaws.{stops_at}
use Rattle.jekyll_filters.proofs.JsonLaws.{item_lighter, pair_lighter, next_item, item_stops, list_gave, next_pair, pair_stops, hash_gave, none_pushed, none_put}
use Rattle.jekyll_filters.proofs.json_texts.+tree.Goals as goal

pub data_of-returns-in_ok-items_data-in-List-clause-gives : goal.data_of-returns-in_ok-items_data-in-List-clause-gives
data_of-returns-in_ok-items_data-in-List-clause-gives g t c =
    list_gave (g.L.Look.view c.args.look.now) (g.L.Look.trace c.args.look.now) _ c.args.value.now c.in-List.list c.as_slice.result.now c.in_ok-items_data-in-List.field-0
    (ap plain c.in-List.is) c.as_slice.ensures c.in_ok-items_data-in-List.ensures.gives

pub data_of-returns-in_ok-pairs_data-in-Hash-clause-gives : goal.data_of-returns-in_ok-pairs_data-in-Hash-clause-gives
data_of-returns-in_ok-pairs_data-in-Hash-clause-gives g t c =
    hash_gave (g.L.Look.view c.args.look.now) (g.L.Look.trace c.args.look.now) _ c.args.value.now c.in-Hash.hash c.as_slice-in-Hash.result.now c.in_ok-pairs_data-in-Hash.field-0
    (ap plain c.in-Hash.is) c.as_slice-in-Hash.ensures c.in_ok-pairs_data-in-Hash.ensures.gives

pub items_data-data_of-requires : goal.items_data-data_of-requires
items_data-data_of-requires g t c κs within =
    let less = item_lighter c.args.values.now c.loop-value.value-index c.value-item.result c.loop-value-test.true c.value-item.is in
    (omega (arith, less), within)

pub items_data-returns-in_err-data_of-clause-gives : goal.items_data-returns-in_err-data_of-clause-gives
items_data-returns-in_err-data_of-clause-gives g t c =
    let e = err_from_is_err_and c.from_residual-in_err-data_of.result c.from_residual-in_err-data_of.ensures.1 in
    rw (e.1, e.2) (stops_at _ _ _ _ c.loop-value.invariant.rest
    (item_stops _ _ _ (map view c.loop-value.made.items) c.args.values.now c.loop-value.value-index c.value-item.result _ c.loop-value-test.true c.value-item.is c.in_err-data_of.ensures.gives))

pub items_data-loop-value-preserved : goal.items_data-loop-value-preserved
items_data-loop-value-preserved g t c =
    let vs = c.args.values.now in let i = c.loop-value.value-index in let v = c.value-item.result in
    let xs = c.loop-value.made.items in let more = c.push.new.self.items in let x = c.in_ok-data_of.field-0 in
    record {
      same = c.in_ok-data_of.ensures.same ∙ c.loop-value.invariant.same;
      rest = c.loop-value.invariant.rest ∙ next_item _ _ _ _ xs more vs i v x c.loop-value-test.true c.value-item.is c.in_ok-data_of.ensures.same c.in_ok-push.ensures.items c.in_ok-data_of.ensures.gives;
      whole = none_pushed xs more x c.in_ok-push.ensures.items c.loop-value.invariant.whole c.in_ok-data_of.ensures.whole;
    }

pub pairs_data-data_of-requires : goal.pairs_data-data_of-requires
pairs_data-data_of-requires g t c κs within =
    let less = pair_lighter c.args.pairs.now c.loop-pair.pair-index c.pair-item.result c.loop-pair-test.true c.pair-item.is in
    (omega (arith, less), within)

pub pairs_data-returns-in_err-value-clause-gives : goal.pairs_data-returns-in_err-value-clause-gives
pairs_data-returns-in_err-value-clause-gives g t c =
    let e = err_from_is_err_and c.from_residual.result c.from_residual.ensures.1 in
    rw (e.1, e.2) (stops_at _ _ _ _ c.loop-pair.invariant.rest
    (pair_stops _ _ _ (members_view c.loop-pair.made.entries) c.args.pairs.now c.loop-pair.pair-index c.pair-item.result _ c.loop-pair-test.true c.pair-item.is c.in_err-value.ensures.gives))

pub pairs_data-loop-pair-preserved : goal.pairs_data-loop-pair-preserved
pairs_data-loop-pair-preserved g t c =
    let ps = c.args.pairs.now in let i = c.loop-pair.pair-index in let p = c.pair-item.result in
    let ms = members_view c.loop-pair.made.entries in let more = members_view c.put.new.members.entries in let d = view c.in_ok-value.value in
    let set : more ≡ put p.key d ms = c.in_ok-put.ensures ∙ ap (λ k. put k d ms) c.as_str.ensures in
    record {
      same = c.in_ok-value.ensures.same ∙ c.loop-pair.invariant.same;
      rest = c.loop-pair.invariant.rest ∙ next_pair _ _ _ _ ms more ps i p d c.loop-pair-test.true c.pair-item.is c.in_ok-value.ensures.same set c.in_ok-value.ensures.gives;
      whole = none_put p.key d ms more set c.in_ok-value.ensures.whole c.loop-pair.invariant.whole;
    }
