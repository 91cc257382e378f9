use Rattle.std.proofs.Common.{◌≡◌, ◌∙◌, ◌∷◌, ◌+◌, ◌<◌, suc, sym, ap, drop, drop-cons, drop_of_length-le, add-one, [], length, rules}
use Rattle.site_base.specs.Plain.{item, key_list, no_items, onto, text}
use Rattle.site_base.specs.View.{pairs_of}
use Rattle.site_items.specs.Labels.{text_items}
use Rattle.site_items.proofs.Placing.{listed_more, onto_none}
use Rattle.site_items.proofs.labels.name_list.Goals as goal

pub loop-pair-preserved : goal.loop-pair-preserved
loop-pair-preserved c =
    let i = c.loop-pair.pair-index in
    let pairs = c.as_slice-pair-items.result.now in
    let inside : i < length pairs = search rules in
    let next : drop i pairs ≡ c.pair-item.result ∷ drop (i + 1) pairs = rw add-one (drop-cons pairs i c.pair-item.result inside ∙ ap (λ s. s ∷ drop (suc i) pairs) (sym c.pair-item.is)) in
    listed_more c.loop-pair.list c.push.new.self (text c.pair-item.result.key) (text_items (key_list (pairs_of (drop (i + 1) pairs)))) (c.in_ok-push.ensures.ok ∙ ap (λ t. onto c.loop-pair.list (item (text t) no_items)) (c.in_ok-copy.ensures ∙ c.as_str.ensures)) (rw next at c.loop-pair.invariant)

pub returns : goal.returns
returns c =
    let none : drop c.loop-pair.pair-index c.as_slice-pair-items.result.now ≡ [] = drop_of_length-le c.as_slice-pair-items.result.now c.loop-pair-test.false in
    sym (onto_none c.loop-pair.list) ∙ (rw none at c.loop-pair.invariant) ∙ ap (λ ps. text_items (key_list ps)) c.as_slice-pair-items.ensures
