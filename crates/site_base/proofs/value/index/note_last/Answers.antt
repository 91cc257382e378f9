use Rattle.std.proofs.Common.{ℕ, List, ◌≡◌, ◌<◌, ◌-◌, ◌+◌, ◌==◌, cond, length, take, Some, None, ap, ◌∙◌, arith, subst}
use Rattle.std.specs.Option.{option_or}
use Rattle.std.specs.Ordering.{nat_cmp}
use Rattle.std.specs.BTreeMap.{btree_map_len, get}
use Rattle.std.proofs.lemmas.List.{take_all}
use Rattle.std.proofs.lemmas.Result.{on_ok_weaker, on_err_weaker}
use Rattle.site_base.specs.Fingerprints.{fingerprint, IsIndex}
use Rattle.site_base.proofs.IndexLaws.{index_more, some_noted}
use Rattle.site_base.proofs.value.index.note_last.Goals as goal

pub returns-clause-ok : goal.returns-clause-ok
returns-clause-ok c =
    let ps = c.args.pairs.now in
    let i = length ps - 1 in
    let m = c.args.places.now in
    let new = c.note.new.places in
    let some : 0 < btree_map_len m = some_noted _ (btree_map_len m) c.is_empty.ensures c.if-is_empty.false in
    let lt : i < length ps = omega arith in
    let all : take (i + 1) ps ≡ ps = take_all (i + 1) ps (omega arith) in
    on_ok_weaker c.note.result (λ (e : (print : ℕ) → get nat_cmp new print ≡ option_or (get nat_cmp m print) (cond (fingerprint c.as_str.result.now == print) (Some i) None)) _.
    subst (λ qs. IsIndex qs new) all
    (index_more ps i c.index-pairs-last.result m new lt (c.requires.noted some)
    (λ (print : ℕ).
    e print
    ∙ ap (λ (k : List ℕ). option_or (get nat_cmp m print) (cond (fingerprint k == print) (Some i) None)) c.as_str.ensures))) c.note.ensures.ok

pub returns-clause-err : goal.returns-clause-err
returns-clause-err c =
    let ps = c.args.pairs.now in
    let i = length ps - 1 in
    let m = c.args.places.now in
    let new = c.note.new.places in
    let some : 0 < btree_map_len m = some_noted _ (btree_map_len m) c.is_empty.ensures c.if-is_empty.false in
    on_err_weaker c.note.result (λ (e : (print : ℕ) → get nat_cmp new print ≡ get nat_cmp m print) _ print. e print ∙ c.requires.noted some print) c.note.ensures.err
