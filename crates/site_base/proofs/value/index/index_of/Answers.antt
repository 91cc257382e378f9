use Rattle.std.proofs.Common.{ℕ, List, ◌==◌, cond, Some, None, ap, ◌∙◌}
use Rattle.std.specs.Option.{option_or}
use Rattle.std.specs.Ordering.{nat_cmp}
use Rattle.std.specs.BTreeMap.{get}
use Rattle.site_base.specs.Fingerprints.{fingerprint}
use Rattle.site_base.specs.declared.value.Pair.{Pair}
use Rattle.site_base.proofs.IndexLaws.{index_more}
use Rattle.site_base.proofs.value.index.index_of.Goals as goal

pub loop-place-preserved : goal.loop-place-preserved
loop-place-preserved c =
    let i = c.loop-place.place in
    let m = c.loop-place.places in
    index_more c.args.pairs.now i c.index-pairs-place.result m c.note.new.places c.loop-place-test.true c.loop-place.invariant
    (λ (print : ℕ).
    c.in_ok-note.ensures.ok print
    ∙ ap (λ (k : List ℕ). option_or (get nat_cmp m print) (cond (fingerprint k == print) (Some i) None)) c.as_str.ensures
    ∙ ap (λ (p : Pair). option_or (get nat_cmp m print) (cond (fingerprint p.key == print) (Some i) None)) c.index-pairs-place.is)
