use Rattle.std.proofs.Common.{arith, sym, ◌∙◌, ap, List, ℕ, take}
use Rattle.std.specs.FinMap.{keys, contains_key-keys}
use Rattle.site_base.specs.PathMap.{as_map}
use Rattle.site_base.specs.Clash.{has_folder}
use Rattle.site_base.proofs.Clashing.{one_more, no_folder, some_folder}
use Rattle.site_base.proofs.path_map.PathMap.has_folder.Goals as goal
use Rattle.site_base.proofs.path_map.PathMap.has_folder.Goals.{else-bytes-end-eq47-via-then-bytes-end-eq47+else-holds, else-bytes-end-eq47-via-else-bytes-end-eq47}

pub loop-end-init : goal.loop-end-init
loop-end-init g c = λ k lt at. absurd (omega arith)

pub returns-then-holds : goal.returns-then-holds
returns-then-holds g c =
    let m = as_map c.args.self.now in
    sym (ap (λ (p : List ℕ). has_folder p (keys m)) (sym c.as_bytes-bytes.ensures.bytes)
    ∙ some_folder c.as_bytes-bytes.result.now (keys m) c.loop-end.end c.loop-end-test.true c.if-bytes-end-eq47.true
    (sym (contains_key-keys m (take c.loop-end.end c.as_bytes-bytes.result.now)) ∙ sym c.holds.ensures ∙ c.if-holds.true))

pub loop-end-preserved : goal.loop-end-preserved
loop-end-preserved g c =
    let m = as_map c.args.self.now in
    one_more c.as_bytes-bytes.result.now (keys m) c.loop-end.end c.loop-end.invariant (λ at.
    elim c.else-bytes-end-eq47.branch [
      | else-bytes-end-eq47-via-then-bytes-end-eq47+else-holds w ↦ sym (contains_key-keys m (take c.loop-end.end c.as_bytes-bytes.result.now)) ∙ sym w.holds.ensures ∙ w.if-holds.false
      | else-bytes-end-eq47-via-else-bytes-end-eq47 w ↦ absurd (w.if-bytes-end-eq47.false at)
    ])

pub returns : goal.returns
returns g c =
    let m = as_map c.args.self.now in
    sym (ap (λ (p : List ℕ). has_folder p (keys m)) (sym c.as_bytes-bytes.ensures.bytes)
    ∙ no_folder c.as_bytes-bytes.result.now (keys m) (λ k lt at. c.loop-end.invariant k (omega arith) at))
