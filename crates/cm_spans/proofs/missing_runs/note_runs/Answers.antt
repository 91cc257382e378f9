use Rattle.std.proofs.Common.{List, arith, drop, length, refl, subst, sym, ℕ, ◌-◌, ◌≤◌, ◌∙◌}
use Rattle.cm_spans.specs.Missing.{LacksRuns}
use Rattle.cm_spans.proofs.RunLaws.{marks_within, one_mark, one_other}
use Rattle.cm_spans.proofs.missing_runs.note_runs.Goals as goal
use Rattle.cm_spans.proofs.missing_runs.note_runs.Goals.{then-text-at-eq96, else-text-at-eq96}

pub loop-at-preserved : goal.loop-at-preserved
loop-at-preserved c =
    let t = c.args.text.now in
    let at = c.loop-at.at in
    let i = c.loop-at.invariant in
    let some = c.loop-at-test.true in
    let before : at - 1 ≤ length t = omega (arith, i.within) in
    elim c.if-text-at-eq96.branch [
      | then-text-at-eq96 w ↦ (
          let more = one_mark c.loop-at.known t at c.loop-at.run some i.within w.if-text-at-eq96.true i.whole i.lacks in
          let whole = w.run-is ∙ more.0 in
          record { within = before; small = omega (arith, whole, marks_within t (at - 1) before); whole = whole; lacks = subst (λ (known : List ℕ). LacksRuns known (drop (at - 1) t)) (sym w.known-is) more.1 }
          )
      | else-text-at-eq96 w ↦ (
          let more = one_other c.loop-at.known w.note_run.new.known t at c.loop-at.run (length t - at) some i.within w.if-text-at-eq96.false i.whole refl w.note_run.ensures i.lacks in
          let whole = w.run-is ∙ more.0 in
          record { within = before; small = omega (arith, whole, marks_within t (at - 1) before); whole = whole; lacks = subst (λ (known : List ℕ). LacksRuns known (drop (at - 1) t)) (sym w.known-is) more.1 }
          )
    ]
