use Rattle.std.proofs.Common.{◌∙◌, ap, arith, List, Some, subst, sym, ℕ}
use Rattle.site_base.specs.declared.faults.FaultKind.TheVariants.{FileTooLong}
use Rattle.source_tree.specs.Reading.{Follows, Going}
use Rattle.source_tree.proofs.Steps.{follows-step, follows-measured, going-measured, going-step, limit_is, next, next_get, next_has, too_long, too_long-measured}
use Rattle.source_tree.proofs.reading.Reading.read_all.Goals as goal

pub read_one-requires : goal.read_one-requires
read_one-requires g c = λ files told.
    let i = c.loop-path.invariant in
    next_has files _ _ c.loop-path.reading (subst (λ (left : List (List ℕ)). Going files left c.loop-path.reading) c.in-Some.ensures.steps.0 (i.going files (sym i.same ∙ told)))

pub returns-then-len-gt-MOST_BYTES-clause-limit : goal.returns-then-len-gt-MOST_BYTES-clause-limit
returns-then-len-gt-MOST_BYTES-clause-limit g c = λ fault is files told.
    let i = c.loop-path.invariant in
    let going = subst (λ (left : List (List ℕ)). Going files left c.loop-path.reading) c.in-Some.ensures.steps.0 (i.going files told) in
    let n = next files _ _ c.loop-path.reading going in
    let read = c.in_ok-bytes.ensures.reads files n.file.1 (i.same ∙ told) (next_get files _ _ c.loop-path.reading n) in
    let long = too_long files _ _ c.loop-path.reading _ n read (omega (arith, c.len.ensures, c.in_ok-bytes.bytes.ok.0)) in
    let f = limit_is FileTooLong _ c.limit-then-len-gt-MOST_BYTES.result fault c.limit-then-len-gt-MOST_BYTES.ensures is in
    (f.0, long ∙ ap Some f.1)

pub loop-path-preserved : goal.loop-path-preserved
loop-path-preserved g c =
    let i = c.loop-path.invariant in
    record {
      same = c.read_one.ensures.same ∙ i.same;
      failures = c.in_ok-bytes.ensures.cause.same ∙ i.failures;
      follows = follows-step c.args.paths.items _ _ c.in_ok-bytes.bytes.items c.loop-path.reading c.add.new.self (subst (λ (left : List (List ℕ)). Follows c.args.paths.items left c.loop-path.reading) c.in-Some.ensures.steps.0 i.follows) c.in_ok-add.ensures;
      going = λ files told.
          let going = subst (λ (left : List (List ℕ)). Going files left c.loop-path.reading) c.in-Some.ensures.steps.0 (i.going files told) in
          let n = next files _ _ c.loop-path.reading going in
          let read = c.in_ok-bytes.ensures.reads files n.file.1 (i.same ∙ told) (next_get files _ _ c.loop-path.reading n) in
          going-step files _ _ c.loop-path.reading c.add.new.self _ n read (omega (arith, c.len.ensures, c.in_ok-bytes.bytes.ok.0)) c.in_ok-add.ensures;
    }

pub measure_one-requires : goal.measure_one-requires
measure_one-requires g c = λ files told.
    let i = c.loop-path.invariant in
    next_has files _ _ c.loop-path.reading (subst (λ (left : List (List ℕ)). Going files left c.loop-path.reading) c.in-Some.ensures.steps.0 (i.going files (sym i.same ∙ told)))

pub returns-then-branch-gt-MOST_BYTES-clause-limit : goal.returns-then-branch-gt-MOST_BYTES-clause-limit
returns-then-branch-gt-MOST_BYTES-clause-limit g c = λ fault is files told.
    let i = c.loop-path.invariant in
    let going = subst (λ (left : List (List ℕ)). Going files left c.loop-path.reading) c.in-Some.ensures.steps.0 (i.going files told) in
    let n = next files _ _ c.loop-path.reading going in
    let counted = c.in_ok-measure_one.ensures.measures files n.file.1 (i.same ∙ told) (next_get files _ _ c.loop-path.reading n) in
    let long = too_long-measured files _ _ c.loop-path.reading _ n counted c.if-branch-gt-MOST_BYTES.true in
    let f = limit_is FileTooLong _ c.limit.result fault c.limit.ensures is in
    (f.0, long ∙ ap Some f.1)

pub loop-path-preserved-then-is_some : goal.loop-path-preserved-then-is_some
loop-path-preserved-then-is_some g c =
    let i = c.loop-path.invariant in
    let over = sym c.is_some.ensures ∙ c.if-is_some.true in
    record {
      same = c.measure_one.ensures.same ∙ i.same;
      failures = c.in_ok-measure_one.ensures.cause.same ∙ i.failures;
      follows = follows-measured c.args.paths.items _ c.loop-path.reading over;
      going = λ files told.
          let going = subst (λ (left : List (List ℕ)). Going files left c.loop-path.reading) c.in-Some.ensures.steps.0 (i.going files told) in
          let n = next files _ _ c.loop-path.reading going in
          let counted = c.in_ok-measure_one.ensures.measures files n.file.1 (i.same ∙ told) (next_get files _ _ c.loop-path.reading n) in
          going-measured files _ _ c.loop-path.reading _ n over counted c.if-branch-gt-MOST_BYTES.false;
    }
