use Rattle.std.proofs.Common.{◌≡◌, ◌∙◌, ap, arith, length, sym, vec_len}
use Rattle.source_tree.proofs.Fitted.{VecFile, counted-found, counted-step}
use Rattle.source_tree.proofs.fitting.count_fitting.Goals as goal

pub returns-then-is_some-clause-number : goal.returns-then-is_some-clause-number
returns-then-is_some-clause-number c =
    let file = c.index-files-number.result in
    let len : c.len-bytes.result ≡ length file.1.items = omega (arith, c.len-bytes.ensures, ap (λ (f : VecFile). vec_len f.1) c.index-files-number.is, file.1.ok.0) in
    (counted-found c.args.files.now _ _ _ file _ c.loop-number-test.true c.index-files-number.is len c.passed_limit-limit.ensures (sym c.is_some.ensures ∙ c.if-is_some.true) c.loop-number.invariant).number_is

pub returns-then-is_some-clause-limit : goal.returns-then-is_some-clause-limit
returns-then-is_some-clause-limit c =
    let file = c.index-files-number.result in
    let len : c.len-bytes.result ≡ length file.1.items = omega (arith, c.len-bytes.ensures, ap (λ (f : VecFile). vec_len f.1) c.index-files-number.is, file.1.ok.0) in
    (counted-found c.args.files.now _ _ _ file _ c.loop-number-test.true c.index-files-number.is len c.passed_limit-limit.ensures (sym c.is_some.ensures ∙ c.if-is_some.true) c.loop-number.invariant).limit_is

pub loop-number-preserved : goal.loop-number-preserved
loop-number-preserved c =
    let file = c.index-files-number.result in
    let len : c.len-bytes.result ≡ length file.1.items = omega (arith, c.len-bytes.ensures, ap (λ (f : VecFile). vec_len f.1) c.index-files-number.is, file.1.ok.0) in
    counted-step c.args.files.now _ _ _ file _ c.loop-number-test.true c.index-files-number.is len c.passed_limit-limit.ensures (sym c.is_some.ensures ∙ c.if-is_some.false) c.loop-number.invariant
