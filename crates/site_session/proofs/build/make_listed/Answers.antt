use Rattle.std.proofs.Common.{◌≡◌, ◌∙◌, sym, ap, subst, [], length, rules}
use Rattle.std.specs.Option.{IsSome}
use Rattle.out_tree.specs.Belief.{IsTrueOf, believed}
use Rattle.site_session.proofs.Builds.{all_done, holds_listed, holds_after, makes_but, nothing, some_failed}
use Rattle.site_session.proofs.build.make_listed.Goals as goal

pub returns-in-Err-clause-belief : goal.returns-in-Err-clause-belief
returns-in-Err-clause-belief g c = λ old told truth.
    let same = c.in-Err.ensures.err in
    holds_listed _ _ old old (subst (λ b. IsSome b) (sym same.0) c.requires.some) (ap g.O.OutTree.contents same.1 ∙ told) (subst (λ b. IsTrueOf (believed b) old) (sym same.0) truth)

pub returns-then-is_empty-clause-answers : goal.returns-then-is_empty-clause-answers
returns-then-is_empty-clause-answers g c = λ now reply is.
    let none : c.in-Ok.applied.failed ≡ [] = nothing _ (let len : length c.in-Ok.applied.failed ≡ 0 = search rules in len) in
    all_done now c.args.output _ _ c.in-Ok.applied.failed _ reply none c.in-Ok.ensures.in_order c.in-Ok.ensures.belief
    (λ i. record { rendered = c.args.output.rendered; reused = c.args.output.reused; written = c.in-Ok.ensures.written i; removed = c.in-Ok.ensures.removed i; why = c.args.output.why })
    is

pub returns-clause-answers : goal.returns-clause-answers
returns-clause-answers g c = λ now reply is.
    some_failed now c.args.output _ _ c.in-Ok.applied.failed reply (λ none. let len : length c.in-Ok.applied.failed ≡ 0 = ap length none in search rules) c.in-Ok.ensures.in_order c.in-Ok.ensures.belief is

pub returns-then-is_empty-clause-belief : goal.returns-then-is_empty-clause-belief
returns-then-is_empty-clause-belief g c = λ old told truth.
    let some : IsSome c.make_equal.new.self = search rules in
    holds_after c.args.keeper.now c.make_equal.new.self _ _ _ _ old old some c.in-Ok.ensures.contents c.in-Ok.ensures.truth told truth

pub returns-then-is_empty-clause-made : goal.returns-then-is_empty-clause-made
returns-then-is_empty-clause-made g c = λ old failed told truth is.
    let none : c.in-Ok.applied.failed ≡ [] = nothing _ (let len : length c.in-Ok.applied.failed ≡ 0 = search rules in len) in
    makes_but c.args.keeper.now c.make_equal.new.self _ _ c.args.output.written _ _ failed old c.in-Ok.ensures.contents c.in-Ok.ensures.made
    c.in-Ok.ensures.marked (is ∙ sym none) told truth

pub returns-clause-made : goal.returns-clause-made
returns-clause-made g c = λ old failed told truth is.
    makes_but c.args.keeper.now c.make_equal.new.self _ _ c.args.output.written _ _ failed old c.in-Ok.ensures.contents c.in-Ok.ensures.made
    c.in-Ok.ensures.marked is told truth

pub returns-clause-belief : goal.returns-clause-belief
returns-clause-belief g c = λ old told truth.
    let some : IsSome c.make_equal.new.self = search rules in
    holds_after c.args.keeper.now c.make_equal.new.self _ _ _ _ old old some c.in-Ok.ensures.contents c.in-Ok.ensures.truth told truth
