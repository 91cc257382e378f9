use Rattle.std.proofs.Common.{◌≡◌, ◌∙◌, ap, refl, sym, subst, []}
use Rattle.std.specs.Option.{IsSome}
use Rattle.out_tree.specs.Belief.{believed}
use Rattle.site_session.specs.Session.{plan}
use Rattle.site_session.proofs.Builds.{Listed, ListedBy, called, on_err, make_answers, mid_true, holds_again, same_told, settled_by}
use Rattle.site_session.proofs.build.make.Goals as goal

listed : (g : Rattle.site_session.proofs.build.make.Given.Over) (c : goal.After-make_listed g) → Listed c.args.keeper.now c.list_once.new.self (g.O.OutTree.contents c.args.out.now)
listed g c = record {
  again = λ some. (c.list_once.ensures.again some).1;
  marks = λ none files told. c.in-Ok.ensures.marked none files told;
}

pub returns-in-Ok-clause-answers : goal.returns-in-Ok-clause-answers
returns-in-Ok-clause-answers g c = λ given now reply was base h is.
    make_answers given now c.args.output reply c.args.keeper.now _ _ c.make_listed.new.base _ (listed g c) h (c.make_listed.ensures.unlisted reply is) (c.make_listed.ensures.answers now reply is)

pub returns-in-Ok-clause-belief : goal.returns-in-Ok-clause-belief
returns-in-Ok-clause-belief g c = λ first h.
    let mid = mid_true c.args.keeper.now _ _ first c.in-Ok.ensures.listed c.list_once.ensures.holds h in
    holds_again _ _ first mid.0 c.make_listed.ensures.listed (c.make_listed.ensures.belief mid.0 (c.list_once.ensures.same ∙ mid.1) mid.2)

pub returns-in-Ok-clause-made : goal.returns-in-Ok-clause-made
returns-in-Ok-clause-made g c = λ first failed h is.
    let mid = mid_true c.args.keeper.now _ _ first c.in-Ok.ensures.listed c.list_once.ensures.holds h in
    let made = c.make_listed.ensures.made mid.0 failed (c.list_once.ensures.same ∙ mid.1) mid.2 is in
    (same_told failed c.args.output.written _ _ _ c.list_once.ensures.same made.0, made.1)

listed_by : (g : Rattle.site_session.proofs.build.make.Given.Over) (c : goal.After-make_listed g) → ListedBy c.args.keeper.now (g.O.OutTree.calls c.args.out.now) (g.O.OutTree.calls c.list_once.new.device)
listed_by g c = record {
  again = λ some. ap g.O.OutTree.calls (c.list_once.ensures.again some).2;
  once = λ none. c.list_once.ensures.calls none;
}

pub returns-in-Ok-clause-called : goal.returns-in-Ok-clause-called
returns-in-Ok-clause-called g c = λ first h.
    called c.args.keeper.now _ _ first c.args.output.written _ _ _ c.make_listed.result (listed g c) h (listed_by g c) c.make_listed.ensures.no_fault c.make_listed.ensures.unlisted c.make_listed.ensures.called
    (on_err c.make_listed.result (λ same. ap g.O.OutTree.calls same.1) c.make_listed.ensures.err)

pub returns-in-Ok-clause-idle : goal.returns-in-Ok-clause-idle
returns-in-Ok-clause-idle g c = λ belief is nothing.
    let again = c.list_once.ensures.again (subst IsSome (sym is) refl) in
    c.make_listed.ensures.idle (subst (λ b. plan (believed b) c.args.output.written ≡ []) (sym (again.1 ∙ is)) nothing) ∙ again.2

pub returns-in-Ok-clause-settled : goal.returns-in-Ok-clause-settled
returns-in-Ok-clause-settled g c = λ report is. settled_by c.make_listed.new.keeper c.args.output.written c.make_listed.ensures.listed (c.make_listed.ensures.settled report is)

pub returns-in-Err-Failed-clause-idle : goal.returns-in-Err-Failed-clause-idle
returns-in-Err-Failed-clause-idle g c = λ belief is nothing. (c.list_once.ensures.again (subst IsSome (sym is) refl)).2

pub returns-clause-idle : goal.returns-clause-idle
returns-clause-idle g c = λ belief is nothing. (c.list_once.ensures.again (subst IsSome (sym is) refl)).2
