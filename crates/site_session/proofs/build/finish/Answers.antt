use Rattle.std.proofs.Common.{Result, sym, subst}
use Rattle.site_reader.specs.declared.site_error.SiteError.{SiteError}
use Rattle.site_session.specs.Makes.{Finishes}
use Rattle.site_session.specs.declared.output.Output.{Output}
use Rattle.site_session.proofs.build.finish.Goals as goal

pub returns-in-Ok : goal.returns-in-Ok
returns-in-Ok g c =
    let made = c.make.ensures in
    subst (λ (o : Result Output SiteError). Finishes g.O.OutTree.contents g.O.OutTree.calls g.O.OutTree.failures o c.make.result c.args.keeper.now c.make.new.keeper c.args.base.now c.make.new.base c.args.out.now c.make.new.out) (sym c.in-Ok.is)
    (record {
      answers = made.answers;
      based = made.based;
      belief = made.belief;
      made = made.made;
      unlisted = made.unlisted_same;
      no_fault = made.no_fault;
      later = made.later;
      cause = made.cause;
      steady = made.steady;
      idle = made.idle;
      settled = made.settled;
      counts = made.counts;
      called = made.called;
      err = made.err;
      short = made.short;
    })
